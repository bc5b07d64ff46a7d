-- Laws of putting texts into a line, one after the other.
use Rattle.std.specs.Prelude.{◌≡◌, refl, List, [], ◌∷◌, ◌++◌, ℕ, ◌+◌, ◌≤◌, ◌<◌, length, get_or, take, set}
use Rattle.std.proofs.Common.{sym, ap, ◌∙◌, append_assoc, append-nil, arith, add-one, length-append, length-set, take-suc, take-suc-set, take_all}
use borrow.Rule.Slice.PartMut.{mid_of, put_mid, same_len_mid}
use Rattle.std.proofs.lemmas.Slice.{take-put_mid}
use Rattle.plank_core.specs.Lists.{bind, upto}
use Rattle.plank_core.specs.laws.Loops.{bind_snoc, upto_more}
use Rattle.plank_core.specs.inner.Putting.{Put}

pub put_as : {xs ys : List ℕ} {at r : ℕ} {old new : List ℕ} → xs ≡ ys → Put xs at old new r → Put ys at old new r
put_as e k = rw e at k

pub put_nothing : {at : ℕ} {old : List ℕ} → at ≤ length old → Put [] at old old at
put_nothing {at} {old} h = record { next = omega arith; list = sym (append-nil (take at old)); long = refl; fits = h }

pub put_then : {xs ys : List ℕ} {at m r : ℕ} {old mid new : List ℕ} → Put xs at old mid m → Put ys m mid new r → Put (xs ++ ys) at old new r
put_then {xs} {ys} {at} {m} {r} {old} {mid} {new} a b = record {
  next = let l = length-append xs ys in omega (arith, a.next, b.next);
  list = b.list ∙ ap (λ (l : List ℕ). l ++ ys) a.list ∙ append_assoc (take at old) xs ys;
  long = b.long ∙ a.long;
  fits = omega (arith, b.fits, a.long);
}

-- a part of the line that holds the text now
pub put_part : (text : List ℕ) (at k : ℕ) (old part : List ℕ) → at + length text ≤ length old → length part ≡ length (mid_of at k old) → part ≡ text → Put text at old (put_mid at k old part) (at + length text)
put_part text at k old part h e f =
    let l : length part ≡ length text = ap length f in
    record {
      next = refl;
      list = take-put_mid at k old part (at + length text) (ap (λ (n : ℕ). at + n) (sym l)) (omega arith) ∙ ap (λ (x : List ℕ). take at old ++ x) f;
      long = same_len_mid at k old part e;
      fits = h;
    }

-- one byte
pub put_one : (x at : ℕ) (old : List ℕ) → at < length old → Put (x ∷ []) at old (set old at x) (at + 1)
put_one x at old h =
    record {
      next = refl;
      list = ap (λ (i : ℕ). take i (set old at x)) (add-one at) ∙ take-suc-set old at x h;
      long = length-set old at x;
      fits = omega arith;
    }

-- a line that is put whole
pub put_whole : {text old new : List ℕ} {r : ℕ} → Put text 0 old new r → length text ≡ length old → new ≡ text
put_whole {text} {old} {new} {r} k e = sym (take_all r new (omega (arith, k.next, k.long))) ∙ k.list

-- ---- item by item

bind_more : {B : Type 0} (f : ℕ → List B) (k : ℕ) → bind (upto (k + 1)) f ≡ bind (upto k) f ++ f k
bind_more f k = ap (λ (l : List ℕ). bind l f) (upto_more k) ∙ bind_snoc f (upto k) k

pub put_item : (f : ℕ → List ℕ) {k at m r : ℕ} {old mid new : List ℕ} → Put (bind (upto k) f) at old mid m → Put (f k) m mid new r → Put (bind (upto (k + 1)) f) at old new r
put_item f {k} a b = put_as (sym (bind_more f k)) (put_then a b)

pub put_id : (f : ℕ → List ℕ) (xs : List ℕ) {k at m r : ℕ} {old mid new : List ℕ} → k < length xs → Put (bind (take k xs) f) at old mid m → Put (f (get_or xs k 0)) m mid new r
    → Put (bind (take (k + 1) xs) f) at old new r
put_id f xs {k} h a b =
    put_as (sym (ap (λ (l : List ℕ). bind l f) (ap (λ (i : ℕ). take i xs) (add-one k) ∙ take-suc xs k 0 h) ∙ bind_snoc f (take k xs) (get_or xs k 0))) (put_then a b)
