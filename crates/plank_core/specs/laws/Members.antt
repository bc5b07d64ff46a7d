-- Laws of a set's members in ascending order, as a walk over its words finds them.
use Rattle.std.specs.Prelude.{◌≡◌, refl, Bool, true, cond, List, [], ◌∷◌, ◌++◌, ℕ, zero, suc, ◌+◌, ◌-◌, ◌*◌, ◌/◌, ◌%◌, ◌^◌, ◌≤◌, ◌<◌, length, get_or, take, drop, set, eqb}
use Rattle.std.proofs.Common.{sym, ap, ap₂, ◌∙◌, ⊎_elim, append_assoc, append-nil, pos_of_ne-zero, add-suc, suc-add, add-zero, pow-suc, add-one, arith, length-append, length-set, take-append-drop, length-take-le, take-suc-set, drop-set-lt, drop-drop}
use Rattle.std.proofs.Math.Nat.{zero-min}
use Rattle.std.specs.Int.Bits.{bit_and, and_self}
use Rattle.std.specs.Int.Count.{count_trailing_zeros, ones, ones_step, ones-ones}
use Rattle.plank_core.specs.Lists.{count, upto, keep, ◌∈◌}
use Rattle.plank_core.specs.inner.DenseIndexSet.{bit, contains, members}
use Rattle.plank_core.specs.laws.Lists.{mem_count, count_mem, keep_most, keep_mem, keep_out}
use Rattle.plank_core.specs.laws.Loops.{count_add, length_count, keep_append}
use Rattle.plank_core.specs.laws.Bits.{two, and_half, and_odd, bit_zero, bit_suc}
use Rattle.plank_core.specs.laws.DenseIndexSet.{shows_contains}

-- ---- the members are complete

pub member_in : (s : List ℕ) (n : ℕ) → n < 512 → contains s n ≡ true → n ∈ members s
unfolding members
member_in s n h t = keep_mem (contains s) (count_mem n 0 512 (omega arith) h) t

pub member_is : (s : List ℕ) (n : ℕ) → n ∈ members s → (n < 512) × (contains s n ≡ true)
unfolding members
member_is s n m = let r = keep_out (contains s) (upto 512) m in ((mem_count n 0 512 r.0).1, r.1)

-- ---- the digits of one word

-- b + j for each of the k lowest digits j of w that is set, in order
unfoldable pub digits_from : ℕ → ℕ → ℕ → List ℕ
digits_from zero b w = []
digits_from (suc k) b w = cond (eqb (w % 2) 1) (b ∷ digits_from k (suc b) (w / 2)) (digits_from k (suc b) (w / 2))

digits_none : (k b : ℕ) → digits_from k b 0 ≡ []
unfolding digits_from
digits_none zero b = refl
digits_none (suc k) b = digits_none k (suc b)

-- the lowest set digit comes first, and the rest is what is left once it is cleared
digits_lowest : (k b w : ℕ) → 0 < w → w < 2 ^ k
    → digits_from k b w ≡ (b + count_trailing_zeros k w) ∷ digits_from k b (bit_and w (w - 1))
unfolding digits_from count_trailing_zeros
digits_lowest zero b w p l = absurd (omega arith)
digits_lowest (suc k) b w p l =
    ⊎_elim
    (λ (e : w % 2 ≡ 0).
    let e2 : 2 ^ suc k ≡ 2 ^ k * 2 = pow-suc 2 k in
    let h : (w - 1) / 2 ≡ w / 2 - 1 = omega arith in
    let ih : digits_from k (suc b) (w / 2) ≡ (suc b + count_trailing_zeros k (w / 2)) ∷ digits_from k (suc b) (bit_and (w / 2) (w / 2 - 1)) =
    digits_lowest k (suc b) (w / 2) (omega arith) (omega arith) in
    simp (and_half, and_odd, e, h, zero-min, ih, suc-add, add-suc))
    (λ (e : w % 2 ≡ 1).
    let h : (w - 1) / 2 ≡ w / 2 = omega arith in
    let g : (w - 1) % 2 ≡ 0 = omega arith in
    simp (and_half, and_odd, e, h, g, and_self, add-zero))
    (two (w % 2) (omega arith))

-- there are as many as the word has set digits
digits_ones : (k b w : ℕ) → w < 2 ^ k → length (digits_from k b w) ≡ ones w
unfolding digits_from
digits_ones zero b w l = let e : w ≡ 0 = omega arith in sym (ap ones e ∙ ones-ones 0)
digits_ones (suc k) b w l =
    let e2 : 2 ^ suc k ≡ 2 ^ k * 2 = pow-suc 2 k in
    let ih : length (digits_from k (suc b) (w / 2)) ≡ ones (w / 2) = digits_ones k (suc b) (w / 2) (omega arith) in
    ⊎_elim
    (λ (e : w % 2 ≡ 0). simp e (omega (arith, ih, ones_step w)))
    (λ (e : w % 2 ≡ 1). simp e (omega (arith, ih, ones_step w)))
    (two (w % 2) (omega arith))

-- a word's digits are what is kept of the numbers from b on, where the test there is the word's
digits_kept : (p : ℕ → Bool) (k b w : ℕ) → ((j : ℕ) → j < k → p (b + j) ≡ bit w j) → digits_from k b w ≡ keep p (count b k)
unfolding digits_from
digits_kept p zero b w h = refl
digits_kept p (suc k) b w h =
    let here : p b ≡ eqb (w % 2) 1 = ap p (sym (add-zero b)) ∙ h 0 (omega arith) ∙ bit_zero w in
    let rest : digits_from k (suc b) (w / 2) ≡ keep p (count (suc b) k) =
    digits_kept p k (suc b) (w / 2) (λ j l. ap p (suc-add b j ∙ sym (add-suc b j)) ∙ h (suc j) (omega arith) ∙ bit_suc w j) in
    rw (here, rest)

-- the numbers from b on: those in the next m, which are the digits of w, and those after them
keep_next : (p : ℕ → Bool) (b m n w : ℕ) → ((j : ℕ) → j < m → p (b + j) ≡ bit w j) → keep p (count b (m + n)) ≡ digits_from m b w ++ keep p (count (b + m) n)
keep_next p b m n w h = rw (count_add b m n, keep_append, digits_kept p m b w h)

-- ---- the members in the words from k on, and what the walk finds of them

unfoldable pub from : List ℕ → ℕ → List ℕ
from s k = keep (contains s) (count (64 * k) (512 - 64 * k))

pub from_start : (s : List ℕ) → from s 0 ≡ members s
unfolding from members
from_start s = refl

pub from_end : (s : List ℕ) → from s 8 ≡ []
unfolding from
from_end s = refl

pub from_word : (s : List ℕ) (k : ℕ) → k < 8 → from s k ≡ digits_from 64 (64 * k) (get_or s k 0) ++ from s (k + 1)
unfolding from
from_word s k h =
    let e : 512 - 64 * k ≡ 64 + (512 - 64 * (k + 1)) = omega arith in
    let b : 64 * k + 64 ≡ 64 * (k + 1) = omega arith in
    ap (λ (n : ℕ). keep (contains s) (count (64 * k) n)) e
    ∙ keep_next (contains s) (64 * k) 64 (512 - 64 * (k + 1)) (get_or s k 0) (λ j l. shows_contains s k j l)
    ∙ ap (λ (n : ℕ). digits_from 64 (64 * k) (get_or s k 0) ++ keep (contains s) (count n (512 - 64 * (k + 1)))) b

-- how many members are in the words from k on
pub from_length : (s : List ℕ) (k : ℕ) → k < 8 → get_or s k 0 < 2 ^ 64 → length (from s k) ≡ ones (get_or s k 0) + length (from s (k + 1))
from_length s k h l = ap length (from_word s k h) ∙ length-append (digits_from 64 (64 * k) (get_or s k 0)) (from s (k + 1)) ∙ ap (λ (n : ℕ). n + length (from s (k + 1))) (digits_ones 64 (64 * k) (get_or s k 0) l)

pub left_none : (b w : ℕ) (rest : List ℕ) → w ≡ 0 → digits_from 64 b w ++ rest ≡ rest
left_none b w rest e = rw (e, digits_none)

pub left_lowest : (b w : ℕ) (rest : List ℕ) → (w ≡ 0 → ⊥) → w < 2 ^ 64
    → digits_from 64 b w ++ rest ≡ (b + count_trailing_zeros 64 w) ∷ (digits_from 64 b (bit_and w (w - 1)) ++ rest)
left_lowest b w rest p l = rw (digits_lowest 64 b w (pos_of_ne-zero p) l)

-- ---- a walk under way

-- n members stand at the front of out, `rest` are those to come, and after them out is as it was
pub record Walked (s out₀ out : List ℕ) (n : ℕ) (rest : List ℕ) : Type 0 where
  pub long : length out ≡ length out₀
  pub room : 512 ≤ length out₀
  pub all : take n out ++ rest ≡ members s
  pub behind : drop n out ≡ drop n out₀

upto_most : (p : ℕ → Bool) (n : ℕ) → length (keep p (upto n)) ≤ n
upto_most p n = omega (arith, keep_most p (upto n), length_count 0 n)

pub members_most : (s : List ℕ) → length (members s) ≤ 512
unfolding members
members_most s = upto_most (contains s) 512

module _ {s out₀ : List ℕ} where
  pub walk_starts : 512 ≤ length out₀ → Walked s out₀ out₀ 0 (from s 0)
  walk_starts h = record { long = refl; room = h; all = from_start s; behind = refl }

  pub walk_on : {out rest next : List ℕ} {n : ℕ} → rest ≡ next → Walked s out₀ out n rest → Walked s out₀ out n next
  walk_on e k = record { long = k.long; room = k.room; all = rw (← e) k.all; behind = k.behind }

  -- a part of the walk, seen from where it begins, and put after what came before
  pub walk_part : {out rest : List ℕ} {n : ℕ} → Walked s out₀ out n rest → Walked s out out n rest
  walk_part k = record { long = refl; room = omega (arith, k.long, k.room); all = k.all; behind = refl }

  pub walk_join : {mid out rest next : List ℕ} {m n : ℕ} → m ≤ n → Walked s out₀ mid m rest → Walked s mid out n next → Walked s out₀ out n next
  walk_join {mid} {m = m} {n = n} h a b =
      let e : m + (n - m) ≡ n = omega arith in
      record {
        long = b.long ∙ a.long;
        room = a.room;
        all = b.all;
        behind = b.behind ∙ ap (λ (i : ℕ). drop i mid) (sym e) ∙ sym (drop-drop (n - m) m mid) ∙ ap (drop (n - m)) a.behind ∙ drop-drop (n - m) m out₀ ∙ ap (λ (i : ℕ). drop i out₀) e;
      }

  -- there is room for the next one
  pub walk_room : {out rest : List ℕ} {n a : ℕ} → n ≤ 512 → Walked s out₀ out n (a ∷ rest) → n < 512
  walk_room {out} {rest} {n} {a} small k =
      let e = ap length k.all in
      let l : length (take n out ++ (a ∷ rest)) ≡ n + suc (length rest) = length-append (take n out) (a ∷ rest) ∙ ap (λ (x : ℕ). x + suc (length rest)) (length-take-le n out (omega (arith, k.long, k.room))) in
      omega (arith, l, e, members_most s)

  pub walk_step : {out rest : List ℕ} {n a : ℕ} → n ≤ 512 → Walked s out₀ out n (a ∷ rest) → Walked s out₀ (set out n a) (n + 1) rest
  walk_step {out} {rest} {n} {a} small k =
      let h : n < 512 = walk_room small k in
      let i : n < length out = omega (arith, k.long, k.room) in
      record {
        long = length-set out n a ∙ k.long;
        room = k.room;
        all = rw (add-one, take-suc-set out n a i, append_assoc) k.all;
        behind = drop-set-lt (n + 1) out n a (omega arith) ∙ sym (drop-drop 1 n out) ∙ ap (drop 1) k.behind ∙ drop-drop 1 n out₀;
      }

  -- what the walk leaves
  pub walk_done : {out : List ℕ} {n : ℕ} → n ≤ 512 → Walked s out₀ out n (from s 8) → (n ≡ length (members s)) × (out ≡ members s ++ drop n out₀)
  walk_done {out} {n} small k =
      let e : take n out ≡ members s = sym (append-nil (take n out)) ∙ ap (λ (l : List ℕ). take n out ++ l) (sym (from_end s)) ∙ k.all in
      let l : length (take n out) ≡ n = length-take-le n out (omega (arith, k.long, k.room)) in
      (sym l ∙ ap length e, sym (take-append-drop n out) ∙ ap₂ (λ x y. x ++ y) e k.behind)
