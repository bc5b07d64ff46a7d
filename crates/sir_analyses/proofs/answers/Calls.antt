-- Laws of calls.
use mathlib.Core.Path.{◌≡◌, refl, sym, ap, ◌∙◌, subst}
use mathlib.Core.Bool.{Bool, true, false, not, cond}
use Prim.Native.Nat.{ℕ, ◌*◌, ◌≤◌, ◌<◌}
use native.Mathlib.Omega.{arith}
use mathlib.Core.List.{List, [], ◌∷◌, ◌++◌, append-nil}
use lib.ListN.{length, take, drop, drop_of_length-le}
use lib.Seq.{length-take-le, take_at, drop_at}
use lib.Dec.{eqb, ltb}
use borrow.Author.Tests.{eq-eqb, ne_eqb, ltb-true, ltb-false}
use Rattle.plank_core.specs.Lists.{bind}
use Rattle.sir_data.specs.Pages.{payload, bytes_of}
use Rattle.sir_data.specs.Rules.{first}
use Rattle.sir_data.specs.laws.Rules.{Numbered, first_append, by_later, by_earlier}
use Rattle.std.specs.Prelude.{Result, Ok, Err}
use Rattle.sir_data.specs.declared.refusals.Refusal.{Refusal}
use Rattle.sir_data.specs.declared.refusals.Refusal.TheVariants.{ShortResult}
use Rattle.sir_data.specs.Refusals.{refused}
use Rattle.sir_data.specs.laws.Refusals.{not_0}
use Rattle.sir_analyses.specs.Calls as calls
use Rattle.sir_analyses.specs.Calls.{Rules, made, answered, call, image_rules, refusal, asked, known}
use Rattle.sir_analyses.specs.inner.Outcomes.{given, outcome, Finished}
use Rattle.sir_analyses.specs.inner.Writing.{Puts}
use Rattle.sir_analyses.proofs.answers.Writing.{length_bytes, puts_past, puts_within}

-- ---- one call

module _ (rules : Rules) (bytes out : List ℕ) where
  -- a rule applies
  pub call_refused : {n l : ℕ} → (first rules ≡ 0 → ⊥) → n ≡ first rules → l ≡ 0 → made n l out ≡ call rules bytes out
  call_refused h a b = rw (ne_eqb (first rules) 0 h, a, b)

  -- none applies
  pub call_answered : first rules ≡ 0 → answered bytes out ≡ call rules bytes out
  call_answered z = rw (eq-eqb (first rules) 0 z)

-- 14 is the last rule of the one sequence that a call is
pub call_whole : (rules : Rules) (bytes out : List ℕ) → Numbered rules
    → let n : ℕ = first (rules ++ (14, ltb (length out) (length bytes)) ∷ []) in call rules bytes out ≡ cond (eqb n 0) (made 0 (length bytes) (bytes ++ drop (length bytes) out)) (calls.refused n out)
call_whole rules bytes out n = rw (first_append rules ((14, ltb (length out) (length bytes)) ∷ []) n) (go (eqb (first rules) 0) refl (ltb (length out) (length bytes)) refl)
  where
    go : (t : Bool) → eqb (first rules) 0 ≡ t → (u : Bool) → ltb (length out) (length bytes) ≡ u
        → call rules bytes out
        ≡ cond (eqb (cond (eqb (first rules) 0) (cond (ltb (length out) (length bytes)) 14 0) (first rules)) 0) (made 0 (length bytes) (bytes ++ drop (length bytes) out)) (calls.refused (cond (eqb (first rules) 0) (cond (ltb (length out) (length bytes)) 14 0) (first rules)) out)
    go true e true f = rw (e, f)
    go true e false f = rw (e, f)
    go false e u f = rw (e, e)

-- ---- a question put to an image

module _ (own : List ℕ → Rules) (bytes : List ℕ → List ℕ) (image out : List ℕ) where
  -- the image is refused, whatever is asked
  pub image_refused : {n l : ℕ} → (refusal image ≡ 0 → ⊥) → n ≡ refusal image → l ≡ 0 → made n l out ≡ asked own bytes image out
  image_refused h a b =
      let e : first (image_rules image ++ own (payload image)) ≡ refusal image = by_earlier (image_rules image) (own (payload image)) refl h in
      call_refused (image_rules image ++ own (payload image)) (bytes (payload image)) out (λ z. h (sym e ∙ z)) (a ∙ sym e) b

  -- it is accepted: the question's own rules decide
  pub image_accepted : refusal image ≡ 0 → call (own (payload image)) (bytes (payload image)) out ≡ asked own bytes image out
  image_accepted z = let e : first (image_rules image ++ own (payload image)) ≡ first (own (payload image)) = by_later (image_rules image) (own (payload image)) refl z in rw e

-- ---- 13

-- the id asked for is below its count
pub known_below : (count : List ℕ → ℕ) (id : ℕ) (w : List ℕ) → first (known count id w) ≡ 0 → id < count w
known_below count id w z = go (ltb id (count w)) refl z
  where
    go : (t : Bool) → ltb id (count w) ≡ t → ◌≡◌ {A = ℕ} (cond (not t) 13 0) 0 → id < count w
    go true e h = ltb-true id (count w) e
    go false e h = absurd (omega arith)

-- ---- an answer in words

-- where an answer is finished its words have room in the slice
finish_cases : {n room e : ℕ} → Finished n room (Ok e) → (e ≡ 4 * n) × (ltb room (4 * n) ≡ false)
finish_cases {n} {room} {e} f = go (ltb room (4 * n)) refl
  where
    go : (t : Bool) → ltb room (4 * n) ≡ t → (e ≡ 4 * n) × (ltb room (4 * n) ≡ false)
    go true q = absurd (not_0 ShortResult (sym (ap refused (rw q at f.is))))
    go false q = (ap given (rw q at f.is), q)

pub finish_is : {n room e : ℕ} → Finished n room (Ok e) → e ≡ 4 * n
finish_is f = (finish_cases f).0

pub finish_room : {n room e : ℕ} → Finished n room (Ok e) → 4 * n ≤ room
finish_room {n} {room} f = ltb-false room (4 * n) (finish_cases f).1

pub finish_fits : {n room e : ℕ} → Finished n room (Ok e) → e ≤ room
finish_fits f = omega (arith, finish_is f, finish_room f)

module _ (xs out : List ℕ) where
  -- an answer is written whole
  pub answered_whole : {e r : ℕ} {part out' : List ℕ} → Finished (length xs) (length out) (Ok e) → Puts 0 xs (take e out) part r → out' ≡ part ++ drop e out → outcome (Ok e) out' ≡ answered (bind xs bytes_of) out
  answered_whole {e} {r} {part} {out'} f p o =
      let b : length (bind xs bytes_of) ≡ 4 * length xs = length_bytes xs in
      let l : e ≡ 4 * length xs = finish_is f in
      let h : 4 * length xs ≤ length out = finish_room f in
      let i : length (take (4 * length xs) out) ≡ 4 * length xs = length-take-le (4 * length xs) out h in
      let w : part ≡ bind xs bytes_of ++ drop (4 * length xs) (take (4 * length xs) out) = p.left ∙ rw l (puts_within (length (take (4 * length xs) out)) xs (take (4 * length xs) out) (omega arith) (omega arith)) in
      let d : drop (4 * length xs) (take (4 * length xs) out) ≡ [] = drop_of_length-le (take (4 * length xs) out) {i = 4 * length xs} (omega arith) in
      let z : out' ≡ bind xs bytes_of ++ drop (4 * length xs) out = o ∙ ap (λ (k : List ℕ). k ++ drop e out) (w ∙ ap (λ (k : List ℕ). bind xs bytes_of ++ k) d ∙ append-nil (bind xs bytes_of)) ∙ ap (λ (i : ℕ). bind xs bytes_of ++ drop i out) l in
      rw (b, (finish_cases f).1, l, z)

  -- or not at all
  pub answered_short : {n : ℕ} {refusal : Refusal} {r : Result ℕ Refusal} → Finished n (length out) (Err refusal) → n ≡ length xs → r ≡ Err refusal → outcome r out ≡ answered (bind xs bytes_of) out
  answered_short {n} {refusal} {r} f m e = go (ltb (length out) (4 * n)) refl
    where
      b : length (bind xs bytes_of) ≡ 4 * n
      b = length_bytes xs ∙ ap (λ (i : ℕ). 4 * i) (sym m)

      go : (t : Bool) → ltb (length out) (4 * n) ≡ t → outcome r out ≡ answered (bind xs bytes_of) out
      go true q = let z : r ≡ Err ShortResult = e ∙ rw q at f.is in rw (z, b, q)
      go false q = absurd (not_0 refusal (ap refused (rw q at f.is)))

  -- up to its length an answer is written whole, and a refused one not at all
  pub finished : {r : Result ℕ Refusal} {m : ℕ} {part out' : List ℕ} → Finished (length xs) (length out) r → Puts 0 xs (take (given r) out) part m → out' ≡ part ++ drop (given r) out → outcome r out' ≡ answered (bind xs bytes_of) out
  finished {r = Ok e} f p o = answered_whole f p o
  finished {r = Err refusal} f p o =
      let z : _ ≡ out = o ∙ ap (λ (k : List ℕ). k ++ out) (p.left ∙ puts_past 0 0 xs [] (omega arith)) in
      subst (λ (k : List ℕ). outcome (Err refusal) k ≡ answered (bind xs bytes_of) out) (sym z) (answered_short f refl refl)

  -- counted in an empty slice, then finished, then written
  pub count_write : {r : Result ℕ Refusal} {n m : ℕ} {part out' none : List ℕ} → Puts 0 xs [] none n → Finished n (length out) r → Puts 0 xs (take (given r) out) part m → out' ≡ part ++ drop (given r) out → outcome r out' ≡ answered (bind xs bytes_of) out
  count_write {r} {n} k f p o = let q : n ≡ length xs = omega (arith, k.next) in finished (subst (λ (i : ℕ). Finished i (length out) r) q f) p o

  pub count_short : {n : ℕ} {none : List ℕ} {refusal : Refusal} {r : Result ℕ Refusal} → Puts 0 xs [] none n → Finished n (length out) (Err refusal) → r ≡ Err refusal → outcome r out ≡ answered (bind xs bytes_of) out
  count_short k f e = answered_short f (omega (arith, k.next)) e

-- two calls in turn on the front of a slice: the second sees what the first left
pub front_twice : (len : ℕ) (out head : List ℕ) → len ≤ length out → length head ≡ length (take len out) → (take len (head ++ drop len out) ≡ head) × (drop len (head ++ drop len out) ≡ drop len out)
front_twice len out head h e = let l : length head ≡ len = e ∙ length-take-le len out h in (take_at head (drop len out) len l, drop_at head (drop len out) len l)
