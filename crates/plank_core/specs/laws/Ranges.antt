-- `all` and `any` of a range of numbers, by a test of each.
use Rattle.std.specs.Prelude.{◌≡◌, refl, Bool, ◌&&◌, ℕ, zero, suc, ◌+◌, ◌-◌, [], ◌∷◌, MatchOption, Option, ◌≤◌, ◌<◌, length, get_or, take, drop}
use Rattle.std.specs.declared.ops.Range.{Range}
use Rattle.std.proofs.Common.{sym, ap, ap₂, ◌∙◌, add-one, arith, get_or-take, get_or-drop, length-take-le, length-drop}
use Rattle.std.specs.Fn.{Called}
use Rattle.std.specs.Iterator.{YieldsThen}
use Rattle.std.specs.List.{range_with_len, FoldsTo}
use Rattle.std.proofs.iter.Yields.{nat_range_steps}
use Rattle.std.proofs.lemmas.Iterator.{YieldsList-from_range}
use Rattle.std.proofs.lemmas.Iterator.Search.{all_from_yields_List, any_from_yields_List}
use denote.Param.Members.{Mut}
use mathlib.Core.Bool.{true, false}
use mathlib.Core.List.{List}
use Rattle.plank_core.specs.Lists.{count, upto, all, any}

-- the numbers of a range, as the library and as `count` list them
pub range_count : (s n : ℕ) → range_with_len s n ≡ count s n
range_count s zero = refl
range_count s (suc n) = ap (λ (m : ℕ). s ∷ range_with_len m n) (add-one s) ∙ ap (λ l. s ∷ l) (range_count (suc s) n)

module _ {F : Type 0} {g : Mut F (ℕ × Unit {0}) Bool} (test : ℕ → Bool) (a b n : ℕ) (e : b - a ≡ n) {u : Range ℕ} {f : F} (r : Bool) where
  pub all_range : (xs : List ℕ) × (o : Option ℕ) × (j : F) × YieldsThen nat_range_steps (record { start = a; end = b }) xs o u × FoldsTo (λ p x q. Called g p (x, tt) true q) f xs j × MatchOption o (r ≡ true) (λ x. (r ≡ false) × ((h : F) × Called g j (x, tt) false h))
      → ((x : ℕ) (t : Bool) (q : F) → Called g f (x, tt) t q → (q ≡ f) × (t ≡ test x)) → r ≡ all test (count a n)
  all_range ran each = all_from_yields_List test u f r ran (YieldsList-from_range a b n refl e) each ∙ ap (λ l. all test l) (range_count a n)

  pub any_range : (xs : List ℕ) × (o : Option ℕ) × (j : F) × YieldsThen nat_range_steps (record { start = a; end = b }) xs o u × FoldsTo (λ p x q. Called g p (x, tt) false q) f xs j × MatchOption o (r ≡ false) (λ x. (r ≡ true) × ((h : F) × Called g j (x, tt) true h))
      → ((x : ℕ) (t : Bool) (q : F) → Called g f (x, tt) t q → (q ≡ f) × (t ≡ test x)) → r ≡ any test (count a n)
  any_range ran each = any_from_yields_List test u f r ran (YieldsList-from_range a b n refl e) each ∙ ap (λ l. any test l) (range_count a n)

-- a test of each element of a list, by its place
all_shift : (p : ℕ → Bool) (s n : ℕ) → all p (count (suc s) n) ≡ all (λ i. p (suc i)) (count s n)
all_shift p s zero = refl
all_shift p s (suc n) = ap (λ t. p (suc s) && t) (all_shift p (suc s) n)

pub all_at : (p : ℕ → Bool) (xs : List ℕ) → all (λ i. p (get_or xs i 0)) (upto (length xs)) ≡ all p xs
all_at p [] = refl
all_at p (x ∷ xs) = ap (λ t. p x && t) (all_shift (λ i. p (get_or (x ∷ xs) i 0)) 0 (length xs) ∙ all_at p xs)

all_same : (p q : ℕ → Bool) (s n : ℕ) → ((i : ℕ) → s ≤ i → i < s + n → p i ≡ q i) → all p (count s n) ≡ all q (count s n)
all_same p q s zero e = refl
all_same p q s (suc n) e = ap₂ (λ t u. t && u) (e s (omega arith) (omega arith)) (all_same p q (suc s) n (λ i a b. e i (omega arith) (omega arith)))

-- a test of each of the n elements from place a on
pub all_part : (p : ℕ → Bool) (xs : List ℕ) (a n : ℕ) → a + n ≤ length xs → all p (take n (drop a xs)) ≡ all (λ i. p (get_or xs (a + i) 0)) (upto n)
all_part p xs a n h =
    let part = take n (drop a xs) in
    let long : length part ≡ n = length-take-le n (drop a xs) (omega (arith, length-drop a xs)) in
    sym (all_at p part) ∙ ap (λ m. all (λ i. p (get_or part i 0)) (upto m)) long
    ∙ all_same _ _ 0 n (λ i s l. ap p (get_or-take n (drop a xs) i 0 (omega arith) ∙ get_or-drop a xs i 0))
