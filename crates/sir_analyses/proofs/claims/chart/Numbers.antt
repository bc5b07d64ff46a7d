-- Decimal numbers: the digits of a number stand for it.
use mathlib.Core.Path.{◌≡◌, refl, sym, ap, ◌∙◌}
use mathlib.Core.Logic.{⊎_elim}
use mathlib.Core.Bool.{Bool, true, false, cond}
use Prim.Native.Nat.{ℕ, zero, suc, ◌+◌, ◌-◌, ◌*◌, ◌/◌, ◌%◌, ◌≤◌, ◌<◌}
use native.Mathlib.Omega.{arith}
use mathlib.Core.List.Memᴰ
use mathlib.Core.List.{[], ◌∷◌, ◌++◌}
use lib.ListN.{length, get_or, length-append, get_or-append}
use lib.Dec.{ltb}
use borrow.Author.Tests.{ltb-true, ltb-false}
use Rattle.plank_core.specs.Lists.{◌∈◌}
use Rattle.plank_core.specs.laws.Folds.{foldl_snoc}
use Rattle.plank_core.specs.Text.{digits, number}
use Rattle.plank_core.specs.laws.Text.{number_one, digits_most}
use Rattle.sir_analyses.specs.Chart.{value_of, Decimal}

-- one more step than the number suffices
digits_value : (k n : ℕ) → n < k → value_of (digits k n) ≡ n
digits_value zero n l = absurd (omega arith)
digits_value (suc k) n l = go (ltb n 10) refl (digits_value k (n / 10))
  where
    go : (t : Bool) → ltb n 10 ≡ t → (n / 10 < k → value_of (digits k (n / 10)) ≡ n / 10) → value_of (cond t ((48 + n) ∷ []) (digits k (n / 10) ++ ((48 + n % 10) ∷ []))) ≡ n
    go true e rest = omega arith
    go false e rest =
        let m : 10 ≤ n = ltb-false n 10 e in
        foldl_snoc (λ s d. 10 * s + (d - 48)) 0 (digits k (n / 10)) (48 + n % 10) ∙ omega (arith, rest (omega arith))

digits_range : (k n d : ℕ) → d ∈ digits k n → (48 ≤ d) × (d ≤ 57)
digits_range zero n d m = absurd (Memᴰ.not-nil m)
digits_range (suc k) n d m = go (ltb n 10) refl m (digits_range k (n / 10) d)
  where
    last : (c : ℕ) → c < 10 → d ∈ ((48 + c) ∷ []) → (48 ≤ d) × (d ≤ 57)
    last c h i = ⊎_elim (λ (e : d ≡ 48 + c). (omega arith, omega arith)) (λ (j : d ∈ []). absurd (Memᴰ.not-nil j)) (Memᴰ.cases_cons i)

    go : (t : Bool) → ltb n 10 ≡ t → d ∈ cond t ((48 + n) ∷ []) (digits k (n / 10) ++ ((48 + n % 10) ∷ [])) → (d ∈ digits k (n / 10) → (48 ≤ d) × (d ≤ 57)) → (48 ≤ d) × (d ≤ 57)
    go true e i rest = last n (ltb-true n 10 e) i
    go false e i rest = ⊎_elim (λ (j : d ∈ digits k (n / 10)). rest j) (λ (j : d ∈ ((48 + n % 10) ∷ [])). last (n % 10) (omega arith) j) (Memᴰ.append_cases (digits k (n / 10)) i)

digits_some : (k n : ℕ) → n < k → 0 < length (digits k n)
digits_some zero n l = absurd (omega arith)
digits_some (suc k) n l = go (ltb n 10)
  where
    go : (t : Bool) → 0 < length (cond t ((48 + n) ∷ []) (digits k (n / 10) ++ ((48 + n % 10) ∷ [])))
    go true = omega arith
    go false = omega (arith, length-append (digits k (n / 10)) ((48 + n % 10) ∷ []))

-- the first digit is 0 in 0 only
first_digit : (k n : ℕ) → n < k → get_or (digits k n) 0 0 ≡ 48 → n ≡ 0
first_digit zero n l h = absurd (omega arith)
first_digit (suc k) n l h = go (ltb n 10) refl h (first_digit k (n / 10))
  where
    go : (t : Bool) → ltb n 10 ≡ t → get_or (cond t ((48 + n) ∷ []) (digits k (n / 10) ++ ((48 + n % 10) ∷ []))) 0 0 ≡ 48
        → (n / 10 < k → get_or (digits k (n / 10)) 0 0 ≡ 48 → n / 10 ≡ 0) → n ≡ 0
    go true e f rest = omega arith
    go false e f rest =
        let m : 10 ≤ n = ltb-false n 10 e in
        let z : n / 10 ≡ 0 = rest (omega arith) (sym (get_or-append (digits k (n / 10)) ((48 + n % 10) ∷ []) 0 0 (digits_some k (n / 10) (omega arith))) ∙ f) in
        omega arith

pub decimal_number : (n : ℕ) → Decimal n (number n)
unfolding number
decimal_number n =
    record {
      value = digits_value (suc n) n (omega arith);
      digit = digits_range (suc n) n;
      some = digits_some (suc n) n (omega arith);
      no_zero = λ h. ap number (first_digit (suc n) n (omega arith) h) ∙ number_one 0 (omega arith);
    }

-- five digits at most
pub number_five : (n : ℕ) → n < 100000 → length (number n) ≤ 5
unfolding number
number_five n h = digits_most 4 (suc n) n (omega arith)
