-- Laws of decimal numbers: their digits one by one, and how many there are.
use Rattle.std.specs.Prelude.{◌≡◌, refl, Bool, true, false, cond, List, [], ◌∷◌, ◌++◌, ℕ, zero, suc, ◌+◌, ◌*◌, ◌/◌, ◌%◌, ◌^◌, ◌≤◌, ◌<◌, length, ltb}
use Rattle.std.proofs.Common.{ap, arith, length-append, lt-ltb, le-ltb, ltb-false}
use Rattle.std.proofs.Math.Numerals.{unary_clauses}
use Rattle.plank_core.specs.Text.{digits, number}

-- steps beyond those that suffice do not matter
digits_same : (k j n : ℕ) → n < k → n < j → digits k n ≡ digits j n
digits_same zero j n h l = absurd (omega arith)
digits_same (suc k) zero n h l = absurd (omega arith)
digits_same (suc k) (suc j) n h l = go (ltb n 10) refl (digits_same k j (n / 10))
  where
    go : (t : Bool) → ltb n 10 ≡ t → (n / 10 < k → n / 10 < j → digits k (n / 10) ≡ digits j (n / 10))
        → cond t ((48 + n) ∷ []) (digits k (n / 10) ++ ((48 + n % 10) ∷ [])) ≡ cond t ((48 + n) ∷ []) (digits j (n / 10) ++ ((48 + n % 10) ∷ []))
    go true e same = refl
    go false e same = let m = ltb-false n 10 e in ap (λ (ds : List ℕ). ds ++ ((48 + n % 10) ∷ [])) (same (omega arith) (omega arith))

-- one digit
pub number_one : (n : ℕ) → n < 10 → number n ≡ (48 + n) ∷ []
unfolding number
number_one n h = rw (lt-ltb n 10 h) refl

-- the last digit of several
pub number_more : (n : ℕ) → 10 ≤ n → number n ≡ number (n / 10) ++ ((48 + n % 10) ∷ [])
unfolding number
number_more n h = rw (le-ltb n 10 h) (ap (λ (ds : List ℕ). ds ++ ((48 + n % 10) ∷ [])) (digits_same n (suc (n / 10)) (n / 10) (omega arith) (omega arith)))

pub power : (r : ℕ) → 10 ^ suc r ≡ 10 * 10 ^ r
power r = simp unary_clauses (omega arith)

pub some : (r : ℕ) → 1 ≤ 10 ^ r
some zero = omega arith
some (suc r) = let h = some r in omega (arith, power r)

digits_few : (k n m : ℕ) → length (digits k (n / 10)) ≤ m → length (digits (suc k) n) ≤ m + 1
digits_few k n m h = go (ltb n 10)
  where
    go : (t : Bool) → length (cond t ((48 + n) ∷ []) (digits k (n / 10) ++ ((48 + n % 10) ∷ []))) ≤ m + 1
    go true = omega arith
    go false = omega (arith, length-append (digits k (n / 10)) ((48 + n % 10) ∷ []))

one : (k n : ℕ) → n < 10 → length (digits k n) ≤ 1
one zero n h = omega arith
one (suc k) n h = rw (lt-ltb n 10 h) (omega arith)

-- a number below 10 ^ (j + 1) has at most j + 1 digits
pub digits_most : (j k n : ℕ) → n < 10 ^ suc j → length (digits k n) ≤ suc j
digits_most j zero n h = omega arith
digits_most zero (suc k) n h = one (suc k) n (omega (arith, power 0))
digits_most (suc j) (suc k) n h = let q = digits_few k n (suc j) (digits_most j k (n / 10) (omega (arith, power (suc j)))) in omega arith

-- of 32 bits: ten at most
pub number_short : (n : ℕ) → n < 4294967296 → length (number n) ≤ 10
unfolding number
number_short n h = digits_most 9 (suc n) n (omega arith)
