-- The index of an operation, digit by digit.
use mathlib.Core.Path.{◌≡◌, ap, ◌∙◌}
use mathlib.Core.Logic.{◌⊎◌, inl, inr}
use Prim.Native.Nat.{ℕ, ◌+◌, ◌-◌, ◌/◌, ◌%◌, ◌≤◌, ◌<◌}
use native.Mathlib.Omega.{arith}
use mathlib.Core.List.{List, [], ◌∷◌, ◌++◌}
use lib.ListN.{length}
use borrow.Author.Tests.{lt-ltb, le-ltb}
use Rattle.plank_core.specs.Text.{number}
use Rattle.plank_core.specs.laws.Lists.{split}
use Rattle.plank_core.specs.laws.Text.{number_one, number_more}
use Rattle.sir_analyses.specs.Chart.{spaces, index}
use Rattle.sir_answers.specs.inner.Columns.{digit_for}

-- ---- numbers of one to five digits

-- one digit more than n / 10 has
more : (n : ℕ) (ds : List ℕ) → 10 ≤ n → number (n / 10) ≡ ds → number n ≡ ds ++ ((48 + n % 10) ∷ [])
more n ds l e = number_more n l ∙ ap (λ (front : List ℕ). front ++ ((48 + n % 10) ∷ [])) e

one : (n : ℕ) → n < 10 → number n ≡ (48 + n % 10) ∷ []
one n h = let e : n ≡ n % 10 = omega arith in number_one n h ∙ ap (λ (d : ℕ). (48 + d) ∷ []) e

two : (n : ℕ) → 10 ≤ n → n < 100 → number n ≡ (48 + n / 10 % 10) ∷ (48 + n % 10) ∷ []
two n l h = more n _ l (one (n / 10) (omega arith))

three : (n : ℕ) → 100 ≤ n → n < 1000 → number n ≡ (48 + n / 100 % 10) ∷ (48 + n / 10 % 10) ∷ (48 + n % 10) ∷ []
three n l h =
    let e : n / 10 / 10 ≡ n / 100 = omega arith in
    more n ((48 + n / 100 % 10) ∷ (48 + n / 10 % 10) ∷ []) (omega arith) (rw e at (two (n / 10) (omega arith) (omega arith)))

four : (n : ℕ) → 1000 ≤ n → n < 10000 → number n ≡ (48 + n / 1000 % 10) ∷ (48 + n / 100 % 10) ∷ (48 + n / 10 % 10) ∷ (48 + n % 10) ∷ []
four n l h =
    let e : n / 10 / 10 ≡ n / 100 = omega arith in
    let f : n / 10 / 100 ≡ n / 1000 = omega arith in
    more n ((48 + n / 1000 % 10) ∷ (48 + n / 100 % 10) ∷ (48 + n / 10 % 10) ∷ []) (omega arith) (rw (e, f) at (three (n / 10) (omega arith) (omega arith)))

five : (n : ℕ) → 10000 ≤ n → n < 100000 → number n ≡ (48 + n / 10000 % 10) ∷ (48 + n / 1000 % 10) ∷ (48 + n / 100 % 10) ∷ (48 + n / 10 % 10) ∷ (48 + n % 10) ∷ []
five n l h =
    let e : n / 10 / 10 ≡ n / 100 = omega arith in
    let f : n / 10 / 100 ≡ n / 1000 = omega arith in
    let g : n / 10 / 1000 ≡ n / 10000 = omega arith in
    more n ((48 + n / 10000 % 10) ∷ (48 + n / 1000 % 10) ∷ (48 + n / 100 % 10) ∷ (48 + n / 10 % 10) ∷ []) (omega arith) (rw (e, f, g) at (four (n / 10) (omega arith) (omega arith)))

-- ---- in five columns

right : (n : ℕ) (text : List ℕ) → number n ≡ text → index n ≡ spaces (5 - length text) ++ text
unfolding index
right n text e = ap (λ (ds : List ℕ). spaces (5 - length ds) ++ ds) e

pub index_digits : (n : ℕ) → n < 100000 → index n ≡ digit_for n 10000 ∷ digit_for n 1000 ∷ digit_for n 100 ∷ digit_for n 10 ∷ (48 + n % 10) ∷ []
index_digits n most = go (split n 10) (split n 100) (split n 1000) (split n 10000)
  where
    go : (n < 10) ⊎ (10 ≤ n) → (n < 100) ⊎ (100 ≤ n) → (n < 1000) ⊎ (1000 ≤ n) → (n < 10000) ⊎ (10000 ≤ n)
        → index n ≡ digit_for n 10000 ∷ digit_for n 1000 ∷ digit_for n 100 ∷ digit_for n 10 ∷ (48 + n % 10) ∷ []
    go (inl h) b c d = rw (lt-ltb n 10 h, lt-ltb n 100 (omega arith), lt-ltb n 1000 (omega arith), lt-ltb n 10000 (omega arith)) (right n _ (one n h))
    go (inr l) (inl h) c d = rw (le-ltb n 10 l, lt-ltb n 100 h, lt-ltb n 1000 (omega arith), lt-ltb n 10000 (omega arith)) (right n _ (two n l h))
    go (inr k) (inr l) (inl h) d = rw (le-ltb n 10 k, le-ltb n 100 l, lt-ltb n 1000 h, lt-ltb n 10000 (omega arith)) (right n _ (three n l h))
    go (inr j) (inr k) (inr l) (inl h) = rw (le-ltb n 10 j, le-ltb n 100 k, le-ltb n 1000 l, lt-ltb n 10000 h) (right n _ (four n l h))
    go (inr i) (inr j) (inr k) (inr l) = rw (le-ltb n 10 i, le-ltb n 100 j, le-ltb n 1000 k, le-ltb n 10000 l) (right n _ (five n l most))
