-- What `{}` writes of a number is its digits.
use Rattle.std.proofs.Common.{◌≡◌, sym, ap, ◌∙◌, ℕ, ◌+◌, ◌%◌, ◌<◌, ◌^◌, List, [], ◌∷◌, ◌++◌, arith}
use Rattle.std.specs.Fmt.{decimal}
use Rattle.std.proofs.lemmas.Fmt.{decimal_by_steps}
use Rattle.plank_core.specs.Text.{number}
use Rattle.plank_core.specs.laws.Text.{number_one, number_more}

pub decimal_is : (n : ℕ) → n < 2 ^ 32 → decimal n ≡ number n
decimal_is n h =
    decimal_by_steps (λ m ds. ds ≡ number m) (λ m l. sym (number_one m l))
    (λ m ds l e. ap (λ (front : List ℕ). front ++ ((48 + m % 10) ∷ [])) e ∙ sym (number_more m l)) n (omega arith)
