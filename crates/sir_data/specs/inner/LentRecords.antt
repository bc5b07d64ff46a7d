-- What reading lent records into words gives.
use Rattle.std.specs.Prelude.{◌≡◌, ℕ, ◌*◌, ◌/◌, ◌≤◌, Bool, List, [], ◌∷◌, ◌++◌, length, take}
use Rattle.sir_data.specs.Pages.{pages_for}
use Rattle.sir_data.specs.Rules.{first, head_rules, rules_of}
use Rattle.sir_data.specs.Paging.{words_of, bad_records, unfit, padded}

-- the rules that go by the length of lent records r and by their head: 6 outright, 4, 5, and 6 in its turn
abbrev pub fit_rules : List ℕ → List (ℕ × Bool)
fit_rules r = (6, bad_records r) ∷ head_rules (padded (words_of r)) ++ ((6, unfit (words_of r)) ∷ [])

-- lent records r read into a slice that held zeros and is `new` after it
pub record Lent (r new : List ℕ) (number : ℕ) : Type 0 where
  pub number_is : number ≡ first ((6, bad_records r) ∷ rules_of (unfit (words_of r)) (padded (words_of r)))
  -- no rule refuses them: their words stand at the front, with the padding
  pub few : number ≡ 0 → length r / 4 ≤ 14665
  pub room : number ≡ 0 → 126 * pages_for (length r / 4) ≤ length new
  pub words : number ≡ 0 → take (126 * pages_for (length r / 4)) new ≡ padded (words_of r)
