-- What reading an image into words gives.
use Rattle.std.specs.Prelude.{◌≡◌, ℕ, List, ◌++◌, length, drop}
use Rattle.sir_data.specs.Pages.{payload}
use Rattle.sir_data.specs.Rules.{first, page_rules, record_rules}

-- image s read into the slice `old`, which is `new` after it: r is the first refusal of 1 to 11 in their sequence, or 0
pub record Read (s old new : List ℕ) (r : ℕ) : Type 0 where
  pub number : r ≡ first (page_rules s ++ record_rules (payload s))
  -- pages in order: the payload stands at the front
  pub words : first (page_rules s) ≡ 0 → new ≡ payload s ++ drop (length (payload s)) old
  -- pages refused: nothing is written
  pub untouched : ¬ (first (page_rules s) ≡ 0) → new ≡ old
  pub kept : length new ≡ length old
