-- How texts stand in a line, one after the other.
use Rattle.std.specs.Prelude.{◌≡◌, List, ◌++◌, ℕ, ◌+◌, ◌≤◌, length, take}

-- a text stands in a line after its first `at` bytes, up to r
pub record Put (text : List ℕ) (at : ℕ) (old new : List ℕ) (r : ℕ) : Type 0 where
  pub next : r ≡ at + length text
  pub list : take r new ≡ take at old ++ text
  pub long : length new ≡ length old
  pub fits : r ≤ length old
