-- The columns of a series of the chart, from the tables of pointers and a set of locals.
use Rattle.std.specs.Prelude.{◌≡◌, Bool, not, ◌&&◌, cond, List, [], ◌∷◌, ◌++◌, map, ℕ, ◌+◌, ◌*◌, ◌/◌, ◌%◌, ◌<◌, length, get_or, eqb, leb, ltb}
use Rattle.plank_core.specs.Lists.{mem}
use Rattle.plank_core.specs.inner.DenseIndexSet.{contains, members}
use Rattle.sir_analyses.specs.Chart.{index, call_column}
use Rattle.sir_analyses.specs.inner.Stages.{sites_in, flags_in}
use Rattle.sir_answers.specs.inner.AllocationPieces.{unmarked_owner}

-- the digit of a number that counts so much; a space where the number is less
abbrev pub digit_for : ℕ → ℕ → ℕ
digit_for n unit = cond (ltb n unit) 32 (48 + n / unit % 10)

-- a line of operation o with these columns
abbrev pub line_with : List ℕ → ℕ → List ℕ → List ℕ
line_with w o cs = index o ++ (124 ∷ (cs ++ (124 ∷ call_column w o ∷ [])))

-- is this the number of an allocation of a series, plus 1?
abbrev pub in_series : ℕ → ℕ → Bool
in_series series owner = ltb (64 * series) owner && leb owner (64 * series + 64)

-- a set has the locals that no unmarked allocation of a series owns
pub record OtherLocals (pointers : List ℕ) (series : ℕ) (others : List ℕ) : Type 0 where
  pub long : length others ≡ 8
  pub other_is : (v : ℕ) → v < 512 → contains others v ≡ not (in_series series (unmarked_owner pointers v))

-- allocation a owns one of these locals, and is not marked
abbrev pub owns_some : List ℕ → List ℕ → ℕ → Bool
owns_some pointers vs a = mem (a + 1) (map (unmarked_owner pointers) vs)

-- is there an allocation a that is marked?
abbrev pub marked_in : List ℕ → ℕ → Bool
marked_in pointers a = ltb a (length (sites_in pointers)) && not (eqb (get_or (flags_in pointers) a 0) 0)

-- the columns of a series, where the owners of the locals of a set are open
pub record Columns (pointers : List ℕ) (series : ℕ) (set cs : List ℕ) : Type 0 where
  pub long : length cs ≡ 64
  pub column_is : (k : ℕ) → k < 64 → get_or cs k 0 ≡ cond (marked_in pointers (64 * series + k)) 42 (cond (owns_some pointers (members set) (64 * series + k)) 35 46)
