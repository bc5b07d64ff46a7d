-- `closed_columns` meets its contract. The invariant: the columns before k are filled.
use mathlib.Core.Bool.{cond}
use mathlib.Core.Path.{◌≡◌}
use Prim.Native.Nat.{ℕ, ◌+◌, ◌*◌, ◌<◌}
use lib.ListN.{length, get_or}
use Rattle.sir_answers.specs.inner.Columns.{marked_in}
use Rattle.sir_answers.proofs.chart_columns.closed_columns.Given as goal

abbrev pub invariant-loop-k : goal.invariant-loop-k
invariant-loop-k l = (length l.columns ≡ 64) × ((j : ℕ) → j < l.k → get_or l.columns j 0 ≡ cond (marked_in l.pointers (64 * l.series + j)) 42 46)
