-- `open_columns` meets its contract. The invariant: the owners of the locals before this one are open.
use mathlib.Core.Bool.{cond}
use mathlib.Core.Path.{◌≡◌}
use Prim.Native.Nat.{ℕ, ◌+◌, ◌*◌, ◌<◌}
use lib.ListN.{length, get_or, take}
use Rattle.sir_answers.specs.inner.Columns.{owns_some}
use Rattle.sir_answers.proofs.chart_columns.open_columns.Given as goal

abbrev pub invariant-loop-v : goal.invariant-loop-v
invariant-loop-v l = (length l.columns ≡ 64) × ((k : ℕ) → k < 64 → get_or l.columns k 0 ≡ cond (owns_some l.pointers (take l.v-index l.ids) (64 * l.series + k)) 35 (get_or l.initial.columns k 0))
