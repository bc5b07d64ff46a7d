-- `open_ends` meets its contract. The invariant: what is left decides.
use mathlib.Core.Path.{◌≡◌}
use mathlib.Core.Bool.{◌&&◌, cond}
use Prim.Native.Nat.{ℕ}
use lib.ListN.{drop}
use lib.Dec.{eqb}
use Rattle.plank_core.specs.Lists.{mem}
use Rattle.sir_answers.specs.inner.Scatter.{number_at}
use Rattle.sir_answers.proofs.all_intervals.open_ends.Given as goal

abbrev pub invariant-loop-id : goal.invariant-loop-id
invariant-loop-id l = ((v : ℕ) → cond (mem v (drop l.id-index l.ids) && eqb (number_at l.till v) 0) l.to (number_at l.till v) ≡ cond (mem v l.ids && eqb (number_at l.initial.till v) 0) l.to (number_at l.initial.till v))
