-- `set_ends` meets its contract. The invariant: what is left decides.
use mathlib.Core.Path.{◌≡◌}
use mathlib.Core.Bool.{cond}
use Prim.Native.Nat.{ℕ}
use lib.ListN.{drop}
use Rattle.plank_core.specs.Lists.{mem}
use Rattle.sir_answers.specs.inner.Scatter.{number_at}
use Rattle.sir_answers.proofs.all_intervals.set_ends.Given as goal

abbrev pub invariant-loop-v : goal.invariant-loop-v
invariant-loop-v l = ((v : ℕ) → cond (mem v (drop l.v-index l.ids)) l.to (number_at l.till v) ≡ cond (mem v l.ids) l.to (number_at l.initial.till v))
