-- `add_run` meets its contract. The invariant: the first k of the run are added.
use mathlib.Core.Bool.{◌&&◌}
use Prim.Native.Nat.{◌≤◌}
use lib.ListN.{length, take}
use lib.Dec.{eqb}
use Rattle.plank_core.specs.Lists.{mem}
use Rattle.sir_analyses.specs.inner.Tables.{Adds}
use Rattle.sir_analyses.proofs.block_sets.add_run.Given as goal

abbrev pub invariant-loop-v : goal.invariant-loop-v
invariant-loop-v l = (l.v-index ≤ length l.run) × Adds l.initial.table (λ r i. eqb r l.row && mem i (take l.v-index l.run)) l.table
