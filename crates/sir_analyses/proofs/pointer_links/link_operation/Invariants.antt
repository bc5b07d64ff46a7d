-- `link_operation` meets its contract. The invariant: the first k inputs are linked to the outputs.
use mathlib.Core.Bool.{◌&&◌}
use Prim.Native.Nat.{◌≤◌}
use lib.ListN.{length, take}
use Rattle.plank_core.specs.Lists.{mem}
use Rattle.sir_analyses.specs.inner.Tables.{Adds}
use Rattle.sir_analyses.proofs.pointer_links.link_operation.Given as goal

abbrev pub invariant-loop-v : goal.invariant-loop-v
invariant-loop-v l = (l.v-index ≤ length l.inputs) × Adds l.initial.links (λ v u. mem u l.outputs && mem v (take l.v-index l.inputs)) l.links
