-- `add_operations` meets its contract. The invariant: the operations below o are added.
use Prim.Native.Nat.{◌+◌, ◌*◌, ◌≤◌}
use Rattle.plank_core.specs.Lists.{range, mem}
use Rattle.sir_analyses.specs.inner.Tables.{Adds}
use Rattle.sir_analyses.proofs.pointer_links.add_operations.Given as goal

abbrev pub invariant-loop-o : goal.invariant-loop-o
invariant-loop-o l = (l.initial.o ≤ l.o) × (l.o ≤ l.o-end) × Adds l.initial.seen (λ r i. mem (512 * r + i) (range l.initial.o l.o)) l.seen
