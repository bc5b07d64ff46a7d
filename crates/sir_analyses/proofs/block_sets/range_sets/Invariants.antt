-- `range_sets` meets its contract. The invariant: the sets are those of the operations from o on.
use Prim.Native.Nat.{◌≤◌}
use Rattle.plank_core.specs.Lists.{range}
use Rattle.sir_analyses.specs.inner.Tables.{RangeSets}
use Rattle.sir_analyses.proofs.block_sets.range_sets.Given as goal

abbrev pub invariant-loop-o : goal.invariant-loop-o
invariant-loop-o l = (l.o-start ≤ l.o) × (l.o ≤ l.initial.o) × RangeSets l.b.image.words.now (range l.o l.initial.o) l.sets
