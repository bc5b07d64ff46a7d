-- `block_sets` meets its contract. The invariant: the rows of the first b blocks are filled, and the two sets are those of the range
-- `kept`.
use Prim.Native.Nat.{◌≤◌}
use Rattle.plank_core.specs.Lists.{range}
use Rattle.sir_analyses.specs.inner.Tables.{RangeSets}
use Rattle.sir_analyses.proofs.local_liveness.LivenessTables.{BlocksTo}
use Rattle.sir_analyses.proofs.block_sets.block_sets.Given as goal

abbrev pub invariant-loop-b : goal.invariant-loop-b
invariant-loop-b l = (l.b ≤ l.count) × BlocksTo l.image.words.now l.initial.live l.live l.b × RangeSets l.image.words.now (range l.kept.start l.kept.end) l.sets
