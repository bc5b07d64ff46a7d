-- `operand_sets` meets its contract. The invariant: the rows of the first o operations are filled.
use Prim.Native.Nat.{◌≤◌}
use Rattle.sir_analyses.proofs.local_liveness.LivenessTables.{OperandsTo}
use Rattle.sir_analyses.proofs.block_sets.operand_sets.Given as goal

abbrev pub invariant-loop-o : goal.invariant-loop-o
invariant-loop-o l = (l.o ≤ l.count) × OperandsTo l.image.words.now l.live l.o
