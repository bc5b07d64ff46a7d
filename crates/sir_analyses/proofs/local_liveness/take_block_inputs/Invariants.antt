-- `take_block_inputs` meets its contract. The invariant: the first i inputs are gone from the set, and the positions of those that it had are found.
use Rattle.sir_analyses.proofs.local_liveness.Sending.{TakingInputs}
use Rattle.sir_analyses.proofs.local_liveness.take_block_inputs.Given as goal

abbrev pub invariant-loop-i : goal.invariant-loop-i
invariant-loop-i l = TakingInputs l.inputs l.initial.set l.initial.moved l.set l.moved l.n l.i
