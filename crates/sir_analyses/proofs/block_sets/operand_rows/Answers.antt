-- `operand_rows` meets its contract.
use Rattle.sir_analyses.proofs.local_liveness.LivenessTables.{operands_added}
use Rattle.sir_analyses.specs.inner.Stages.{part}
use Rattle.sir_analyses.proofs.block_sets.operand_rows.Goals as goal

pub returns : goal.returns
unfolding part
returns c =
    operands_added c.args.image.words.now c.args.live.now c.args.o.0 c.told-live (rw c.op_inputs.ensures at c.add_run.ensures) (rw c.op_outputs.ensures at c.add_run-2.ensures)
