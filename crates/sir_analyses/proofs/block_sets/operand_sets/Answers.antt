-- `operand_sets` meets its contract. The invariant: the rows of the first o operations are filled.
use native.Mathlib.Numerals.{add-one}
use Rattle.sir_analyses.proofs.local_liveness.LivenessTables.{operands_none, operands_more, operands_all}
use native.Mathlib.Omega.{arith}
use Rattle.sir_analyses.proofs.block_sets.operand_sets.Goals as goal

pub loop-o-init : goal.loop-o-init
loop-o-init c =
    (omega arith, operands_none c.args.image.words.now c.args.live.now c.requires.live_value)

pub loop-o-preserved : goal.loop-o-preserved
loop-o-preserved c =
    (rw add-one c.loop-o-test.true, operands_more c.loop-o.invariant.1 c.operand_rows.ensures)

pub returns : goal.returns
returns c =
    operands_all c.args.image.well_formed (omega (arith, c.operation_count-count.ensures)) c.loop-o.invariant.1
