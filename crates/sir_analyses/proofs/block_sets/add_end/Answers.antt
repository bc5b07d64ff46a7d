-- `add_end` meets its contract.
use Rattle.sir_analyses.proofs.Accepted.{returned_below}
use Rattle.sir_analyses.proofs.block_sets.BlockSets.{small}
use native.Mathlib.Omega.{arith}
use Rattle.sir_analyses.proofs.block_sets.add_end.Goals as goal

pub add_run-requires : goal.add_run-requires
add_run-requires c =
    let b = c.args.b.id.0 in record { row_in_bounds = omega (arith, c.add_condition.ensures.long, c.requires.table_len, c.args.b.known, c.args.b.image.well_formed.sized.blocks_most); by_index = λ v m. small c.args.b.image.well_formed (returned_below c.args.b.image.words.now c.args.b.image.well_formed b v c.args.b.known (rw c.returned_outputs.ensures at m)) }
