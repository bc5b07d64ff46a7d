-- `block_rows` meets its contract.
use mathlib.Core.Path.{ap, ◌∙◌}
use lib.ListN.{length}
use Rattle.plank_core.specs.laws.DenseIndexSet.{length_row}
use Rattle.sir_analyses.proofs.stages.Parts.{length_part, put_back}
use Rattle.sir_analyses.proofs.local_liveness.LivenessTables.{used_long, block_added}
use Rattle.sir_analyses.specs.inner.Stages.{part}
use native.Mathlib.Omega.{arith}
use Rattle.sir_analyses.proofs.block_sets.block_rows.Goals as goal

pub use_row-requires : goal.use_row-requires
unfolding part
use_row-requires c =
    record { uses_len = length_part 16384 2048 c.args.live.now (omega (arith, c.told-live)); range_sets = c.requires.range_sets; by_index = c.requires.by_index }

pub row_union_with-requires : goal.row_union_with-requires
unfolding part
row_union_with-requires c =
    (omega (arith, length_part 18432 2048 (put_back 16384 2048 c.args.live.now c.use_row.new.uses) (omega (arith, used_long c.args.b.image.well_formed c.args.b.known c.args.live.now c.told-live c.requires.range_sets c.use_row.new.uses c.use_row.ensures)), c.args.b.known, c.args.b.image.well_formed.sized.blocks_most), ap length c.row_of.ensures ∙ length_row c.args.sets.now 1 (omega (arith, c.requires.range_sets.long)))

pub returns : goal.returns
unfolding part
returns c =
    block_added c.args.b.image.well_formed c.args.b.known c.args.live.now c.told-live c.requires.range_sets c.use_row.new.uses c.use_row.ensures _ (rw c.row_of.ensures at c.row_union_with.ensures.1)
