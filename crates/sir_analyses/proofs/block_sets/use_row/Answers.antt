-- `use_row` meets its contract.
use mathlib.Core.Path.{ap, ◌∙◌}
use lib.ListN.{length}
use Rattle.plank_core.specs.laws.DenseIndexSet.{length_row}
use Rattle.sir_analyses.proofs.block_sets.BlockSets.{row_used}
use native.Mathlib.Omega.{arith}
use Rattle.sir_analyses.proofs.block_sets.use_row.Goals as goal

pub row_difference_with-requires : goal.row_difference_with-requires
row_difference_with-requires c =
    (omega (arith, c.add_end.auto, c.requires.uses_len, c.args.b.known, c.args.b.image.well_formed.sized.blocks_most), ap length c.row_of.ensures ∙ length_row c.args.sets.now 1 (omega (arith, c.requires.range_sets.long)))

pub row_union_with-requires : goal.row_union_with-requires
row_union_with-requires c =
    (omega (arith, c.row_difference_with.auto, c.add_end.auto, c.requires.uses_len, c.args.b.known, c.args.b.image.well_formed.sized.blocks_most), ap length c.row_of-2.ensures ∙ length_row c.args.sets.now 0 (omega (arith, c.requires.range_sets.long)))

pub returns : goal.returns
returns c =
    rw (c.row_union_with.ensures.1, c.row_of-2.ensures, c.row_difference_with.ensures, c.row_of.ensures) (row_used c.args.b.image.well_formed c.args.b.id.0 c.args.b.known c.requires.by_index c.add_end.ensures c.requires.range_sets)
