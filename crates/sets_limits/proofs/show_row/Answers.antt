-- `show_row` shows eight words.
use Rattle.std.proofs.Common.{ap, ◌∙◌, length}
use Rattle.plank_core.specs.laws.DenseIndexSet.{length_row}
use Rattle.sets_limits.proofs.show_row.Goals as goal

pub show-requires : goal.show-requires
show-requires g c = ap length c.row_of.ensures ∙ length_row c.args.table.now c.args.row c.requires
