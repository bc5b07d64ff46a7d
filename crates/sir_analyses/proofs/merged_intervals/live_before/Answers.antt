-- `live_before` meets its contract.
use Rattle.sir_analyses.proofs.stages.Parts.{length_part}
use mathlib.Core.Path.{ap, ◌∙◌}
use lib.ListN.{length}
use Rattle.plank_core.specs.laws.DenseIndexSet.{length_row}
use Rattle.sir_analyses.proofs.merged_intervals.MergedIntervals.{exchanged}
use native.Mathlib.Omega.{arith}
use Rattle.sir_analyses.proofs.merged_intervals.live_before.Goals as goal

pub row_of-requires : goal.row_of-requires
row_of-requires c =
    omega (arith, ap length c.writes.ensures ∙ length_part 8192 8192 c.args.live.now (omega (arith, c.told-live)), c.requires)

pub row_difference_with-requires : goal.row_difference_with-requires
row_difference_with-requires c =
    (omega (arith, c.requires), ap length c.row_of.ensures ∙ length_row c.writes.result.now c.args.o.0 (omega (arith, ap length c.writes.ensures ∙ length_part 8192 8192 c.args.live.now (omega (arith, c.told-live)), c.requires)))

pub row_of-requires-2 : goal.row_of-requires-2
row_of-requires-2 c =
    omega (arith, ap length c.reads.ensures ∙ length_part 0 8192 c.args.live.now (omega (arith, c.told-live)), c.requires)

pub row_union_with-requires : goal.row_union_with-requires
row_union_with-requires c =
    (omega (arith, c.requires, c.row_difference_with.auto), ap length c.row_of-2.ensures ∙ length_row c.reads.result.now c.args.o.0 (omega (arith, ap length c.reads.ensures ∙ length_part 0 8192 c.args.live.now (omega (arith, c.told-live)), c.requires)))

pub returns : goal.returns
returns c = grind (arith, exchanged)
