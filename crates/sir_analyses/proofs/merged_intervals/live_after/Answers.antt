-- `live_after` meets its contract.
use Rattle.sir_analyses.proofs.stages.Parts.{length_part}
use mathlib.Core.Path.{ap, ◌∙◌}
use lib.ListN.{length}
use Rattle.plank_core.specs.laws.DenseIndexSet.{length_row}
use Rattle.sir_analyses.proofs.merged_intervals.MergedIntervals.{joined}
use native.Mathlib.Omega.{arith}
use Rattle.sir_analyses.proofs.merged_intervals.live_after.Goals as goal

pub row_of-requires : goal.row_of-requires
row_of-requires c =
    omega (arith, ap length c.exits.ensures ∙ length_part 22528 2048 c.args.live.now (omega (arith, c.told-live)), c.requires)

pub row_union_with-requires : goal.row_union_with-requires
row_union_with-requires c =
    (omega (arith, ap length c.requires.1), ap length c.row_of.ensures ∙ length_row c.exits.result.now c.args.b.0 (omega (arith, ap length c.exits.ensures ∙ length_part 22528 2048 c.args.live.now (omega (arith, c.told-live)), c.requires)))

pub row_of-requires-2 : goal.row_of-requires-2
row_of-requires-2 c =
    omega (arith, ap length c.ends.ensures ∙ length_part 20480 2048 c.args.live.now (omega (arith, c.told-live)), c.requires)

pub row_union_with-requires-2 : goal.row_union_with-requires-2
row_union_with-requires-2 c =
    (omega (arith, ap length c.requires.1, c.row_union_with.auto), ap length c.row_of-2.ensures ∙ length_row c.ends.result.now c.args.b.0 (omega (arith, ap length c.ends.ensures ∙ length_part 20480 2048 c.args.live.now (omega (arith, c.told-live)), c.requires)))

pub returns : goal.returns
returns c = grind (arith, joined)
