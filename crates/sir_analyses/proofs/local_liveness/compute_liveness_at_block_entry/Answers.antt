-- `compute_liveness_at_block_entry` meets its contract.
use mathlib.Core.Path.{ap, ◌∙◌}
use lib.ListN.{length}
use Rattle.plank_core.specs.laws.DenseIndexSet.{length_row}
use Rattle.sir_analyses.proofs.stages.Parts.{length_part}
use Rattle.sir_analyses.proofs.local_liveness.Sending.{entry_words}
use native.Mathlib.Omega.{arith}
use Rattle.sir_analyses.proofs.local_liveness.compute_liveness_at_block_entry.Goals as goal

pub row_of-requires : goal.row_of-requires
row_of-requires c =
    omega (arith, ap length c.exits.ensures ∙ length_part 22528 2048 c.args.live.now (omega (arith, c.requires)), c.requires)

pub row_union_with-requires : goal.row_union_with-requires
row_union_with-requires c =
    (omega arith, ap length c.row_of.ensures ∙ length_row _ _ (omega (arith, ap length c.exits.ensures ∙ length_part 22528 2048 c.args.live.now (omega (arith, c.requires)), c.requires)))

pub row_of-requires-2 : goal.row_of-requires-2
row_of-requires-2 c =
    omega (arith, ap length c.defs.ensures ∙ length_part 18432 2048 c.args.live.now (omega (arith, c.requires)), c.requires)

pub row_difference_with-requires : goal.row_difference_with-requires
row_difference_with-requires c =
    (omega arith, ap length c.row_of-2.ensures ∙ length_row _ _ (omega (arith, ap length c.defs.ensures ∙ length_part 18432 2048 c.args.live.now (omega (arith, c.requires)), c.requires)))

pub row_of-requires-3 : goal.row_of-requires-3
row_of-requires-3 c =
    omega (arith, ap length c.uses.ensures ∙ length_part 16384 2048 c.args.live.now (omega (arith, c.requires)), c.requires)

pub row_union_with-requires-2 : goal.row_union_with-requires-2
row_union_with-requires-2 c =
    (omega arith, ap length c.row_of-3.ensures ∙ length_row _ _ (omega (arith, ap length c.uses.ensures ∙ length_part 16384 2048 c.args.live.now (omega (arith, c.requires)), c.requires)))

pub returns : goal.returns
returns c = grind (arith, entry_words)
