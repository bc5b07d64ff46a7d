-- `block_text` meets its contract.
use mathlib.Core.Path.{refl, ap, ◌∙◌}
use mathlib.Core.List.{List}
use Prim.Native.Nat.{ℕ}
use native.Mathlib.Omega.{arith}
use lib.ListN.{length}
use Rattle.plank_core.specs.inner.DenseIndexSet.{members, row_of}
use Rattle.plank_core.specs.laws.DenseIndexSet.{length_row}
use Rattle.plank_core.specs.laws.Putting.{put_as}
use Rattle.report_lines.specs.Lines.{block_text}
use Rattle.report_lines.proofs.TooLong.{front}
use Rattle.report_lines.proofs.printing.block_text.Goals as goal

pub list-m-requires : goal.list-m-requires
list-m-requires c =
    (ap length c.row_of.ensures ∙ length_row c.exits.result.now c.args.b.0 (omega (arith, ap length c.exits.ensures ∙ c.args.sets.liveness_stage.sets.exits_long, c.requires.b_bound.0, c.args.sets.liveness_stage.well_formed.sized.blocks_most)), omega arith)

pub returns : goal.returns
unfolding block_text
returns c =
    let rows = c.args.sets.liveness_stage.sets in
    let b : ℕ = c.args.b.0 in
    let i = front (members c.compute_liveness_at_block_entry-set.result.words) _ c.list-n.ensures.0 c.list-n.ensures.1 in
    let o = front (members c.row_of.result.now) _ c.list-m.ensures.0 c.list-m.ensures.1 in
    put_as (rw (i ∙ rows.entry_is b c.requires.b_bound.0 c.requires.b_bound.1 c.compute_liveness_at_block_entry-set.result.words c.compute_liveness_at_block_entry-set.ensures.1, o ∙ ap members (c.row_of.ensures ∙ ap (λ (t : List ℕ). row_of t b) c.exits.ensures) ∙ rows.exit_is b c.requires.b_bound.0) refl) c.block_line.ensures
