-- `close_block` meets its contract.
use mathlib.Core.Path.{ap, ◌∙◌}
use Rattle.sir_answers.specs.inner.Scatter.{number_at}
use Rattle.sir_answers.specs.inner.IntervalPieces.{closed_pieces}
use Rattle.sir_analyses.proofs.local_liveness.SetAnswers.{front_members}
use Rattle.sir_answers.proofs.scatter.Scattering.{scatters_as}
use Rattle.sir_answers.proofs.all_intervals.IntervalPieces.{start_below}
use Rattle.sir_answers.proofs.all_intervals.OpenEnds.{listed_below, start_closed, close_ready}
use Rattle.sir_answers.proofs.all_intervals.close_block.Goals as goal

pub close_ends-requires : goal.close_ends-requires
close_ends-requires c =
    let a = c.args in
    let ws = c.compute_liveness_at_block_entry-set.result.words in
    let listed = front_members ws _ c.list-n.ensures.0 c.list-n.ensures.1 in
    let ends = c.requires.b_bound.1 in
    let e = ap (closed_pieces a.b.0 0 (number_at a.till.now)) listed ∙ start_closed c.args.analysed.liveness_stage c.requires.b_bound.0 ws ends c.compute_liveness_at_block_entry-set.ensures.1 in
    let ready = close_ready e c.requires.cursors_len.0 (start_below c.args.analysed.liveness_stage.well_formed c.requires.b_bound.0) c.requires.cursors_len.1 in
    record { by_index = listed_below ws a.till.now listed ends.long; below = ready.0; fits = ready.1 }

pub returns : goal.returns
returns c =
    let a = c.args in
    let ws = c.compute_liveness_at_block_entry-set.result.words in
    let listed = front_members ws _ c.list-n.ensures.0 c.list-n.ensures.1 in
    let e = ap (closed_pieces a.b.0 0 (number_at a.till.now)) listed ∙ start_closed c.args.analysed.liveness_stage c.requires.b_bound.0 ws c.requires.b_bound.1 c.compute_liveness_at_block_entry-set.ensures.1 in
    scatters_as e c.close_ends.ensures
