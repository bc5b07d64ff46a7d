-- `scan_block` meets its contract.
use mathlib.Core.Path.{refl, ◌∙◌}
use mathlib.Core.List.{[]}
use native.Mathlib.Omega.{arith}
use Rattle.plank_core.specs.laws.Lists.{zero_at}
use Rattle.sir_answers.specs.inner.Scatter.{forward}
use Rattle.sir_answers.specs.inner.IntervalPieces.{OpenEnds, operations_pieces, start_pieces}
use Rattle.sir_answers.specs.laws.Scatter.{room_first}
use Rattle.sir_answers.proofs.scatter.Scattering.{scattering_none, scattering_more, scatters_then}
use Rattle.sir_answers.proofs.all_intervals.OpenEnds.{ends_none}
use Rattle.sir_answers.proofs.all_intervals.scan_block.Goals as goal

pub open_block-requires : goal.open_block-requires
open_block-requires c =
    record { b_bound = (omega (arith, c.requires.b_bound, c.args.analysed.liveness_stage.well_formed.sized.blocks_most)); till_len = (refl, λ v. zero_at 512 v) }

pub scan_operations-requires : goal.scan_operations-requires
scan_operations-requires c =
    let a = c.args in
    let w = a.analysed.image.words.now in
    let b = a.b.0 in
    let opened : OpenEnds w b [] c.open_block.new.till = ends_none c.args.analysed.liveness_stage c.requires.b_bound c.open_block.auto.till c.open_block.ensures in
    record { b_bound = (c.requires.b_bound, opened); cursors_len = (c.requires.cursors_len.0, room_first forward (operations_pieces w b) (start_pieces w b) c.requires.cursors_len.1) }

pub close_block-requires : goal.close_block-requires
close_block-requires c =
    let a = c.args in
    let w = a.analysed.image.words.now in
    let b = a.b.0 in
    let k = scattering_more (start_pieces w b) (scattering_none c.requires.cursors_len.1) c.scan_operations.ensures.scatters in
    record { b_bound = (c.requires.b_bound, c.scan_operations.ensures.open_ends); cursors_len = (k.wide ∙ c.requires.cursors_len.0, k.fits) }

pub returns : goal.returns
returns c =
    scatters_then c.scan_operations.ensures.scatters c.close_block.ensures
