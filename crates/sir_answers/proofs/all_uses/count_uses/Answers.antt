-- `count_uses` meets its contract.
use mathlib.Core.Path.{refl}
use native.Mathlib.Omega.{arith}
use Rattle.plank_core.specs.Lists.{bind}
use Rattle.plank_core.specs.laws.Lists.{zero_at}
use Rattle.sir_analyses.specs.Order.{blocks_rpo}
use Rattle.sir_answers.specs.inner.Pieces.{end_pieces, input_pieces}
use Rattle.sir_answers.proofs.scatter.Scattering.{scatters_then, fits_first, fits_rest}
use Rattle.sir_answers.proofs.all_uses.UsePieces.{uses_small, uses_counted}
use Rattle.sir_answers.proofs.scatter.AllAnswers.{zero_fits, counted_all}
use Rattle.sir_answers.proofs.all_uses.count_uses.Goals as goal

pub operation_times-requires : goal.operation_times-requires
operation_times-requires c =
    record { times_len = (refl, zero_at 1024) }

pub count_inputs-requires : goal.count_inputs-requires
count_inputs-requires c =
    let k = c.operation_times.ensures in
    let w = c.args.visited.image.words.now in
    let wide = c.requires.cursors_len.0 in
    let fit = zero_fits wide c.requires.cursors_len.1 (λ v h. uses_counted w c.args.visited.visit_stage.well_formed k v) (uses_small w c.args.visited.visit_stage.well_formed) in
    record { operation_times = (k, wide); fits = fits_first (input_pieces w c.operation_times.new.times) (bind (blocks_rpo w) (end_pieces w)) fit }

pub scan_all_ends-requires : goal.scan_all_ends-requires
scan_all_ends-requires c =
    let w = c.args.visited.image.words.now in
    let wide = c.requires.cursors_len.0 in
    let fit = zero_fits wide c.requires.cursors_len.1 (λ v h. uses_counted w c.args.visited.visit_stage.well_formed c.operation_times.ensures v) (uses_small w c.args.visited.visit_stage.well_formed) in
    record { cursors_len = omega (arith, wide); fits = fits_rest (bind (blocks_rpo w) (end_pieces w)) fit c.count_inputs.ensures }

pub returns : goal.returns
returns c =
    counted_all c.requires.cursors_len.0 c.requires.cursors_len.1 (λ v h. uses_counted c.args.visited.image.words.now c.args.visited.visit_stage.well_formed c.operation_times.ensures v) (omega arith) (scatters_then c.count_inputs.ensures c.scan_all_ends.ensures)
