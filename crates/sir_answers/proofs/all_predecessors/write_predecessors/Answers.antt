-- `write_predecessors` meets its contract.
use mathlib.Core.Path.{◌≡◌}
use native.Mathlib.Omega.{arith}
use lib.ListN.{length}
use Rattle.sir_data.specs.Records.{blocks}
use Rattle.sir_answers.specs.inner.Scatter.{forward}
use Rattle.sir_answers.proofs.all_predecessors.EdgePieces.{predecessor_pieces_lem, predecessors_small, predecessors_below}
use Rattle.sir_answers.proofs.scatter.AllAnswers.{lengths_fit, placed_fits, counts_written}
use Rattle.sir_answers.proofs.all_predecessors.write_predecessors.Goals as goal

pub put_lengths-requires : goal.put_lengths-requires
put_lengths-requires c =
    let fit = lengths_fit c.requires.counts (predecessors_small c.args.visited.image.words.now c.args.visited.visit_stage.well_formed) c.requires.out_len in
    record { cursors_bound = fit.0; cursors_in_bounds = fit.1.0; by_index = fit.1.1 }

pub scan_predecessors-requires : goal.scan_predecessors-requires
scan_predecessors-requires c =
    let w = c.args.visited.image.words.now in
    let k = c.requires.counts in
    let wide : length c.put_lengths.new.cursors ≡ blocks w = omega (arith, k.wide) in
    record { cursors_len = (wide, placed_fits k forward (λ v h. predecessor_pieces_lem w v) wide c.put_lengths.ensures (predecessors_small w c.args.visited.visit_stage.well_formed)) }

pub returns : goal.returns
returns c =
    let w = c.args.visited.image.words.now in
    let k = c.requires.counts in
    counts_written k forward (predecessors_below w c.args.visited.visit_stage.well_formed) (λ v h. predecessor_pieces_lem w v) (omega (arith, k.wide)) c.put_lengths.ensures (omega (arith, c.requires.out_len)) c.scan_predecessors.ensures
