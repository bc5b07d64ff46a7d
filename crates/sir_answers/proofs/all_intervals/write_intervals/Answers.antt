-- `write_intervals` meets its contract.
use mathlib.Core.Path.{◌≡◌}
use native.Mathlib.Omega.{arith}
use lib.ListN.{length}
use Rattle.sir_data.specs.Records.{locals}
use Rattle.sir_answers.specs.inner.Scatter.{forward}
use Rattle.sir_answers.proofs.all_intervals.IntervalPieces.{intervals_are, intervals_small, local_below}
use Rattle.sir_answers.proofs.scatter.AllAnswers.{lengths_fit, placed_fits, counts_written}
use Rattle.sir_answers.proofs.all_intervals.write_intervals.Goals as goal

pub put_lengths-requires : goal.put_lengths-requires
put_lengths-requires c =
    let fit = lengths_fit c.requires.counts (intervals_small c.args.analysed.visit_stage.well_formed) c.requires.out_len in
    record { cursors_bound = fit.0; cursors_in_bounds = fit.1.0; by_index = fit.1.1 }

pub scan_intervals-requires : goal.scan_intervals-requires
scan_intervals-requires c =
    let good = c.args.analysed.visit_stage.well_formed in
    let k = c.requires.counts in
    let wide : length c.put_lengths.new.cursors ≡ locals c.args.analysed.image.words.now = omega (arith, c.put_lengths.auto, k.wide) in
    record { cursors_len = (wide, placed_fits k forward (intervals_are good) wide c.put_lengths.ensures (intervals_small good)) }

pub returns : goal.returns
returns c =
    let good = c.args.analysed.visit_stage.well_formed in
    let k = c.requires.counts in
    let lengths = c.put_lengths in
    counts_written k forward (local_below good) (intervals_are good) (omega (arith, lengths.auto, k.wide)) lengths.ensures (omega (arith, lengths.auto, c.requires.out_len)) c.scan_intervals.ensures
