-- `count_intervals` meets its contract.
use mathlib.Core.Path.{ap}
use native.Mathlib.Omega.{arith}
use lib.ListN.{length}
use Rattle.sir_answers.proofs.all_intervals.IntervalPieces.{intervals_are, intervals_small}
use Rattle.sir_answers.proofs.scatter.AllAnswers.{zero_fits, counted_all}
use Rattle.sir_answers.proofs.all_intervals.count_intervals.Goals as goal

pub scan_intervals-requires : goal.scan_intervals-requires
scan_intervals-requires c =
    let good = c.args.analysed.visit_stage.well_formed in
    let wide = c.requires.cursors_len.0 in
    record { cursors_len = (wide, zero_fits wide c.requires.cursors_len.1 (λ v h. ap length (intervals_are good v h)) (intervals_small good)) }

pub returns : goal.returns
returns c =
    counted_all c.requires.cursors_len.0 c.requires.cursors_len.1 (λ v h. ap length (intervals_are c.args.analysed.visit_stage.well_formed v h)) (omega (arith, c.scan_intervals.auto)) c.scan_intervals.ensures
