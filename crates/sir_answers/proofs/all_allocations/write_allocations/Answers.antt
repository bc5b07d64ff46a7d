-- `write_allocations` meets its contract.
use mathlib.Core.Path.{◌≡◌}
use native.Mathlib.Omega.{arith}
use lib.ListN.{length}
use Rattle.sir_analyses.specs.Allocation.{allocs}
use Rattle.sir_answers.specs.inner.Scatter.{backward}
use Rattle.sir_answers.proofs.scatter.AllAnswers.{lengths_fit, placed_fits, counts_written}
use Rattle.sir_answers.proofs.all_allocations.AllocationPieces.{records_are, records_small, records_below}
use Rattle.sir_answers.proofs.all_allocations.write_allocations.Goals as goal

pub put_lengths-requires : goal.put_lengths-requires
put_lengths-requires c =
    let stage = c.args.tables.pointer_stage in
    let counts = c.requires.counts in
    let fit = lengths_fit counts (records_small stage) c.requires.out_len in
    record { cursors_bound = fit.0; cursors_in_bounds = fit.1.0; by_index = fit.1.1 }

pub scan_allocations-requires : goal.scan_allocations-requires
scan_allocations-requires c =
    let stage = c.args.tables.pointer_stage in
    let counts = c.requires.counts in
    let wide : length c.put_lengths.new.cursors ≡ length (allocs c.args.tables.image.words.now) = omega (arith, c.put_lengths.auto, counts.wide) in
    record { cursors_len = (wide, placed_fits counts backward (records_are stage) wide c.put_lengths.ensures (records_small stage)) }

pub returns : goal.returns
returns c =
    let stage = c.args.tables.pointer_stage in
    let counts = c.requires.counts in
    let lengths = c.put_lengths in
    counts_written counts backward (records_below c.args.tables.image.words.now stage.well_formed) (records_are stage) (omega (arith, lengths.auto, counts.wide)) lengths.ensures (omega (arith, lengths.auto, c.requires.out_len)) c.scan_allocations.ensures
