-- `count_allocations` meets its contract.
use Prim.Native.Nat.{◌<◌}
use native.Mathlib.Omega.{arith}
use lib.ListN.{length}
use Rattle.sir_answers.proofs.scatter.AllAnswers.{top_fits, passed_all, scatters_cursor}
use Rattle.sir_answers.proofs.all_allocations.AllocationPieces.{records_small, records_counted}
use Rattle.sir_answers.proofs.all_allocations.count_allocations.Goals as goal

pub scan_allocations-requires : goal.scan_allocations-requires
scan_allocations-requires c =
    let stage = c.args.tables.pointer_stage in
    let wide = c.requires.cursors_len.0 in
    let top = c.requires.cursors_len.1 in
    record { cursors_len = (wide, top_fits wide top (records_counted stage) (records_small stage)) }

pub passed_words-requires : goal.passed_words-requires
passed_words-requires c =
    let top = c.requires.cursors_len.1 in
    let s = c.scan_allocations in
    λ v h. let l : v < length c.args.cursors.now = omega (arith, s.auto) in omega (arith, scatters_cursor v l s.ensures, top v l)

pub returns : goal.returns
returns c =
    let stage = c.args.tables.pointer_stage in
    let wide = c.requires.cursors_len.0 in
    let top = c.requires.cursors_len.1 in
    passed_all wide top (records_counted stage) (records_small stage) c.scan_allocations.ensures (omega (arith, c.passed_words.auto, c.scan_allocations.auto)) c.passed_words.ensures
