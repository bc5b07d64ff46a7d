-- `scan_operations` meets its contract. The invariant: the pieces of the operations before o are to be put.
use mathlib.Core.Path.{◌≡◌, sym, ap, ap₂, ◌∙◌}
use mathlib.Core.List.{List, ◌∷◌, reverse}
use Prim.Native.Nat.{ℕ, ◌+◌, ◌-◌, ◌<◌}
use native.Mathlib.Omega.{arith}
use borrow.Author.Rules.{rules}
use lib.ListN.{length}
use Rattle.plank_core.specs.Lists.{bind, range}
use Rattle.plank_core.specs.laws.Loops.{range_before, range_none, bind_back_step, bind_back_end}
use Rattle.plank_core.specs.inner.DenseIndexSet.{members, row_of}
use Rattle.sir_data.specs.Records.{operations, block_word, ops}
use Rattle.sir_analyses.specs.inner.Stages.{writes_in}
use Rattle.sir_answers.specs.inner.Scatter.{number_at}
use Rattle.sir_answers.specs.inner.IntervalPieces.{closed_pieces, OpenEnds, operation_pieces}
use Rattle.sir_answers.proofs.scatter.Scattering.{scattering_none, scattering_as, scattering_fits, scattering_more, scattering_all, scatters_as}
use Rattle.sir_answers.proofs.all_intervals.IntervalPieces.{operation_below}
use Rattle.sir_answers.proofs.all_intervals.OpenEnds.{listed_below, operation_closed, ends_more, close_ready}
use Rattle.sir_answers.proofs.all_intervals.scan_operations.Goals as goal

pub loop-o-init : goal.loop-o-init
loop-o-init c =
    let a = c.args in
    let w = a.analysed.image.words.now in
    let b = a.b.0 in
    let span = c.operations-span in
    let few = c.args.analysed.liveness_stage.well_formed.in_range.ops_range b c.requires.b_bound.0 in
    let os : ops w b ≡ range span.result.start span.result.end = sym (ap₂ range span.ensures.0 span.ensures.1) in
    (omega (arith, few, span.ensures), omega (arith, few, span.ensures), omega arith, search rules, rw (range_none span.result.end span.result.end (omega arith)) c.requires.b_bound.1, scattering_as (ap (λ (l : List ℕ). bind (reverse l) (operation_pieces w b)) os) (scattering_none c.requires.cursors_len.1))

pub close_ends-requires : goal.close_ends-requires
close_ends-requires c =
    let a = c.args in
    let w = a.analysed.image.words.now in
    let b = a.b.0 in
    let L = c.loop-o in
    let span = c.operations-span in
    let o = L.o - 1 in
    let m : o < operations w = omega (arith, c.loop-o-test.true, L.invariant.1) in
    let listed = c.list_row-n.ensures.1 ∙ ap (λ t. members (row_of t o)) c.writes.ensures in
    let next : L.o ≡ o + 1 = omega (arith, c.loop-o-test.true) in
    let os : range L.o span.result.end ≡ range (o + 1) (block_word w b 5) = ap₂ range next span.ensures.1 in
    let e = ap (closed_pieces b (o + 1) (number_at L.till)) listed ∙ operation_closed c.args.analysed.liveness_stage c.requires.b_bound.0 L.invariant.4 m os in
    let k = scattering_as (bind_back_step (operation_pieces w b) span.result.start L.o c.loop-o-test.true) L.invariant.5 in
    let ready = close_ready e (L.invariant.5.wide ∙ c.requires.cursors_len.0) (operation_below c.args.analysed.liveness_stage.well_formed c.requires.b_bound.0 o) (scattering_fits (operation_pieces w b o) (bind (reverse (range span.result.start o)) (operation_pieces w b)) k) in
    record { by_index = listed_below (row_of (writes_in a.analysed.live.now) o) L.till listed L.invariant.4.long; below = ready.0; fits = ready.1 }

pub set_ends-requires : goal.set_ends-requires
set_ends-requires c =
    listed_below (row_of c.writes.result.now (c.loop-o.o - 1)) c.loop-o.till c.list_row-n.ensures.1 c.loop-o.invariant.4.long

pub open_ends-requires : goal.open_ends-requires
open_ends-requires c =
    listed_below (row_of c.reads.result.now (c.loop-o.o - 1)) c.set_ends.new.till c.list_row-m.ensures.1 (omega (arith, c.set_ends.auto, c.loop-o.invariant.4.long))

pub loop-o-preserved : goal.loop-o-preserved
loop-o-preserved c =
    let a = c.args in
    let w = a.analysed.image.words.now in
    let b = a.b.0 in
    let L = c.loop-o in
    let span = c.operations-span in
    let o = L.o - 1 in
    let m : o < operations w = omega (arith, c.loop-o-test.true, L.invariant.1) in
    let listed = c.list_row-n.ensures.1 ∙ ap (λ t. members (row_of t o)) c.writes.ensures in
    let next : L.o ≡ o + 1 = omega (arith, c.loop-o-test.true) in
    let os : range L.o span.result.end ≡ range (o + 1) (block_word w b 5) = ap₂ range next span.ensures.1 in
    let e = ap (closed_pieces b (o + 1) (number_at L.till)) listed ∙ operation_closed c.args.analysed.liveness_stage c.requires.b_bound.0 L.invariant.4 m os in
    let k = scattering_as (bind_back_step (operation_pieces w b) span.result.start L.o c.loop-o-test.true) L.invariant.5 in
    let read = c.list_row-m.ensures.1 ∙ ap (λ t. members (row_of t o)) c.reads.ensures in
    let long : length c.open_ends.new.till ≡ 512 = omega (arith, c.open_ends.auto, c.set_ends.auto, L.invariant.4.long) in
    let ends : OpenEnds w b (o ∷ range L.o span.result.end) c.open_ends.new.till = ends_more c.args.analysed.liveness_stage c.requires.b_bound.0 L.invariant.4 m c.set_ends.new.till long (rw listed at c.set_ends.ensures) (rw read at c.open_ends.ensures) in
    (omega (arith, c.loop-o-test.true), omega (arith, L.invariant.1), omega (arith, L.invariant.2), omega (arith, c.list_row-m.auto, c.list_row-n.auto, L.invariant.3), rw (range_before L.o span.result.end (omega (arith, c.loop-o-test.true)) L.invariant.2) ends, scattering_more (bind (reverse (range span.result.start o)) (operation_pieces w b)) k (scatters_as e c.close_ends.ensures))

pub returns : goal.returns
returns c =
    let a = c.args in
    let w = a.analysed.image.words.now in
    let b = a.b.0 in
    let L = c.loop-o in
    let span = c.operations-span in
    let first : L.o ≡ block_word w b 4 = omega (arith, span.ensures, c.loop-o-test.false, L.invariant.0) in
    let os : range L.o span.result.end ≡ ops w b = ap₂ range first span.ensures.1 in
    record { open_ends = rw os at L.invariant.4; scatters = scattering_all (bind_back_end (operation_pieces w b) span.result.start L.o c.loop-o-test.false) L.invariant.5 }
