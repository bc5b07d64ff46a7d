-- `sweep_block` meets its contract. The invariant: the pieces of the operations before o, and of the start, are to be put.
use mathlib.Core.Path.{◌≡◌, refl, sym, ap, ap₂, ◌∙◌}
use mathlib.Core.List.{List, [], ◌∷◌, ◌++◌, reverse}
use Prim.Native.Nat.{ℕ, ◌+◌, ◌-◌, ◌<◌}
use native.Mathlib.Omega.{arith}
use lib.ListN.{length, replicate}
use Rattle.plank_core.specs.Lists.{bind, range}
use Rattle.plank_core.specs.laws.Loops.{range_before, range_none}
use Rattle.plank_core.specs.inner.DenseIndexSet.{row_of}
use Rattle.plank_core.specs.laws.Lists.{zero_at}
use Rattle.sir_data.specs.Records.{operations, block_word, ops}
use Rattle.sir_answers.specs.inner.Scatter.{number_at}
use Rattle.sir_answers.specs.inner.IntervalPieces.{closed_pieces}
use Rattle.sir_answers.specs.inner.AllocationPieces.{SweptEnds, swept_pieces, open_pieces}
use Rattle.sir_answers.proofs.scatter.Scattering.{scattering_none, scattering_as, scattering_fits, scattering_more, scattering_all, scatters_as}
use Rattle.sir_answers.proofs.all_intervals.OpenEnds.{listed_below, close_ready}
use Rattle.sir_answers.proofs.all_allocations.AllocationPieces.{swept_below, open_below, swept_left, swept_next, swept_last}
use Rattle.sir_answers.proofs.LiveSets.{LiveBefore, live_none, live_more}
use Rattle.sir_answers.proofs.all_allocations.SweptEnds.{swept_none, swept_closed, swept_more, open_closed}
use Rattle.sir_answers.proofs.all_allocations.sweep_block.Goals as goal

pub set_ends-requires : goal.set_ends-requires
set_ends-requires c =
    let x = c.live_owners-n.ensures.1 in
    listed_below x.owners (replicate 512 0) x.listed refl

pub loop-o-init : goal.loop-o-init
loop-o-init c =
    let a = c.args in
    let w = a.tables.image.words.now in
    let b = a.b.0 in
    let stage = c.args.tables.liveness_stage in
    let below = c.requires.b_bound in
    let span = c.operations-span in
    let few = stage.well_formed.in_range.ops_range b below in
    let os : ops w b ≡ range span.result.start span.result.end = sym (ap₂ range span.ensures.0 span.ensures.1) in
    let none = range_none span.result.end span.result.end (omega arith) in
    let lives : LiveBefore w b [] c.live_after.new.set = live_none stage below (omega (arith, c.live_after.auto)) c.live_after.ensures in
    let ends : SweptEnds w b [] c.set_ends.new.till = swept_none stage c.requires.owned_tables below (replicate 512 0) lives c.live_owners-n.ensures.1 c.set_ends.auto.till (λ v. zero_at 512 v) c.set_ends.ensures in
    (omega (arith, few, span.ensures), omega (arith, few, span.ensures), omega arith, c.live_owners-n.auto.ids, rw none lives, rw none ends, scattering_as (ap (λ (l : List ℕ). bind (reverse l) (swept_pieces w b) ++ open_pieces w b) os) (scattering_none c.requires.cursors_len.1))

pub close_before-requires : goal.close_before-requires
close_before-requires c =
    let a = c.args in
    let w = a.tables.image.words.now in
    let b = a.b.0 in
    let stage = c.args.tables.liveness_stage in
    let below = c.requires.b_bound in
    let L = c.loop-o in
    let span = c.operations-span in
    let h = c.loop-o-test.true in
    let o = L.o - 1 in
    let m : o < operations w = omega (arith, h, L.invariant.1) in
    let long : length c.live_before.new.set ≡ 8 = omega (arith, c.live_before.auto, L.invariant.4.long) in
    let next : L.o ≡ o + 1 = omega (arith, h) in
    let os : range L.o span.result.end ≡ range (o + 1) (block_word w b 5) = ap₂ range next span.ensures.1 in
    let split = c.split_touched-split.ensures in
    let closed = ap (closed_pieces b (o + 1) (number_at L.till)) c.list_row-dead.ensures.1 ∙ swept_closed stage c.requires.owned_tables below L.invariant.4 L.invariant.5 m c.live_before.ensures long split os in
    let k = scattering_as (swept_next w b span.result.start L.o h) L.invariant.6 in
    let ready = close_ready closed (L.invariant.6.wide ∙ c.requires.cursors_len.0) (swept_below w stage.well_formed b o below) (scattering_fits (swept_pieces w b o) (swept_left w b span.result.start o) k) in
    record { by_index = listed_below (row_of c.split_touched-split.result 1) L.till c.list_row-dead.ensures.1 L.invariant.5.long; below = ready.0; fits = ready.1 }

pub set_ends-requires-in-loop-o : goal.set_ends-requires-in-loop-o
set_ends-requires-in-loop-o c =
    listed_below (row_of c.split_touched-split.result 1) c.loop-o.till c.list_row-dead.ensures.1 c.loop-o.invariant.5.long

pub open_ends-requires : goal.open_ends-requires
open_ends-requires c =
    listed_below (row_of c.split_touched-split.result 0) c.set_ends-in-loop-o.new.till c.list_row-alive.ensures.1 (omega (arith, c.set_ends-in-loop-o.auto, c.loop-o.invariant.5.long))

pub loop-o-preserved : goal.loop-o-preserved
loop-o-preserved c =
    let a = c.args in
    let w = a.tables.image.words.now in
    let b = a.b.0 in
    let stage = c.args.tables.liveness_stage in
    let below = c.requires.b_bound in
    let L = c.loop-o in
    let span = c.operations-span in
    let h = c.loop-o-test.true in
    let o = L.o - 1 in
    let m : o < operations w = omega (arith, h, L.invariant.1) in
    let long : length c.live_before.new.set ≡ 8 = omega (arith, c.live_before.auto, L.invariant.4.long) in
    let next : L.o ≡ o + 1 = omega (arith, h) in
    let os : range L.o span.result.end ≡ range (o + 1) (block_word w b 5) = ap₂ range next span.ensures.1 in
    let split = c.split_touched-split.ensures in
    let closed = ap (closed_pieces b (o + 1) (number_at L.till)) c.list_row-dead.ensures.1 ∙ swept_closed stage c.requires.owned_tables below L.invariant.4 L.invariant.5 m c.live_before.ensures long split os in
    let k = scattering_as (swept_next w b span.result.start L.o h) L.invariant.6 in
    let till₁ = c.set_ends-in-loop-o.new.till in
    let till₂ = c.open_ends.new.till in
    let set = c.live_before.new.set in
    let ends_long : length till₂ ≡ 512 = omega (arith, c.open_ends.auto, c.set_ends-in-loop-o.auto, L.invariant.5.long) in
    let lives : LiveBefore w b (o ∷ range L.o span.result.end) set = live_more stage below L.invariant.4 m c.live_before.ensures long in
    let ends : SweptEnds w b (o ∷ range L.o span.result.end) till₂ = swept_more stage c.requires.owned_tables below L.invariant.4 L.invariant.5 m c.live_before.ensures long split till₁ ends_long (rw c.list_row-dead.ensures.1 at c.set_ends-in-loop-o.ensures) (rw c.list_row-alive.ensures.1 at c.open_ends.ensures) in
    let before = range_before L.o span.result.end (omega (arith, h)) L.invariant.2 in
    (omega (arith, h), omega (arith, L.invariant.1), omega (arith, L.invariant.2), omega (arith, c.list_row-alive.auto, c.list_row-dead.auto, c.split_touched-split.auto, L.invariant.3), rw before lives, rw before ends, scattering_more (swept_left w b span.result.start o) k (scatters_as closed c.close_before.ensures))

pub close_before-requires-2 : goal.close_before-requires-2
close_before-requires-2 c =
    let a = c.args in
    let w = a.tables.image.words.now in
    let b = a.b.0 in
    let L = c.loop-o in
    let span = c.operations-span in
    let first : L.o ≡ block_word w b 4 = omega (arith, span.ensures, c.loop-o-test.false, L.invariant.0) in
    let os : range L.o span.result.end ≡ ops w b = ap₂ range first span.ensures.1 in
    let e = open_closed c.args.tables.liveness_stage c.requires.owned_tables c.requires.b_bound (rw os at L.invariant.4) c.live_owners-m.ensures.1 (rw os at L.invariant.5) in
    let k = scattering_as (swept_last w b span.result.start L.o c.loop-o-test.false) L.invariant.6 in
    let x = c.live_owners-m.ensures.1 in
    let ready = close_ready e (L.invariant.6.wide ∙ c.requires.cursors_len.0) (open_below w c.args.tables.liveness_stage.well_formed b c.requires.b_bound) (scattering_fits (open_pieces w b) [] k) in
    record { by_index = listed_below x.owners L.till x.listed L.invariant.5.long; below = ready.0; fits = ready.1 }

pub returns : goal.returns
returns c =
    let a = c.args in
    let w = a.tables.image.words.now in
    let b = a.b.0 in
    let L = c.loop-o in
    let span = c.operations-span in
    let first : L.o ≡ block_word w b 4 = omega (arith, span.ensures, c.loop-o-test.false, L.invariant.0) in
    let os : range L.o span.result.end ≡ ops w b = ap₂ range first span.ensures.1 in
    let e = open_closed c.args.tables.liveness_stage c.requires.owned_tables c.requires.b_bound (rw os at L.invariant.4) c.live_owners-m.ensures.1 (rw os at L.invariant.5) in
    let k = scattering_as (swept_last w b span.result.start L.o c.loop-o-test.false) L.invariant.6 in
    scattering_all refl (scattering_more [] k (scatters_as e c.close_before-2.ensures))
