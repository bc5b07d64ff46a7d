-- `scan_to` meets its contract. The invariant: whatever block the scan started in, the operations from p on are passed.
use mathlib.Core.Path.{◌≡◌, ap}
use Prim.Native.Nat.{◌+◌, ◌-◌, ◌<◌}
use native.Mathlib.Omega.{arith}
use lib.ListN.{length}
use Rattle.plank_core.specs.Lists.{range}
use Rattle.plank_core.specs.laws.Lists.{mem_range}
use Rattle.plank_core.specs.laws.Loops.{range_before, range_none}
use Rattle.sir_data.specs.Records.{operations, block_word}
use Rattle.sir_answers.proofs.LiveSets.{LiveBefore, live_none, live_more, around_here}
use Rattle.sir_answers.proofs.open_allocations.scan_to.Goals as goal

pub loop-p-init : goal.loop-p-init
loop-p-init c =
    let w = c.args.sets.image.words.now in
    let b = c.args.b.0 in
    let span = c.operations-span in (
      omega (arith, mem_range c.args.o.0 (block_word w b 4) (block_word w b 5) c.requires.b_bound.1, span.ensures),
      omega arith,
      omega (arith, c.live_after.auto, ap length c.requires.b_bound.2),
      λ d h e k. rw (range_none span.result.end span.result.end (omega arith)) k,
    )

pub loop-p-preserved : goal.loop-p-preserved
loop-p-preserved c =
    let w = c.args.sets.image.words.now in
    let l = c.loop-p in
    let span = c.operations-span in
    let g = c.live_before in
    let test = c.loop-p-test.true in (
      omega (arith, test),
      omega (arith, l.invariant.1),
      omega (arith, g.auto, l.invariant.2),
      λ d h e k.
          let m : l.p - 1 < operations w = omega (arith, test, l.invariant.1, e, c.args.sets.liveness_stage.well_formed.in_range.ops_range d h) in
          rw (range_before l.p span.result.end (omega arith) (omega (arith, l.invariant.1))) (live_more c.args.sets.liveness_stage h (l.invariant.3 d h e k) m g.ensures (omega (arith, g.auto, l.invariant.2))),
    )

pub returns : goal.returns
returns c =
    let w = c.args.sets.image.words.now in
    let b = c.args.b.0 in
    let o = c.args.o.0 in
    let stage = c.args.sets.liveness_stage in
    let below = c.requires.b_bound.0 in
    let l = c.loop-p in
    let span = c.operations-span in
    let place = mem_range o (block_word w b 4) (block_word w b 5) c.requires.b_bound.1 in
    let last : l.p ≡ o + 1 = omega (arith, c.loop-p-test.false, l.invariant.0) in
    let after : LiveBefore w b (range l.p span.result.end) _ = l.invariant.3 b below span.ensures.1 (live_none stage below (omega (arith, c.live_after.auto, ap length c.requires.b_bound.2)) c.live_after.ensures) in
    let m : o < operations w = omega (arith, place, stage.well_formed.in_range.ops_range b below) in
    let e : range l.p span.result.end ≡ range (o + 1) (block_word w b 5) = rw (last, span.ensures.1) in
    around_here stage below after m _ c.live_around.ensures c.requires.b_bound.1 e (omega (arith, c.live_around.auto, l.invariant.2))
