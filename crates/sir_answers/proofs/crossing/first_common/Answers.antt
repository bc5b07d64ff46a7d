-- `first_common` meets its contract. The invariant: whatever block the scan started in, the operations from o on are passed.
use mathlib.Core.Path.{◌≡◌, ap, ap₂, ◌∙◌}
use mathlib.Core.Bool.{cond}
use Rattle.std.proofs.Common.{◌<◌, Some}
use Rattle.std.specs.Prelude.{IfSome}
use Prim.Native.Nat.{◌+◌, ◌-◌}
use native.Mathlib.Omega.{arith}
use lib.ListN.{length}
use Rattle.plank_core.specs.Lists.{range}
use Rattle.plank_core.specs.laws.Loops.{range_before, range_none}
use Rattle.sir_data.specs.Records.{block_word, ops}
use Rattle.sir_analyses.proofs.claims.order.OrderProof.{blocks_seen}
use Rattle.sir_answers.proofs.LiveSets.{ScanStart, live_none}
use Rattle.sir_answers.proofs.crossing.FirstCommon.{raw, CommonScan, scan_none, scan_more}
use Rattle.sir_answers.proofs.crossing.first_common.Goals as goal
use Rattle.sir_answers.proofs.crossing.first_common.Goals.{then-both_meet, else-both_meet}

pub loop-o-init : goal.loop-o-init
loop-o-init c =
    let span = c.operations-span in (
      omega (arith, span.ensures, c.args.analysed.liveness_stage.well_formed.in_range.ops_range c.args.b.0 c.requires.b_bound.0),
      omega arith,
      omega (arith, c.live_after.auto),
      λ b s. scan_none c.args.analysed.liveness_stage s (range_none span.result.end span.result.end (omega arith)),
      tt,
    )

pub loop-o-preserved : goal.loop-o-preserved
loop-o-preserved c =
    let l = c.loop-o in
    let span = c.operations-span in
    let f = c.live_around in
    let g = c.live_before in
    let test = c.loop-o-test.true in
    let next : l.o - 1 + 1 ≡ l.o = omega (arith, test) in
    let long : length f.new.set ≡ 8 = omega (arith, f.auto, l.invariant.2) in
    let few : l.o - 1 < 1024 = omega (arith, test, l.invariant.1, span.ensures, c.args.analysed.liveness_stage.well_formed.in_range.ops_range c.args.b.0 c.requires.b_bound.0, c.args.analysed.liveness_stage.well_formed.sized.operations_most) in
    let step : (raw c.if-both_meet.found ≡ cond c.both_meet.result (Some (l.o - 1)) (raw l.found)) × IfSome c.if-both_meet.found (λ o. o.0 < 1024) =
    elim c.if-both_meet.branch [
      | then-both_meet w ↦ (ap raw w.found-is ∙ rw w.if-both_meet.true, rw w.found-is few)
      | else-both_meet w ↦ (ap raw w.found-is ∙ rw w.if-both_meet.false, rw w.found-is l.invariant.4)
    ] in (
      omega (arith, test),
      omega (arith, l.invariant.1),
      omega (arith, g.auto, f.auto, l.invariant.2),
      λ b s.
          let k : CommonScan c.args.analysed.image.words.now c.args.one.now c.args.other.now b (range (l.o - 1 + 1) span.result.end) l.set l.found = rw next (l.invariant.3 b s) in
          rw (range_before l.o span.result.end (omega arith) (omega (arith, l.invariant.1)))
          (rw next at (scan_more c.args.analysed.liveness_stage s k (omega (arith, test, l.invariant.0)) (omega (arith, test, l.invariant.1)) f.new.set f.ensures long c.both_meet.ensures step.0 g.ensures (omega (arith, g.auto, f.auto, l.invariant.2)))),
      step.1,
    )

pub returns-clause-few : goal.returns-clause-few
returns-clause-few c = c.loop-o.invariant.4

pub returns-clause-first_is : goal.returns-clause-first_is
returns-clause-first_is c =
    let w = c.args.analysed.image.words.now in
    let b = c.args.b.0 in
    let l = c.loop-o in
    let span = c.operations-span in
    let s : ScanStart w span.result.start span.result.end c.live_after.new.set b = record {
      below = c.requires.b_bound.0;
      visited = (blocks_seen w b).1 c.requires.b_bound.1;
      start_is = span.ensures.0;
      end_is = span.ensures.1;
      live = live_none c.args.analysed.liveness_stage c.requires.b_bound.0 (omega (arith, c.live_after.auto)) c.live_after.ensures;
    } in
    let first : l.o ≡ block_word w b 4 = omega (arith, span.ensures, l.invariant.0, c.loop-o-test.false) in
    let os : range l.o span.result.end ≡ ops w b = ap₂ range first span.ensures.1 in
    λ d e x y. rw os at ((l.invariant.3 b s).first_is d e x y)
