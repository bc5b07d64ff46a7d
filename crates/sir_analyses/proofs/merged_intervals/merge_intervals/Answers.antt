-- `merge_intervals` meets its contract. The invariant: the operations from o on are done, and their intervals written.
use Rattle.sir_analyses.specs.inner.Stages.{reads_in, writes_in, ends_in, exits_in}
use mathlib.Core.Path.{◌≡◌}
use Prim.Native.Nat.{◌+◌, ◌-◌, ◌<◌}
use lib.ListN.{length}
use Rattle.plank_core.specs.laws.Loops.{range_before, range_none}
use Rattle.sir_data.specs.Records.{operations}
use Rattle.sir_analyses.specs.Answers.{interval_words}
use Rattle.sir_analyses.specs.inner.Scanning.{ending}
use Rattle.sir_analyses.proofs.local_intervals.Scanning.{ending_few}
use Rattle.sir_analyses.proofs.merged_intervals.MergedIntervals.{sweeping_starts, sweeping_more}
use native.Mathlib.Omega.{arith}
use Rattle.sir_analyses.proofs.merged_intervals.merge_intervals.Goals as goal

pub loop-o-init : goal.loop-o-init
loop-o-init c =
    let span = c.operations-span in (
      omega (arith, c.args.analysed.liveness_stage.well_formed.sized.operations_most, c.args.analysed.liveness_stage.well_formed.in_range.ops_range c.args.b.0 c.requires.b_bound.0, c.operations-span.ensures),
      c.requires.b_bound.2,
      omega (arith, c.live_after.auto),
      omega (arith, c.args.analysed.liveness_stage.well_formed.sized.operations_most, c.args.analysed.liveness_stage.well_formed.in_range.ops_range c.args.b.0 c.requires.b_bound.0, c.operations-span.ensures),
      omega arith,
      sweeping_starts c.args.reach.now c.args.analysed.liveness_stage.well_formed c.args.b.0 c.requires.b_bound.0 (exits_in c.args.analysed.live.now) (ends_in c.args.analysed.live.now) c.args.analysed.liveness_stage.sets.exit_rows c.args.analysed.liveness_stage.ends
          c.live_after.ensures c.end_after-till.ensures (omega (arith, c.requires.b_bound.2)) (range_none span.result.end span.result.end (omega arith)),
    )

pub loop-o-preserved : goal.loop-o-preserved
loop-o-preserved c =
    let l = c.loop-o in
    let span = c.operations-span in
    let g = c.live_before in
    let f = c.pass_op-p in
    let p = c.put_interval_before-n in
    let meeting = c.intersects.ensures in
    let test = c.loop-o-test.true in
    let h : l.o - 1 < operations c.args.analysed.image.words.now = omega (arith, test, l.invariant.0, c.args.analysed.liveness_stage.well_formed.in_range.ops_range c.args.b.0 c.requires.b_bound.0, span.ensures) in
    let few = ending_few c.args.b.0 (l.o - 1 + 1) f.result.closed in
    let e : p.result + length (interval_words (ending c.args.b.0 (l.o - 1 + 1) f.result.closed)) ≡ l.n = p.ensures.0 in (
      omega arith,
      omega (arith, p.auto, l.invariant.1),
      omega (arith, g.auto, l.invariant.2),
      omega (arith, l.invariant.3),
      omega (arith, l.invariant.4),
      rw (range_before l.o span.result.end (omega arith) (omega arith))
          (sweeping_more c.args.reach.now c.args.analysed.liveness_stage.well_formed c.args.b.0 c.requires.b_bound.0 l.invariant.5 (reads_in c.args.analysed.live.now) (writes_in c.args.analysed.live.now) (l.o - 1) c.args.analysed.liveness_stage.operands h g.new.set p.new.run g.ensures
          meeting f.ensures.till_value f.ensures.closed_value p.ensures.1),
    )
