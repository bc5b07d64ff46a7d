-- `block_intervals` meets its contract. The invariant: the operations from o on are done, and their intervals written.
use Rattle.sir_analyses.specs.inner.Stages.{reads_in, writes_in}
use mathlib.Core.Path.{◌≡◌, ap₂}
use Prim.Native.Nat.{◌+◌, ◌-◌, ◌<◌}
use Rattle.plank_core.specs.Lists.{range}
use Rattle.plank_core.specs.laws.Loops.{range_before}
use Rattle.sir_data.specs.Records.{operations, block_word, ops}
use Rattle.sir_analyses.proofs.local_intervals.Scanning.{scanning_more, scanning_ends, ending_few}
use native.Mathlib.Omega.{arith}
use Rattle.sir_analyses.proofs.local_intervals.block_intervals.Goals as goal

pub loop-o-preserved : goal.loop-o-preserved
loop-o-preserved c =
    let l = c.loop-o in
    let span = c.operations-span in
    let f = c.scan_op-s in
    let p = c.put_interval-n in
    let h : l.o - 1 < operations c.args.sets.image.words.now = omega (arith, c.args.sets.liveness_stage.well_formed.in_range.ops_range c.args.b.0 c.requires.b_bound.0, span.ensures) in
    let e : l.o - 1 + 1 ≡ l.o = omega arith in (
      omega arith,
      omega (arith, p.auto, l.invariant.1),
      omega (arith, p.ensures.0, ending_few c.args.b.0 (l.o - 1 + 1) f.result.closed),
      λ e k. rw (range_before l.o span.result.end (omega arith) (omega arith))
          (scanning_more (l.invariant.3 e k) (reads_in c.args.sets.live.now) (writes_in c.args.sets.live.now) (l.o - 1) c.args.sets.liveness_stage.operands h c.requires.b_bound.1 p.new.out f.ensures.till_value f.ensures.closed_value p.ensures.0 p.ensures.1),
    )

pub returns : goal.returns
returns c =
    let w = c.args.sets.image.words.now in
    let b = c.args.b.0 in
    let l = c.loop-o in
    let span = c.operations-span in
    let first : l.o ≡ block_word w b 4 = omega (arith, span.ensures) in
    let os : range l.o span.result.end ≡ ops w b = ap₂ range first span.ensures.1 in
    let p = c.put_interval in
    (omega (arith, p.ensures.0, ending_few b 0 l.till, c.args.sets.liveness_stage.well_formed.sized.operations_most, c.args.sets.liveness_stage.well_formed.in_range.ops_range b c.requires.b_bound.0, span.ensures), λ e k. scanning_ends (l.invariant.3 e k) os p.new.out p.ensures.0 p.ensures.1)
