-- `range_sets` meets its contract. The invariant: the sets are those of the operations from o on.
use mathlib.Core.Path.{ap, ◌∙◌}
use Prim.Native.Nat.{◌-◌, ◌<◌}
use lib.ListN.{length}
use Rattle.plank_core.specs.laws.Loops.{range_before, range_none}
use Rattle.plank_core.specs.laws.DenseIndexSet.{length_row}
use Rattle.sir_data.specs.Records.{operations}
use Rattle.sir_analyses.specs.inner.Stages.{reads_in, writes_in}
use Rattle.sir_analyses.proofs.stages.Parts.{length_part}
use Rattle.sir_analyses.proofs.block_sets.BlockSets.{range_sets_start, range_sets_more}
use native.Mathlib.Omega.{arith}
use Rattle.sir_analyses.proofs.block_sets.range_sets.Goals as goal

pub loop-o-init : goal.loop-o-init
loop-o-init c =
    let e = c.operations-span.result.end in (
      omega (arith, c.args.b.image.well_formed.in_range.ops_range c.args.b.id.0 c.args.b.known, c.operations-span.ensures),
      omega arith,
      range_sets_start (range_none e e (omega arith)) (rw c.requires.sets_len at (c.fill.ensures.after (λ y p. p))),
    )

pub row_difference_with-requires : goal.row_difference_with-requires
row_difference_with-requires c =
    (omega (arith, c.loop-o.invariant.2.long), ap length c.row_of.ensures ∙ length_row c.writes.result.now (c.loop-o.o - 1) (omega (arith, ap length c.writes.ensures ∙ length_part 8192 8192 c.args.live.now (omega (arith, c.told-live)), c.args.b.image.well_formed.sized.operations_most, c.args.b.image.well_formed.in_range.ops_range c.args.b.id.0 c.args.b.known, c.operations-span.ensures, c.loop-o.invariant.0, c.loop-o.invariant.1, c.loop-o-test.true)))

pub row_union_with-requires : goal.row_union_with-requires
row_union_with-requires c =
    (omega (arith, c.row_difference_with.auto, c.loop-o.invariant.2.long), ap length c.row_of-in-loop-o.ensures ∙ length_row c.reads.result.now (c.loop-o.o - 1) (omega (arith, ap length c.reads.ensures ∙ length_part 0 8192 c.args.live.now (omega (arith, c.told-live)), c.args.b.image.well_formed.sized.operations_most, c.args.b.image.well_formed.in_range.ops_range c.args.b.id.0 c.args.b.known, c.operations-span.ensures, c.loop-o.invariant.0, c.loop-o.invariant.1, c.loop-o-test.true)))

pub row_union_with-requires-in-loop-o : goal.row_union_with-requires-in-loop-o
row_union_with-requires-in-loop-o c =
    (omega (arith, c.row_union_with.auto, c.row_difference_with.auto, c.loop-o.invariant.2.long), ap length c.row_of-in-loop-o-2.ensures ∙ length_row c.writes-in-loop-o.result.now (c.loop-o.o - 1) (omega (arith, ap length c.writes-in-loop-o.ensures ∙ length_part 8192 8192 c.args.live.now (omega (arith, c.told-live)), c.args.b.image.well_formed.sized.operations_most, c.args.b.image.well_formed.in_range.ops_range c.args.b.id.0 c.args.b.known, c.operations-span.ensures, c.loop-o.invariant.0, c.loop-o.invariant.1, c.loop-o-test.true)))

pub loop-o-preserved : goal.loop-o-preserved
loop-o-preserved c =
    let l = c.loop-o in
    let h : l.o - 1 < operations c.args.b.image.words.now = omega (arith, c.args.b.image.well_formed.in_range.ops_range c.args.b.id.0 c.args.b.known, c.operations-span.ensures, c.loop-o.invariant.0, c.loop-o.invariant.1, c.loop-o-test.true) in (
      omega arith,
      omega arith,
      rw (range_before l.o c.operations-span.result.end (omega arith) (omega arith), c.row_union_with-in-loop-o.ensures.1, c.row_of-in-loop-o-2.ensures, c.writes-in-loop-o.ensures, c.row_union_with.ensures.1, c.row_of-in-loop-o.ensures, c.reads.ensures, c.row_difference_with.ensures, c.row_of.ensures, c.writes.ensures)
          (range_sets_more (reads_in c.args.live.now) (writes_in c.args.live.now) (l.o - 1) c.requires.operand_rows h l.invariant.2),
    )
