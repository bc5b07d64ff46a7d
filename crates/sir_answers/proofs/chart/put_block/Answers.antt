-- `put_block` meets its contract. The invariant: whatever block the scan started in, the lines of the operations from o on stand from `end` on.
use mathlib.Core.Path.{ap₂, subst, ◌≡◌, refl, sym, ◌∙◌}
use mathlib.Core.List.{List, [], ◌∷◌, ◌++◌}
use Prim.Native.Nat.{ℕ, ◌+◌, ◌-◌}
use native.Mathlib.Omega.{arith}
use lib.ListN.{drop, length, take}
use lib.Seq.{length_front, take_at, length-take-le}
use borrow.Rule.Slice.PartMut.{same_len_mid}
use Rattle.plank_core.specs.laws.Loops.{length_count, range_none, range_before}
use Rattle.plank_core.specs.Lists.{range}
use Rattle.sir_data.specs.Records.{block_word, ops}
use Rattle.sir_analyses.specs.Chart.{heading}
use Rattle.sir_analyses.proofs.claims.order.OrderProof.{blocks_below}
use Rattle.sir_answers.proofs.chart.BlockLines.{LinesScan, lines_none, lines_more}
use Rattle.sir_answers.proofs.LiveSets.{live_none}
use Rattle.sir_answers.specs.inner.Columns.{Columns}
use Rattle.sir_answers.proofs.chart.put_block.Goals as goal

pub slice_bounds-put_heading-end-2 : goal.slice_bounds-put_heading-end-2
slice_bounds-put_heading-end-2 c =
    sym (length-take-le 73 c.args.out.now (omega (arith, c.requires.fact.1)))

pub put_heading-requires : goal.put_heading-requires
put_heading-requires c =
    let stage = c.args.sets.liveness_stage in
    (omega (arith, blocks_below c.args.sets.image.words.now stage.well_formed c.args.b.0 c.requires.fact.0, stage.well_formed.sized.blocks_most), length-take-le 73 c.args.out.now (omega (arith, c.requires.fact.1)))

pub live_after-requires : goal.live_after-requires
live_after-requires c =
    let stage = c.args.sets.liveness_stage in
    (omega (arith, blocks_below c.args.sets.image.words.now stage.well_formed c.args.b.0 c.requires.fact.0, stage.well_formed.sized.blocks_most), refl)

pub operations-span-requires : goal.operations-span-requires
operations-span-requires c =
    blocks_below c.args.sets.image.words.now c.args.sets.liveness_stage.well_formed c.args.b.0 c.requires.fact.0

pub loop-o-init : goal.loop-o-init
loop-o-init c =
    let w = c.args.sets.image.words.now in
    let b = c.args.b.0 in
    let good = c.args.sets.liveness_stage.well_formed in
    let below = blocks_below w good b c.requires.fact.0 in
    let span = c.operations-span.ensures in
    let long = length_front c.args.out.now c.put_heading.new.line 73 (omega (arith, c.put_heading.auto)) ∙ c.requires.fact.1 in (
      omega (arith, span, good.in_range.ops_range b below),
      omega arith,
      omega (arith, c.live_after.auto),
      long ∙ omega (arith, span, length_count (block_word w b 4) (block_word w b 5 - block_word w b 4)),
      refl,
      omega arith,
      c.closed_columns.ensures,
      λ d s. lines_none (range_none c.operations-span.result.end c.operations-span.result.end (omega arith)) refl s.live,
    )

pub live_around-requires : goal.live_around-requires
live_around-requires c =
    let good = c.args.sets.liveness_stage.well_formed in
    let below = blocks_below c.args.sets.image.words.now good c.args.b.0 c.requires.fact.0 in
    (omega (arith, c.loop-o.invariant.1, c.operations-span.ensures, good.in_range.ops_range c.args.b.0 below, good.sized.operations_most), c.loop-o.invariant.2)

pub put_op_line-requires : goal.put_op_line-requires
put_op_line-requires c =
    let good = c.args.sets.liveness_stage.well_formed in
    let below = blocks_below c.args.sets.image.words.now good c.args.b.0 c.requires.fact.0 in
    let l = c.loop-o in
    record { o_bound = (omega (arith, c.loop-o-test.true, l.invariant.1, c.operations-span.ensures, good.in_range.ops_range c.args.b.0 below), c.update_columns-shown.ensures.columns.long, omega (arith, l.invariant.3, l.invariant.4, l.invariant.5)) }

pub live_before-requires : goal.live_before-requires
live_before-requires c =
    let good = c.args.sets.liveness_stage.well_formed in
    let below = blocks_below c.args.sets.image.words.now good c.args.b.0 c.requires.fact.0 in
    (omega (arith, c.loop-o.invariant.1, c.operations-span.ensures, good.in_range.ops_range c.args.b.0 below, good.sized.operations_most), omega (arith, c.live_around.auto, c.loop-o.invariant.2))

pub loop-o-preserved : goal.loop-o-preserved
loop-o-preserved c =
    let a = c.args in
    let l = c.loop-o in
    let last = c.operations-span.result.end in
    let around = c.live_around.new.set in
    let update = c.update_columns-shown.ensures in
    let test = c.loop-o-test.true in
    let next : l.o - 1 + 1 ≡ l.o = omega (arith, test) in
    let long : length around ≡ 8 = omega (arith, c.live_around.auto, l.invariant.2) in
    let rest : length c.live_before.new.set ≡ 8 = omega (arith, c.live_before.auto, long) in (
      omega (arith, test),
      omega (arith, l.invariant.1),
      rest,
      omega (arith, l.invariant.3, l.invariant.0, test),
      same_len_mid (l.end - 73) (l.end - (l.end - 73)) l.out c.put_op_line.new.line (omega (arith, c.put_op_line.auto)) ∙ l.invariant.4,
      omega (arith, l.invariant.5),
      subst (λ (ws : List ℕ). Columns a.pointers.now a.series ws c.update_columns-shown.new.columns) (sym update.words_value) update.columns,
      λ b s.
          let k : LinesScan a.sets.image.words.now a.series b l.end (range (l.o - 1 + 1) last) l.set (c.put_heading.new.line ++ drop 73 a.out.now) l.out = rw next (l.invariant.7 b s) in
          rw (range_before l.o last (omega arith) (omega (arith, l.invariant.1)))
          (rw next at (lines_more c.args.sets.liveness_stage c.requires.pointer_stage c.requires.series_bound.1 s k (omega (arith, test)) (omega (arith, test, l.invariant.1)) around c.of_series.result.words c.live_around.ensures long c.of_series.ensures update.columns c.put_op_line.ensures c.live_before.ensures rest (omega (arith, l.invariant.3)) l.invariant.5)),
    )

pub returns : goal.returns
returns c =
    let w = c.args.sets.image.words.now in
    let b = c.args.b.0 in
    let series = c.args.series in
    let l = c.loop-o in
    let span = c.operations-span in
    let front = c.put_heading.new.line in
    let first : l.o ≡ block_word w b 4 = omega (arith, span.ensures, l.invariant.0, c.loop-o-test.false) in
    let end : l.end ≡ 73 = omega (arith, l.invariant.3, l.invariant.0, c.loop-o-test.false) in
    let os : range l.o span.result.end ≡ ops w b = ap₂ range first span.ensures.1 in
    let scan = l.invariant.7 b record {
      below = blocks_below w c.args.sets.liveness_stage.well_formed b c.requires.fact.0;
      visited = c.requires.fact.0;
      start_is = span.ensures.0;
      end_is = span.ensures.1;
      live = live_none c.args.sets.liveness_stage (blocks_below w c.args.sets.liveness_stage.well_formed b c.requires.fact.0) (omega (arith, c.live_after.auto)) c.live_after.ensures;
    } in
    let named : take 73 (front ++ drop 73 c.args.out.now) ≡ heading b ++ (10 ∷ []) = take_at front (drop 73 c.args.out.now) 73 (omega (arith, c.put_heading.auto, length-take-le 73 c.args.out.now (omega (arith, c.requires.fact.1)))) ∙ c.put_heading.ensures in
    scan.lines_are ∙ rw (end, os, named)
