-- `populate_intervals_from_local_liveness` meets its contract. The invariant: the blocks from b on are to be put.
use mathlib.Core.Path.{◌≡◌, refl, sym, ◌∙◌}
use Prim.Native.Nat.{◌+◌, ◌<◌}
use native.Mathlib.Omega.{arith}
use lib.ListN.{length}
use Rattle.sir_data.specs.Records.{blocks}
use Rattle.sir_analyses.specs.Order.{is_visited}
use Rattle.sir_analyses.proofs.merged_intervals.MergedIntervals.{Populating, populating_none, populating_more, populating_on, populating_all}
use Rattle.sir_analyses.proofs.merged_intervals.populate_intervals_from_local_liveness.Goals as goal
use Rattle.sir_analyses.proofs.merged_intervals.populate_intervals_from_local_liveness.Goals.{else-is_visited, then-is_visited}

pub loop-b-init : goal.loop-b-init
loop-b-init c = (refl, populating_none)

pub loop-b-preserved : goal.loop-b-preserved
loop-b-preserved c =
    let w = c.args.analysed.image.words.now in
    let L = c.loop-b in
    let h : L.b < blocks w = omega (arith, c.loop-b-test.true, c.block_count-count.ensures) in
    let seen : c.is_visited.result ≡ is_visited w L.b = (rw c.visited.ensures.1 at c.is_visited.ensures) ∙ c.args.analysed.visit_stage.visited_is L.b h in
    let g : (length c.if-is_visited.run ≡ 3075) × Populating w c.args.reach.now c.args.n c.args.out.now (L.b + 1) c.if-is_visited.out c.if-is_visited.m =
    elim c.if-is_visited.branch [
      | then-is_visited x ↦
          let run = x.merge_intervals-from.new.run in
          let k : length run ≡ 3075 = omega (arith, x.merge_intervals-from.auto, L.invariant.0) in
          rw (x.out-is, x.run-is, x.m-is) (k, populating_more L.invariant.1 h (sym seen ∙ x.if-is_visited.true) run x.merge_intervals-from.result k x.merge_intervals-from.ensures.1 x.put_words-m.ensures)
      | else-is_visited x ↦ rw (x.out-is, x.run-is, x.m-is) (L.invariant.0, populating_on L.invariant.1 h (sym seen ∙ x.if-is_visited.false))
    ] in
    (g.0, g.1)

pub returns : goal.returns
returns c =
    let L = c.loop-b in
    let count = c.block_count-count.ensures in
    (omega (arith, L.invariant.1.few, count, c.args.analysed.visit_stage.well_formed.sized.blocks_most), populating_all L.invariant.1 (omega (arith, c.loop-b-test.false, count)))
