-- `compute_intervals` meets its contract. The invariant: the blocks left are to be put.
use Rattle.sir_analyses.specs.inner.Stages.{exits_in}
use mathlib.Core.Path.{sym, ap, ◌∙◌}
use mathlib.Core.List.{[], ◌∷◌}
use Prim.Native.Nat.{◌<◌}
use native.Mathlib.Omega.{arith}
use lib.ListN.{length, get_or}
use Rattle.plank_core.specs.laws.Lists.{get_or_mem}
use Rattle.plank_core.specs.laws.Loops.{bind_bind, bind_drop_step, bind_drop_end}
use Rattle.sir_analyses.specs.Order.{blocks_rpo}
use Rattle.sir_analyses.specs.Liveness.{exit_set, block_intervals}
use Rattle.sir_analyses.proofs.claims.order.OrderLength.{rpo_below, blocks_most}
use Rattle.sir_analyses.proofs.answers.Writing.{putting_as, putting_more, putting_all, puts_as}
use Rattle.sir_analyses.proofs.local_liveness.SetAnswers.{interval_words_lem}
use Rattle.sir_analyses.proofs.local_intervals.compute_intervals.Invariants.{in_block}
use Rattle.sir_analyses.proofs.local_intervals.compute_intervals.Goals as goal

pub open_end-end-requires : goal.open_end-end-requires
open_end-end-requires c =
    let L = c.loop-id in
    let w = c.args.analysed.image.words.now in
    let order = c.rpo-order.result.now in
    let t = c.loop-id-test.true in
    let b = get_or order L.id-index 0 in
    let below = rpo_below w c.args.analysed.visit_stage.well_formed ((rw c.visited.ensures.1 at c.rpo-order.ensures) ∙ c.args.analysed.visit_stage.rpo_is) b (get_or_mem order L.id-index 0 t) in
    let v : c.args.v.0 < 512 = omega (arith, c.requires.v_bound, c.args.analysed.visit_stage.well_formed.sized.locals_most) in
    (omega (arith, below, c.args.analysed.visit_stage.well_formed.sized.blocks_most), v)

pub block_intervals-n-requires : goal.block_intervals-n-requires
block_intervals-n-requires c =
    let L = c.loop-id in
    let w = c.args.analysed.image.words.now in
    let order = c.rpo-order.result.now in
    let t = c.loop-id-test.true in
    let b = get_or order L.id-index 0 in
    let below = rpo_below w c.args.analysed.visit_stage.well_formed ((rw c.visited.ensures.1 at c.rpo-order.ensures) ∙ c.args.analysed.visit_stage.rpo_is) b (get_or_mem order L.id-index 0 t) in
    let v : c.args.v.0 < 512 = omega (arith, c.requires.v_bound, c.args.analysed.visit_stage.well_formed.sized.locals_most) in
    record { b_bound = (rw c.live_sets.ensures.0 below, v, omega (arith, L.invariant.0)) }

pub put_words-m-requires : goal.put_words-m-requires
put_words-m-requires c =
    let L = c.loop-id in
    let w = c.args.analysed.image.words.now in
    let i = c.block_intervals-n in
    let fits = rw c.live_sets.ensures.0 at i.ensures in
    let q = fits.1 _ c.open_end-end.ensures in
    omega (arith, ap length q.1, q.0, i.ensures.0, L.invariant.1, ap length ((rw c.visited.ensures.1 at c.rpo-order.ensures) ∙ c.args.analysed.visit_stage.rpo_is), blocks_most w c.args.analysed.visit_stage.well_formed, c.args.analysed.visit_stage.well_formed.sized.blocks_most)

pub loop-id-preserved : goal.loop-id-preserved
loop-id-preserved c =
    let L = c.loop-id in
    let w = c.args.analysed.image.words.now in
    let order = c.rpo-order.result.now in
    let t = c.loop-id-test.true in
    let b = get_or order L.id-index 0 in
    let below = rpo_below w c.args.analysed.visit_stage.well_formed ((rw c.visited.ensures.1 at c.rpo-order.ensures) ∙ c.args.analysed.visit_stage.rpo_is) b (get_or_mem order L.id-index 0 t) in
    let v : c.args.v.0 < 512 = omega (arith, c.requires.v_bound, c.args.analysed.visit_stage.well_formed.sized.locals_most) in
    let i = c.block_intervals-n in
    let fits = rw c.live_sets.ensures.0 at i.ensures in
    let q = fits.1 _ c.open_end-end.ensures in
    let e = q.1 ∙ interval_words_lem c.args.analysed.visit_stage.well_formed b below (exits_in c.args.analysed.live.now) c.args.analysed.liveness_stage.sets.exit_rows c.args.v.0 v c.args.analysed.liveness_stage.ends in
    let p = c.put_words-m.ensures in (
      omega (arith, i.auto, L.invariant.0),
      omega (arith, p.next, ap length q.1, q.0, i.ensures.0, L.invariant.1),
      putting_more (putting_as (bind_drop_step (in_block w c.args.v.0) order L.id-index t) L.invariant.2) (puts_as e p),
    )

pub returns : goal.returns
returns c =
    let L = c.loop-id in
    let w = c.args.analysed.image.words.now in (
      omega (arith, L.invariant.1, ap length ((rw c.visited.ensures.1 at c.rpo-order.ensures) ∙ c.args.analysed.visit_stage.rpo_is), blocks_most w c.args.analysed.visit_stage.well_formed, c.args.analysed.visit_stage.well_formed.sized.blocks_most),
      puts_as (sym (bind_bind (λ b. block_intervals w (exit_set w b) c.args.v.0 b) (λ i. i.block ∷ i.from ∷ i.to ∷ []) (blocks_rpo w)))
          (putting_all (bind_drop_end (in_block w c.args.v.0) c.rpo-order.result.now L.id-index c.loop-id-test.false) L.invariant.2),
    )
