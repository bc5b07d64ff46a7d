-- `scan_intervals` meets its contract. The invariant: the pieces of the blocks left are to be put.
use mathlib.Core.Path.{sym, ap, ◌∙◌}
use mathlib.Core.List.{List}
use Prim.Native.Nat.{ℕ, ◌+◌}
use lib.ListN.{get_or, drop}
use Rattle.plank_core.specs.Lists.{bind}
use Rattle.plank_core.specs.laws.Lists.{get_or_mem}
use Rattle.plank_core.specs.laws.Loops.{bind_drop_step, bind_drop_end}
use Rattle.sir_answers.specs.inner.IntervalPieces.{block_pieces}
use Rattle.sir_analyses.proofs.claims.order.OrderLength.{rpo_below}
use Rattle.sir_answers.proofs.scatter.Scattering.{scattering_none, scattering_as, scattering_fits, scattering_more, scattering_all}
use Rattle.sir_answers.proofs.all_intervals.scan_intervals.Goals as goal

pub loop-b-init : goal.loop-b-init
loop-b-init c =
    let e = (rw c.visited.ensures.1 at c.rpo-order.ensures) ∙ c.args.analysed.visit_stage.rpo_is in
    scattering_as (ap (λ (l : List ℕ). bind l (block_pieces c.args.analysed.image.words.now)) (sym e)) (scattering_none c.requires.cursors_len.1)

pub scan_block-requires : goal.scan_block-requires
scan_block-requires c =
    let a = c.args in
    let w = a.analysed.image.words.now in
    let L = c.loop-b in
    let order = c.rpo-order.result.now in
    let b = get_or order L.b-index 0 in
    let h = c.loop-b-test.true in
    let in_order = (rw c.visited.ensures.1 at c.rpo-order.ensures) ∙ c.args.analysed.visit_stage.rpo_is in
    let k = scattering_as (bind_drop_step (block_pieces w) order L.b-index h) L.invariant in
    record { b_bound = rpo_below w c.args.analysed.visit_stage.well_formed in_order b (get_or_mem order L.b-index 0 h); cursors_len = (L.invariant.wide ∙ c.requires.cursors_len.0, scattering_fits (block_pieces w b) (bind (drop (L.b-index + 1) order) (block_pieces w)) k) }

pub loop-b-preserved : goal.loop-b-preserved
loop-b-preserved c =
    let a = c.args in
    let w = a.analysed.image.words.now in
    let L = c.loop-b in
    let order = c.rpo-order.result.now in
    let h = c.loop-b-test.true in
    let k = scattering_as (bind_drop_step (block_pieces w) order L.b-index h) L.invariant in
    scattering_more (bind (drop (L.b-index + 1) order) (block_pieces w)) k c.scan_block.ensures

pub returns : goal.returns
returns c =
    scattering_all (bind_drop_end (block_pieces c.args.analysed.image.words.now) c.rpo-order.result.now c.loop-b.b-index c.loop-b-test.false) c.loop-b.invariant
