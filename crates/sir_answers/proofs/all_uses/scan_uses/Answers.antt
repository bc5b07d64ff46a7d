-- `scan_uses` meets its contract. The invariant: the pieces of the blocks left are to be put.
use mathlib.Core.Path.{sym, ap, ◌∙◌}
use mathlib.Core.List.{List}
use Prim.Native.Nat.{ℕ, ◌+◌}
use lib.ListN.{get_or, drop}
use Rattle.plank_core.specs.Lists.{bind}
use Rattle.plank_core.specs.laws.Lists.{get_or_mem}
use Rattle.plank_core.specs.laws.Loops.{bind_drop_step, bind_drop_end}
use Rattle.sir_answers.specs.inner.Pieces.{block_use_pieces}
use Rattle.sir_answers.proofs.scatter.Scattering.{scattering_none, scattering_as, scattering_fits, scattering_more, scattering_all, scatters_as, fits_as}
use Rattle.sir_analyses.proofs.claims.order.OrderLength.{rpo_below}
use Rattle.sir_answers.proofs.all_uses.scan_uses.Goals as goal

pub loop-b-init : goal.loop-b-init
loop-b-init c =
    scattering_none (fits_as (ap (λ (l : List ℕ). bind l (block_use_pieces c.args.visited.image.words.now)) (sym (c.rpo-order.ensures ∙ c.args.visited.visit_stage.rpo_is))) c.requires.fits)

pub invariant_of-block : goal.invariant_of-block
invariant_of-block c =
    let w = c.args.visited.image.words.now in
    let good = c.args.visited.visit_stage.well_formed in
    let order = c.rpo-order.result.now in
    let i = c.loop-b.b-index in
    let b = get_or order i 0 in
    let h = c.loop-b-test.true in
    record { known = rpo_below w good (c.rpo-order.ensures ∙ c.args.visited.visit_stage.rpo_is) b (get_or_mem order i 0 h) }

pub scan_block-requires : goal.scan_block-requires
scan_block-requires c =
    let w = c.args.visited.image.words.now in
    let good = c.args.visited.visit_stage.well_formed in
    let order = c.rpo-order.result.now in
    let i = c.loop-b.b-index in
    let b = get_or order i 0 in
    let h = c.loop-b-test.true in
    record { cursors_len = c.loop-b.invariant.wide ∙ c.requires.cursors_len; fits = scattering_fits (block_use_pieces w b) (bind (drop (i + 1) order) (block_use_pieces w)) (scattering_as (bind_drop_step (block_use_pieces w) order i h) c.loop-b.invariant) }

pub loop-b-preserved : goal.loop-b-preserved
loop-b-preserved c =
    let w = c.args.visited.image.words.now in
    let order = c.rpo-order.result.now in
    let i = c.loop-b.b-index in
    scattering_more (bind (drop (i + 1) order) (block_use_pieces w)) (scattering_as (bind_drop_step (block_use_pieces w) order i c.loop-b-test.true) c.loop-b.invariant) c.scan_block.ensures

pub returns : goal.returns
returns c =
    let g = block_use_pieces c.args.visited.image.words.now in
    scatters_as (ap (λ (l : List ℕ). bind l g) (c.rpo-order.ensures ∙ c.args.visited.visit_stage.rpo_is)) (scattering_all (bind_drop_end g c.rpo-order.result.now c.loop-b.b-index c.loop-b-test.false) c.loop-b.invariant)
