-- `series_lines` meets its contract. The invariant: the lines of the blocks before this one are counted.
use mathlib.Core.List.{List}
use mathlib.Core.Path.{subst, ◌≡◌, refl, ap, ◌∙◌}
use Prim.Native.Nat.{ℕ}
use native.Mathlib.Omega.{arith}
use lib.ListN.{get_or, take}
use lib.Seq.{take_all}
use Rattle.plank_core.specs.Lists.{◌∈◌}
use Rattle.plank_core.specs.laws.Lists.{get_or_mem}
use Rattle.sir_analyses.specs.Order.{blocks_rpo}
use Rattle.sir_analyses.proofs.claims.order.OrderProof.{blocks_below}
use Rattle.sir_analyses.specs.Chart.{lines_of}
use Rattle.sir_answers.proofs.chart.ChartTexts.{order_most, lines_next}
use Rattle.sir_answers.proofs.chart.series_lines.Goals as goal

pub loop-b-init : goal.loop-b-init
loop-b-init c = (refl, omega arith)

pub invariant_of-block : goal.invariant_of-block
invariant_of-block c =
    let stage = c.args.visited.visit_stage in
    let order = c.rpo-order.result.now in
    let i = c.loop-b.b-index in
    let m = get_or_mem order i 0 c.loop-b-test.true in
    record { known = blocks_below c.args.visited.image.words.now stage.well_formed (get_or order i 0) (subst (λ (bs : List ℕ). get_or order i 0 ∈ bs) (c.rpo-order.ensures ∙ stage.rpo_is) m) }

pub overflow_add-n : goal.overflow_add-n
overflow_add-n c =
    omega (arith, c.loop-b.invariant.1, c.loop-b-test.true, order_most c.args.visited.visit_stage c.rpo-order.ensures, c.block_lines-n.ensures.1)

pub loop-b-preserved : goal.loop-b-preserved
loop-b-preserved c =
    let l = c.loop-b in
    let h = c.loop-b-test.true in
    (omega (arith, l.invariant.0, c.block_lines-n.ensures.0, lines_next c.args.visited.image.words.now c.rpo-order.result.now l.b-index h), omega (arith, l.invariant.1, c.block_lines-n.ensures.1))

pub returns : goal.returns
returns c =
    let w = c.args.visited.image.words.now in
    let l = c.loop-b in
    let all : take l.b-index c.rpo-order.result.now ≡ blocks_rpo w = take_all l.b-index c.rpo-order.result.now c.loop-b-test.false ∙ c.rpo-order.ensures ∙ c.args.visited.visit_stage.rpo_is in
    (l.invariant.0 ∙ ap (lines_of w) all, omega (arith, l.invariant.1, order_most c.args.visited.visit_stage c.rpo-order.ensures))
