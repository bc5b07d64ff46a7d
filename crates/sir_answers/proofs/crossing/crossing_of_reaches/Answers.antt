-- `crossing_of_reaches` meets its contract. The invariant: the blocks from b on decide.
use mathlib.Core.Path.{◌≡◌, sym, ◌∙◌}
use Prim.Native.Nat.{◌<◌}
use native.Mathlib.Omega.{arith}
use Rattle.sir_data.specs.Records.{blocks, ops}
use Rattle.sir_analyses.specs.Order.{is_visited}
use Rattle.sir_analyses.specs.Allocation.{merged}
use Rattle.sir_analyses.specs.Open.{is_common}
use Rattle.sir_answers.proofs.crossing.FirstCommon.{none_passes, crossing_starts, crossing_ends, crossing_on, crossing_found, unvisited_apart}
use Rattle.sir_answers.proofs.crossing.crossing_of_reaches.Goals as goal
use Rattle.sir_answers.proofs.crossing.crossing_of_reaches.Goals.{then-is_visited+in_default, else-is_visited}

pub loop-b-init : goal.loop-b-init
loop-b-init c =
    λ a d x y. crossing_starts c.args.analysed.image.words.now a d x.unmarked y.unmarked

pub loop-b-preserved : goal.loop-b-preserved
loop-b-preserved c =
    let w = c.args.analysed.image.words.now in
    let b = c.loop-b.b in
    let h : b < blocks w = omega (arith, c.loop-b-test.true, c.block_count-count.ensures) in
    let seen : c.is_visited.result ≡ is_visited w b = (rw c.visited.ensures.1 at c.is_visited.ensures) ∙ c.args.analysed.visit_stage.visited_is b h in
    λ a d x y.
    c.loop-b.invariant a d x y
    ∙ crossing_on w a d b h
    (elim c.if-is_visited.branch [
      | then-is_visited+in_default p ↦ none_passes (is_common (merged w a) (merged w d)) b (ops w b) (sym (p.in_default.ensures.first_is a d x y))
      | else-is_visited p ↦ unvisited_apart w a d b h x.unmarked (sym seen ∙ p.if-is_visited.false)
    ])

pub returns-in-Some : goal.returns-in-Some
returns-in-Some c =
    let w = c.args.analysed.image.words.now in
    let b = c.loop-b.b in
    let h : b < blocks w = omega (arith, c.loop-b-test.true, c.block_count-count.ensures) in
    λ a d x y. crossing_found w a d b h (c.in-Some.ensures.first_is a d x y) ∙ sym (c.loop-b.invariant a d x y)

pub returns : goal.returns
returns c =
    let w = c.args.analysed.image.words.now in
    λ a d x y. sym (c.loop-b.invariant a d x y ∙ crossing_ends w a d c.loop-b.b (omega (arith, c.loop-b-test.false, c.block_count-count.ensures)))
