-- `order_answer` meets its contract.
use mathlib.Core.Path.{ap, ◌∙◌}
use mathlib.Core.List.{List}
use Prim.Native.Nat.{ℕ}
use Rattle.plank_core.specs.Lists.{bind}
use Rattle.sir_data.specs.Pages.{bytes_of}
use Rattle.sir_analyses.specs.Calls.{answered}
use Rattle.sir_answers.specs.declared.questions.Question.{Question}
use Rattle.sir_answers.proofs.questions.Asked.{answered_as}
use Rattle.sir_answers.proofs.order_answers.order_answer.Goals as goal

pub returns-in-Order : goal.returns-in-Order
returns-in-Order c =
    let a = c.args in
    c.visit_answer.ensures ∙ ap (λ (l : List ℕ). answered (bind l bytes_of) a.out.now) c.requires.order_stage.order_is ∙ answered_as Question.OfOrder a.visited.image.words.now c.in-Order.is a.out.now

pub returns-in-Predecessors : goal.returns-in-Predecessors
returns-in-Predecessors c =
    let a = c.args in
    c.predecessors_answer.ensures ∙ answered_as Question.OfOrder a.visited.image.words.now c.in-Predecessors.is a.out.now

pub returns-in-Uses : goal.returns-in-Uses
returns-in-Uses c =
    let a = c.args in
    c.uses_answer.ensures ∙ answered_as Question.OfOrder a.visited.image.words.now c.in-Uses.is a.out.now

pub returns-in-AllPredecessors : goal.returns-in-AllPredecessors
returns-in-AllPredecessors c =
    let a = c.args in
    c.all_predecessors_answer.ensures ∙ answered_as Question.OfOrder a.visited.image.words.now c.in-AllPredecessors.is a.out.now

pub returns-in-AllUses : goal.returns-in-AllUses
returns-in-AllUses c =
    let a = c.args in
    c.all_uses_answer.ensures ∙ answered_as Question.OfOrder a.visited.image.words.now c.in-AllUses.is a.out.now
