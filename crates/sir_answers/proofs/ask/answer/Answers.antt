-- `answer` meets its contract.
use Rattle.std.proofs.Common.{sym, ◌∙◌, rules}
use Rattle.sir_answers.specs.inner.Questions.{own_rules, answer_bytes}
use Rattle.sir_analyses.proofs.answers.Calls.{call_answered}
use Rattle.sir_answers.proofs.questions.Asked.{call_err, answered_as}
use Rattle.sir_answers.proofs.ask.answer.Goals as goal

pub returns-in_err-own_refusal : goal.returns-in_err-own_refusal
returns-in_err-own_refusal c =
    let a = c.args in
    call_err (search rules) (own_rules a.question a.accepted.image.words.now) (answer_bytes a.question a.accepted.image.words.now) a.out.now c.in_err-own_refusal.ensures

pub returns-in-OfOrder : goal.returns-in-OfOrder
returns-in-OfOrder c =
    let a = c.args in
    (rw c.visited.ensures.0 at c.order_answer.ensures) ∙ answered_as (λ q. q) a.accepted.image.words.now c.in-OfOrder.is a.out.now ∙ call_answered (own_rules a.question a.accepted.image.words.now) (answer_bytes a.question a.accepted.image.words.now) a.out.now (sym c.in_ok-own_refusal.ensures)

pub returns-in-OfLiveness : goal.returns-in-OfLiveness
returns-in-OfLiveness c =
    let a = c.args in
    (rw c.visited-in-OfLiveness.ensures.0 at c.live_answer.ensures) ∙ answered_as (λ q. q) a.accepted.image.words.now c.in-OfLiveness.is a.out.now ∙ call_answered (own_rules a.question a.accepted.image.words.now) (answer_bytes a.question a.accepted.image.words.now) a.out.now (sym c.in_ok-own_refusal.ensures)

pub returns-in-OfPointers : goal.returns-in-OfPointers
returns-in-OfPointers c =
    let a = c.args in
    c.pointer_answer.ensures ∙ answered_as (λ q. q) a.accepted.image.words.now c.in-OfPointers.is a.out.now ∙ call_answered (own_rules a.question a.accepted.image.words.now) (answer_bytes a.question a.accepted.image.words.now) a.out.now (sym c.in_ok-own_refusal.ensures)

pub returns-in-Chart : goal.returns-in-Chart
returns-in-Chart c =
    let a = c.args in
    c.chart_answer.ensures ∙ answered_as (λ q. q) a.accepted.image.words.now c.in-Chart.is a.out.now ∙ call_answered (own_rules a.question a.accepted.image.words.now) (answer_bytes a.question a.accepted.image.words.now) a.out.now (sym c.in_ok-own_refusal.ensures)
