-- `try_ask` meets its contract.
use Rattle.std.proofs.Common.{List, ℕ, sym, ap, ◌∙◌, rules}
use Rattle.sir_analyses.specs.Calls.{call}
use Rattle.sir_answers.specs.inner.Questions.{own_rules, answer_bytes}
use Rattle.sir_analyses.proofs.answers.Calls.{image_accepted}
use Rattle.sir_answers.proofs.questions.Asked.{image_err}
use Rattle.sir_answers.proofs.ask.try_ask.Goals as goal

pub returns-in_err-sizes : goal.returns-in_err-sizes
returns-in_err-sizes c =
    let a = c.args in
    image_err (search rules) (own_rules a.question) (answer_bytes a.question) a.image.now a.out.now c.in_err-sizes.ensures.number

pub returns : goal.returns
returns c =
    let a = c.args in
    let image = a.image.now in
    let own = own_rules a.question in
    let bytes = answer_bytes a.question in
    let k = c.in_ok-sizes.ensures in
    c.answer.ensures ∙ ap (λ (w : List ℕ). call (own w) (bytes w) a.out.now) k.prepared.words_are ∙ image_accepted own bytes image a.out.now (sym k.number)
