-- `segments_answer` meets its contract.
use Rattle.std.proofs.Common.{ℕ, length, Ok, refl, sym, subst, ◌∙◌, rules}
use Rattle.sir_analyses.specs.inner.Outcomes.{Finished}
use Rattle.sir_analyses.proofs.answers.Calls.{answered_short}
use Rattle.sir_answers.proofs.scatter.AllAnswers.{lent_words, whole_answered}
use Rattle.sir_answers.proofs.segments.segments_answer.Goals as goal

pub returns-in_err-end : goal.returns-in_err-end
returns-in_err-end g c =
    λ xs e p. answered_short xs c.args.out.now c.in_err-end.ensures (c.total_words.ensures ∙ sym e) (search rules)

pub returns : goal.returns
returns g c =
    λ xs e p.
    let out = c.args.out.now in
    let f = subst (λ (i : ℕ). Finished i (length out) (Ok c.in_ok-end.end)) (c.total_words.ensures ∙ sym e) c.in_ok-end.ensures in
    whole_answered xs out f (p _ _ _ _ refl (lent_words xs out f) c.write.ensures)
