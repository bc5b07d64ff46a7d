-- `crossing_refusal` meets its contract.
use Rattle.std.proofs.Common.{◌≡◌, [], ◌∷◌, not, ltb, refl, sym, ◌∙◌, rules}
use Rattle.sir_data.specs.Refusals.{refused, number}
use Rattle.sir_data.specs.laws.Refusals.{not_0}
use Rattle.sir_data.specs.laws.Rules.{by_later, by_earlier}
use Rattle.sir_answers.proofs.questions.crossing_refusal.Goals as goal

pub returns-in_err-id_refusal : goal.returns-in_err-id_refusal
returns-in_err-id_refusal c =
    let a = c.args in
    let r = c.in_err-id_refusal in
    let e : refused c.from_residual.result ≡ number r.field-0.0 = search rules in
    e ∙ r.ensures ∙ sym (by_earlier ((13, not (ltb a.one.0 a.count)) ∷ []) ((13, not (ltb a.other.0 a.count)) ∷ []) refl (λ z. not_0 r.field-0.0 (r.ensures ∙ z)))

pub returns : goal.returns
returns c =
    let a = c.args in
    c.id_refusal-2.ensures ∙ sym (by_later ((13, not (ltb a.one.0 a.count)) ∷ []) ((13, not (ltb a.other.0 a.count)) ∷ []) refl (sym c.in_ok-id_refusal.ensures))
