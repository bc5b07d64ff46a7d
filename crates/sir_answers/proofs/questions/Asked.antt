-- A call that a rule refuses; and a question of one need, once its form is known: its own rules, and its answer.
use Rattle.std.proofs.Common.{◌≡◌, List, ℕ, Result, Err, refl, sym, ap, subst, ◌∙◌}
use Rattle.sir_data.specs.declared.refusals.Refusal.{Refusal}
use Rattle.sir_data.specs.Refusals.{number}
use Rattle.sir_data.specs.Rules.{first}
use Rattle.sir_data.specs.laws.Refusals.{not_0}
use Rattle.sir_analyses.specs.Calls.{Rules, call, asked, refusal, answered}
use Rattle.sir_analyses.specs.inner.Outcomes.{outcome}
use Rattle.sir_analyses.proofs.answers.Calls.{call_refused, image_refused}
use Rattle.sir_answers.specs.inner.Questions.{own_rules, answer_bytes}
use Rattle.sir_answers.specs.declared.questions.Question.{Question}

module _ {why : Refusal} {r : Result ℕ Refusal} (e : r ≡ Err why) where
  -- by its own rules
  pub call_err : (rules : Rules) (bytes out : List ℕ) → number why ≡ first rules → outcome r out ≡ call rules bytes out
  call_err rules bytes out n = rw e (call_refused rules bytes out (λ z. not_0 why (n ∙ z)) n refl)

  -- by those of the image
  pub image_err : (own : List ℕ → Rules) (bytes : List ℕ → List ℕ) (image out : List ℕ) → number why ≡ refusal image → outcome r out ≡ asked own bytes image out
  image_err own bytes image out n = rw e (image_refused own bytes image out (λ z. not_0 why (n ∙ z)) n refl)

module _ {Q : Type 0} (of : Q → Question) (w : List ℕ) {question q : Q} (e : question ≡ q) where
  pub own_as : first (own_rules (of question) w) ≡ 0 → first (own_rules (of q) w) ≡ 0
  own_as z = subst (λ (x : Q). first (own_rules (of x) w) ≡ 0) e z

  pub answered_as : (out : List ℕ) → answered (answer_bytes (of q) w) out ≡ answered (answer_bytes (of question) w) out
  answered_as out = ap (λ (x : Q). answered (answer_bytes (of x) w) out) (sym e)
