-- `visit_answer` meets its contract.
use mathlib.Core.Path.{ap, ◌∙◌}
use mathlib.Core.List.{List}
use Prim.Native.Nat.{ℕ}
use Rattle.plank_core.specs.Lists.{bind}
use Rattle.sir_data.specs.Pages.{bytes_of}
use Rattle.sir_analyses.specs.Calls.{answered}
use Rattle.sir_answers.proofs.order_answers.visit_answer.Goals as goal

pub returns : goal.returns
returns c =
    let a = c.args in
    c.words_answer.ensures ∙ ap (λ (l : List ℕ). answered (bind l bytes_of) a.out.now) c.order_words-n.ensures.list
