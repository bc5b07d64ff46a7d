-- `write_words` meets its contract: rule 12 decides, or the pages are written.
use Rattle.std.proofs.Common.{[], ◌∷◌, sym, ◌∙◌, rules}
use Rattle.sir_data.specs.Paging.{pages_of}
use Rattle.sir_analyses.specs.Allocation.{rule12}
use Rattle.sir_analyses.proofs.answers.Calls.{call_answered}
use Rattle.sir_answers.proofs.questions.Asked.{call_err}
use Rattle.sir_answers.proofs.write_back.write_words.Goals as goal

pub returns : goal.returns
returns c =
    let a = c.args in
    let w = a.image.words.now in
    c.pages_answer.ensures ∙ call_answered ((12, rule12 w) ∷ []) (pages_of w) a.out.now (sym c.in_ok-load_visit.ensures.number)

pub returns-in_err-load_visit : goal.returns-in_err-load_visit
returns-in_err-load_visit c =
    let a = c.args in
    let w = a.image.words.now in
    call_err (search rules) ((12, rule12 w) ∷ []) (pages_of w) a.out.now c.in_err-load_visit.ensures.number
