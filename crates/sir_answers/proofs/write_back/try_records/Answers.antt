-- `try_records` meets its contract.
use Rattle.std.proofs.Common.{List, ℕ, sym, ap, ◌∙◌, rules}
use Rattle.plank_core.specs.Lists.{bind}
use Rattle.sir_data.specs.Pages.{bytes_of}
use Rattle.sir_data.specs.Paging.{records_of}
use Rattle.sir_analyses.specs.Calls.{answered, no_rules, in_words}
use Rattle.sir_analyses.proofs.answers.Calls.{image_accepted}
use Rattle.sir_answers.proofs.questions.Asked.{image_err}
use Rattle.sir_answers.proofs.write_back.LentPages.{records_front}
use Rattle.sir_answers.proofs.write_back.try_records.Goals as goal

pub returns-in_err-load : goal.returns-in_err-load
returns-in_err-load c =
    image_err (search rules) no_rules (in_words records_of) c.args.image.now c.args.out.now c.in_err-load.ensures.number

pub returns : goal.returns
returns c =
    let a = c.args in
    let k = c.in_ok-load.ensures in
    let front = records_front k.prepared c.word_count-n.ensures in
    c.words_answer.ensures ∙ ap (λ (ws : List ℕ). answered (bind ws bytes_of) a.out.now) front ∙ image_accepted no_rules (in_words records_of) a.image.now a.out.now (sym k.number)
