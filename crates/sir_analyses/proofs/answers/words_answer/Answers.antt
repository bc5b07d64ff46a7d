-- `words_answer` meets its contract.
use mathlib.Core.Path.{refl}
use Rattle.std.proofs.Common.{rules}
use Rattle.sir_analyses.proofs.answers.Calls.{answered_short, answered_whole}
use Rattle.sir_analyses.proofs.answers.words_answer.Goals as goal

pub returns-in_err-end : goal.returns-in_err-end
returns-in_err-end c = answered_short c.args.words.now c.args.out.now c.in_err-end.ensures refl (search rules)

pub returns : goal.returns
returns c =
    let a = c.args in answered_whole a.words.now a.out.now c.in_ok-end.ensures c.put_words.ensures refl
