-- `put_word` meets its contract.
use Rattle.sir_analyses.proofs.answers.Writing.{puts_none, puts_one}
use Rattle.sir_analyses.proofs.answers.put_word.Goals as goal

pub returns-then-out-n : goal.returns-then-out-n
returns-then-out-n c = puts_none _ _ _ c.if-out-n.true

pub returns : goal.returns
returns c =
    puts_one _ _ _ c.if-out-n.false c.store.ensures
