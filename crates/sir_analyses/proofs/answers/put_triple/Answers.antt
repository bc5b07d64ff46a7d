-- `put_triple` meets its contract: three words in turn.
use Rattle.sir_analyses.proofs.answers.Writing.{puts_then}
use Rattle.sir_analyses.proofs.answers.put_triple.Goals as goal

pub returns : goal.returns
returns c =
    puts_then (puts_then c.put_word-m.ensures c.put_word-k.ensures) c.put_word.ensures
