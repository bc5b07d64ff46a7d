-- `put_block_uses` meets its contract: three parts in turn.
use Rattle.sir_analyses.proofs.answers.Writing.{puts_then}
use Rattle.sir_analyses.proofs.def_use.put_block_uses.Goals as goal

pub returns : goal.returns
returns c =
    puts_then (puts_then c.put_operation_uses-m.ensures c.put_condition_use-k.ensures) c.put_output_uses.ensures
