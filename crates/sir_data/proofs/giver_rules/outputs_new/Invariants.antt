-- `outputs_new` meets its contract. The loop's invariant: the operations that are left decide, and go into the set.
use Rattle.sir_data.specs.Records.{operations, outs}
use Rattle.sir_data.proofs.giver_rules.Passing.{PassingRuns}
use Rattle.sir_data.proofs.giver_rules.outputs_new.Given as goal

abbrev pub invariant-loop-o : goal.invariant-loop-o
invariant-loop-o l = PassingRuns l.initial.given (outs l.ranged.records.words.now) (operations l.ranged.records.words.now) l.given l.o
