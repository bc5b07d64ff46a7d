-- `inputs_new` meets its contract. The loop's invariant: the blocks that are left decide, and go into the set.
use Rattle.sir_data.specs.Records.{blocks, inputs}
use Rattle.sir_data.proofs.giver_rules.Passing.{PassingRuns}
use Rattle.sir_data.proofs.giver_rules.inputs_new.Given as goal

abbrev pub invariant-loop-b : goal.invariant-loop-b
invariant-loop-b l = PassingRuns l.initial.given (inputs l.ranged.records.words.now) (blocks l.ranged.records.words.now) l.given l.b
