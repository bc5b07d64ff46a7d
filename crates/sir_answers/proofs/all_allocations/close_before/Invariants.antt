-- `close_before` meets its contract. The invariant: the pieces of the ids left are to be put.
use Rattle.sir_answers.specs.inner.Scatter.{backward}
use Rattle.sir_answers.proofs.all_intervals.OpenEnds.{Closing}
use Rattle.sir_answers.proofs.all_allocations.close_before.Given as goal

abbrev pub invariant-loop-v : goal.invariant-loop-v
invariant-loop-v l = Closing backward l.b.0 l.from l.till l.ids l.initial.cursors l.initial.out l.v-index l.cursors l.out
