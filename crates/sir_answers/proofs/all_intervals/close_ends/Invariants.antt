-- `close_ends` meets its contract. The invariant: the pieces of the ids left are to be put.
use Rattle.sir_answers.specs.inner.Scatter.{forward}
use Rattle.sir_answers.proofs.all_intervals.OpenEnds.{Closing}
use Rattle.sir_answers.proofs.all_intervals.close_ends.Given as goal

abbrev pub invariant-loop-v : goal.invariant-loop-v
invariant-loop-v l = Closing forward l.b.0 l.from l.till l.ids l.initial.cursors l.initial.out l.v-index l.cursors l.out
