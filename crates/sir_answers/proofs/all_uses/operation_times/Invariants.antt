-- `operation_times` meets its contract. The invariant: the operations of the blocks left are to be counted.
use mathlib.Core.List.{[]}
use lib.ListN.{drop}
use Rattle.plank_core.specs.Lists.{bind}
use Rattle.sir_answers.specs.inner.Scatter.{forward}
use Rattle.sir_answers.specs.inner.Pieces.{one_pieces}
use Rattle.sir_answers.proofs.scatter.Scattering.{Scattering}
use Rattle.sir_answers.proofs.all_uses.operation_times.Given as goal

abbrev pub invariant-loop-b : goal.invariant-loop-b
invariant-loop-b l = Scattering forward (bind l.order (one_pieces l.visited.image.words.now)) l.initial.times [] (bind (drop l.b-index l.order) (one_pieces l.visited.image.words.now)) l.times []
