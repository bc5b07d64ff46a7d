-- `scan_intervals` meets its contract. The invariant: the pieces of the blocks left are to be put.
use lib.ListN.{drop}
use Rattle.plank_core.specs.Lists.{bind}
use Rattle.sir_answers.specs.inner.Scatter.{forward}
use Rattle.sir_answers.specs.inner.IntervalPieces.{block_pieces, local_pieces}
use Rattle.sir_answers.proofs.scatter.Scattering.{Scattering}
use Rattle.sir_answers.proofs.all_intervals.scan_intervals.Given as goal

abbrev pub invariant-loop-b : goal.invariant-loop-b
invariant-loop-b l = Scattering forward (local_pieces l.analysed.image.words.now) l.initial.cursors l.initial.out (bind (drop l.b-index l.order) (block_pieces l.analysed.image.words.now)) l.cursors l.out
