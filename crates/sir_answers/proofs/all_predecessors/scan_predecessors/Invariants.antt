-- `scan_predecessors` meets its contract. The invariant: the pieces of the visited blocks from p on are to be put.
use Rattle.sir_answers.specs.inner.Scatter.{forward}
use Rattle.sir_answers.specs.inner.Pieces.{edge_pieces, predecessor_pieces}
use Rattle.sir_answers.proofs.scatter.Scattering.{Scattering}
use Rattle.sir_analyses.proofs.predecessors.Edges.{visited_left}
use Rattle.sir_answers.proofs.all_predecessors.scan_predecessors.Given as goal

abbrev pub invariant-loop-p : goal.invariant-loop-p
invariant-loop-p l = Scattering forward (predecessor_pieces l.visited.image.words.now) l.initial.cursors l.initial.out (visited_left l.visited.image.words.now (edge_pieces l.visited.image.words.now) l.p l.count) l.cursors l.out
