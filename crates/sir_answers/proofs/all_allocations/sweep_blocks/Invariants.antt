-- `sweep_blocks` meets its contract. The invariant: the pieces of the visited blocks below b are to be put.
use Rattle.sir_answers.specs.inner.Scatter.{backward}
use Rattle.sir_answers.specs.inner.AllocationPieces.{visited_pieces}
use Rattle.sir_answers.proofs.scatter.Scattering.{Scattering}
use Rattle.sir_answers.proofs.all_allocations.AllocationPieces.{visited_to}
use Rattle.sir_answers.proofs.all_allocations.sweep_blocks.Given as goal

abbrev pub invariant-loop-b : goal.invariant-loop-b
invariant-loop-b l = Scattering backward (visited_pieces l.tables.image.words.now) l.initial.cursors l.initial.out (visited_to l.tables.image.words.now l.b) l.cursors l.out
