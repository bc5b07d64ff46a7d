-- `append_each` meets its contract. The invariant: the pieces of the ids left are to be put.
use lib.ListN.{drop}
use Rattle.sir_answers.specs.inner.Scatter.{forward}
use Rattle.sir_answers.specs.inner.Pieces.{pieces_at}
use Rattle.sir_answers.proofs.scatter.Scattering.{Scattering}
use Rattle.sir_answers.proofs.scatter.append_each.Given as goal

abbrev pub invariant-loop-id : goal.invariant-loop-id
invariant-loop-id l = Scattering forward (pieces_at (λ k. l.words) l.ids 0) l.initial.cursors l.initial.out (pieces_at (λ k. l.words) (drop l.id-index l.ids) l.id-index) l.cursors l.out
