-- `advance_each` meets its contract. The invariant: the cursors of the ids left are to be moved.
use mathlib.Core.List.{[]}
use lib.ListN.{drop}
use Rattle.sir_answers.specs.inner.Scatter.{forward}
use Rattle.sir_answers.specs.inner.Pieces.{pieces_at, blanks}
use Rattle.sir_answers.proofs.scatter.Scattering.{Scattering}
use Rattle.sir_answers.proofs.scatter.advance_each.Given as goal

abbrev pub invariant-loop-id : goal.invariant-loop-id
invariant-loop-id l = Scattering forward (pieces_at (λ k. blanks l.n) l.ids 0) l.initial.cursors [] (pieces_at (λ k. blanks l.n) (drop l.id-index l.ids) l.id-index) l.cursors []
