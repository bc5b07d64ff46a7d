-- `scan_outputs` meets its contract. The invariant: the pieces of the outputs left are to be put.
use mathlib.Core.List.{◌∷◌, []}
use lib.ListN.{drop}
use Rattle.sir_answers.specs.inner.Scatter.{forward}
use Rattle.sir_answers.specs.inner.Pieces.{pieces_at}
use Rattle.sir_answers.proofs.scatter.Scattering.{Scattering}
use Rattle.sir_answers.proofs.all_uses.scan_outputs.Given as goal

abbrev pub invariant-loop-k : goal.invariant-loop-k
invariant-loop-k l = Scattering forward (pieces_at (λ k. l.b.id.0 ∷ 2 ∷ k ∷ []) l.run 0) l.initial.cursors l.initial.out (pieces_at (λ k. l.b.id.0 ∷ 2 ∷ k ∷ []) (drop l.k l.run) l.k) l.cursors l.out
