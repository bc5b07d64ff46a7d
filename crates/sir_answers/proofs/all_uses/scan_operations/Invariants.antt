-- `scan_operations` meets its contract. The invariant: the pieces of the operations left are to be put.
use mathlib.Core.List.{◌∷◌, []}
use Rattle.plank_core.specs.Lists.{bind, range}
use Rattle.sir_data.specs.Records.{ins}
use Rattle.sir_answers.specs.inner.Scatter.{forward}
use Rattle.sir_answers.specs.inner.Pieces.{pieces_at}
use Rattle.sir_answers.proofs.scatter.Scattering.{Scattering}
use Rattle.sir_answers.proofs.all_uses.scan_operations.Given as goal

abbrev pub invariant-loop-o : goal.invariant-loop-o
invariant-loop-o l = Scattering forward (bind (range l.initial.o l.o-end) (λ o. pieces_at (λ k. l.b.id.0 ∷ 0 ∷ o ∷ []) (ins l.b.image.words.now o) 0)) l.initial.cursors l.initial.out (bind (range l.o l.o-end) (λ o. pieces_at (λ k. l.b.id.0 ∷ 0 ∷ o ∷ []) (ins l.b.image.words.now o) 0)) l.cursors l.out
