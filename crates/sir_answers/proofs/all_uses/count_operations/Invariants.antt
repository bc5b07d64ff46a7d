-- `count_operations` meets its contract. The invariant: the operations left are to be counted.
use mathlib.Core.List.{◌∷◌, []}
use Rattle.plank_core.specs.Lists.{bind, range}
use Rattle.sir_answers.specs.inner.Scatter.{forward}
use Rattle.sir_answers.specs.inner.Pieces.{blanks}
use Rattle.sir_answers.proofs.scatter.Scattering.{Scattering}
use Rattle.sir_answers.proofs.all_uses.count_operations.Given as goal

abbrev pub invariant-loop-o : goal.invariant-loop-o
invariant-loop-o l = Scattering forward (bind (range l.initial.o l.o-end) (λ o. (o, blanks 1) ∷ [])) l.initial.times [] (bind (range l.o l.o-end) (λ o. (o, blanks 1) ∷ [])) l.times []
