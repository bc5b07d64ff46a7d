-- `put_lengths` meets its contract. The invariant: the first segments have their lengths and their cursors.
use mathlib.Core.Path.{◌≡◌}
use lib.ListN.{length}
use Rattle.sir_answers.specs.inner.Scatter.{number_at, toward}
use Rattle.sir_answers.proofs.scatter.Scattering.{Placing}
use Rattle.sir_answers.proofs.scatter.put_lengths.Given as goal

abbrev pub invariant-loop-cursor : goal.invariant-loop-cursor
invariant-loop-cursor l = (length l.cursors ≡ length l.initial.cursors) × (length l.out ≡ length l.initial.out) × Placing (toward l.ends) (number_at l.initial.cursors) l.cursor-index l.start l.cursors l.out
