-- `put_heads` meets its contract. The invariant: the heads from a on are to be put, and their cursors stand as at first.
use mathlib.Core.Path.{◌≡◌}
use mathlib.Core.List.{◌∷◌, []}
use Prim.Native.Nat.{ℕ, ◌≤◌, ◌<◌}
use lib.ListN.{length}
use Rattle.plank_core.specs.Lists.{bind, range}
use Rattle.sir_answers.specs.inner.Scatter.{backward, number_at}
use Rattle.sir_answers.specs.inner.AllocationPieces.{head_of, head_pieces}
use Rattle.sir_answers.proofs.scatter.Scattering.{Scattering}
use Rattle.sir_answers.proofs.all_allocations.put_heads.Given as goal

abbrev pub invariant-loop-a : goal.invariant-loop-a
invariant-loop-a l = Scattering backward (head_pieces l.pointed.image.words.now) l.initial.cursors l.initial.out (bind (range l.a (length l.initial.cursors)) (λ a. (a, head_of l.pointed.image.words.now a) ∷ [])) l.cursors l.out × ((u : ℕ) → l.a ≤ u → u < length l.initial.cursors → number_at l.cursors u ≡ number_at l.initial.cursors u)
