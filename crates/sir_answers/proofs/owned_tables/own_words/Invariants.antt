-- `own_words` meets its contract. The invariant: the owners of the locals below v are stored.
use mathlib.Core.Path.{◌≡◌}
use mathlib.Core.Bool.{cond}
use Prim.Native.Nat.{ℕ}
use lib.Dec.{ltb}
use Rattle.sir_answers.specs.inner.Scatter.{number_at}
use Rattle.sir_answers.specs.inner.AllocationPieces.{unmarked_owner}
use Rattle.sir_answers.proofs.owned_tables.own_words.Given as goal

abbrev pub invariant-loop-v : goal.invariant-loop-v
invariant-loop-v l = ((u : ℕ) → number_at l.owners u ≡ cond (ltb u l.v) (unmarked_owner l.pointed.pointers.now u) (number_at l.initial.owners u))
