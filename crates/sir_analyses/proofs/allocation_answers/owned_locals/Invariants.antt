-- `owned_locals` meets its contract. The invariant: those below v are added.
use Rattle.sir_analyses.specs.inner.Stages.{owners_in}
use mathlib.Core.Path.{◌≡◌}
use Prim.Native.Nat.{◌+◌}
use lib.ListN.{length, get_or}
use lib.Dec.{eqb}
use Rattle.sir_analyses.proofs.allocation_answers.AllocationWords.{Below}
use Rattle.sir_analyses.proofs.allocation_answers.owned_locals.Given as goal

abbrev pub invariant-loop-v : goal.invariant-loop-v
invariant-loop-v l = (length l.set ≡ 8) × Below (λ u. eqb (get_or (owners_in l.pointers) u 0) (l.a.0 + 1)) l.v l.set
