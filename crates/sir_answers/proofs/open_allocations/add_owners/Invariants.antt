-- `add_owners` meets its contract. The invariant: the owners of the locals before i are in the set.
use Prim.Native.Nat.{ℕ}
use Rattle.sir_analyses.specs.inner.Tables.{Adds}
use Rattle.sir_answers.specs.inner.AllocationPieces.{unmarked_owner}
use Rattle.sir_answers.proofs.owned_tables.OwnedTables.{split_to}
use Rattle.sir_answers.proofs.open_allocations.add_owners.Given as goal

-- all owners go in one row
abbrev pub one_row : ℕ → ℕ
one_row a = 0

abbrev pub invariant-loop-v : goal.invariant-loop-v
invariant-loop-v l = Adds l.initial.owners (split_to (unmarked_owner l.pointers) one_row l.ids l.initial.owners l.owners l.v-index) l.owners
