-- `split_owners` meets its contract. The invariant: the owners of the locals before i are in their rows.
use Rattle.sir_analyses.specs.inner.Tables.{Adds}
use Rattle.sir_answers.specs.inner.AllocationPieces.{owner_in, side}
use Rattle.sir_answers.proofs.owned_tables.OwnedTables.{split_to}
use Rattle.sir_answers.proofs.owned_tables.split_owners.Given as goal

abbrev pub invariant-loop-v : goal.invariant-loop-v
invariant-loop-v l = Adds l.initial.split (split_to (owner_in l.owned) (side l.owned l.set) l.ids l.initial.split l.split l.v-index) l.split
