-- `own_rows` meets its contract. The invariant: the locals below v are in their rows.
use Rattle.sir_analyses.specs.inner.Tables.{Adds}
use Rattle.sir_answers.specs.inner.AllocationPieces.{unmarked_owner}
use Rattle.sir_answers.proofs.owned_tables.OwnedTables.{owned_to}
use Rattle.sir_answers.proofs.owned_tables.own_rows.Given as goal

abbrev pub invariant-loop-v : goal.invariant-loop-v
invariant-loop-v l = Adds l.initial.rows (owned_to (unmarked_owner l.pointed.pointers.now) l.initial.rows l.rows l.v) l.rows
