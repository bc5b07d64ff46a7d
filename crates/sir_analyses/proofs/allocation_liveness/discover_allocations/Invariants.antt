-- `discover_allocations` meets its contract. The invariant: the arrays show the state after the first i allocations.
use Rattle.sir_analyses.proofs.allocation_liveness.PointerTables.{TurnedTo}
use Rattle.sir_analyses.proofs.allocation_liveness.discover_allocations.Given as goal

abbrev pub invariant-loop-i : goal.invariant-loop-i
invariant-loop-i l = TurnedTo l.image.words.now l.sites l.links l.causes l.pointers l.i
