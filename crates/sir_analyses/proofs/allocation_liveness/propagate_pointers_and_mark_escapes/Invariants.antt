-- `propagate_pointers_and_mark_escapes` meets its contract. The invariant: the arrays show a state on the way.
use Prim.Native.Nat.{◌+◌}
use Rattle.sir_analyses.specs.inner.Discovery.{zeros}
use Rattle.sir_analyses.specs.inner.Stages.{owners_in, left_in}
use Rattle.sir_analyses.proofs.allocation_liveness.PointerTables.{OnTheWay}
use Rattle.sir_analyses.proofs.allocation_liveness.propagate_pointers_and_mark_escapes.Given as goal

abbrev pub invariant-loop-pointers : goal.invariant-loop-pointers
invariant-loop-pointers l = OnTheWay l.links l.causes l.a.0 l.initial.pointers l.pointers

abbrev pub decreases-loop-pointers : goal.decreases-loop-pointers
decreases-loop-pointers l = zeros (owners_in l.pointers) + left_in l.pointers
