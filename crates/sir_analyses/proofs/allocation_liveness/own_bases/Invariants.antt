-- `own_bases` meets its contract. The invariant: the first a allocations have their bases.
use Rattle.sir_analyses.proofs.allocation_liveness.Discovery.{OwnedTo}
use Rattle.sir_analyses.proofs.allocation_liveness.own_bases.Given as goal

abbrev pub invariant-loop-a : goal.invariant-loop-a
invariant-loop-a l = OwnedTo l.image.words.now l.owners l.a
