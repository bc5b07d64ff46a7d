-- `rule_12` meets its contract. The invariant: the bases of the allocations left decide.
use Rattle.sir_analyses.proofs.allocation_liveness.Discovery.{Deciding}
use Rattle.sir_analyses.proofs.allocation_liveness.rule_12.Given as goal

abbrev pub invariant-loop-a : goal.invariant-loop-a
invariant-loop-a l = Deciding l.image.words.now l.bases l.a
