-- `all_new` meets its contract. The loop's invariant: the numbers that are left decide, and go into the set.
use Rattle.std.proofs.Common.{◌≤◌, length, drop}
use Rattle.sir_data.proofs.giver_rules.Passing.{Passing}
use Rattle.sir_data.proofs.giver_rules.all_new.Given as goal

abbrev pub invariant-loop-local : goal.invariant-loop-local
invariant-loop-local l = (l.local-index ≤ length l.run) × Passing l.initial.set l.run l.set (drop l.local-index l.run)
