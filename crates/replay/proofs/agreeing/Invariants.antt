-- `agreeing` counts no more than it asks.
use Rattle.std.proofs.Common.{◌≤◌}
use Rattle.replay.proofs.agreeing.Given as goal

abbrev pub invariant-loop-i : goal.invariant-loop-i
invariant-loop-i g l = l.found ≤ l.i
