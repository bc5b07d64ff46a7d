-- `flag_visited` meets its contract. The invariant: those below b are told.
use Prim.Native.Nat.{◌≤◌}
use Rattle.sir_analyses.proofs.reverse_post_order.VisitTables.{FlagsTo}
use Rattle.sir_analyses.proofs.reverse_post_order.flag_visited.Given as goal

abbrev pub invariant-loop-b : goal.invariant-loop-b
invariant-loop-b l = (l.b ≤ l.count) × FlagsTo l.seen l.flags l.b
