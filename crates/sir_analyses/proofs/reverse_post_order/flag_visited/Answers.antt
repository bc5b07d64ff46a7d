-- `flag_visited` meets its contract. The invariant: those below b are told.
use Rattle.sir_analyses.proofs.reverse_post_order.VisitTables.{flags_none}
use native.Mathlib.Omega.{arith}
use Rattle.sir_analyses.proofs.reverse_post_order.flag_visited.Goals as goal

pub loop-b-init : goal.loop-b-init
loop-b-init c =
    (omega arith, flags_none c.args.seen.now c.args.flags.now c.requires.seen_len.1)
