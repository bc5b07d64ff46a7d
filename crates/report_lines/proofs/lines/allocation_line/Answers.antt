-- `allocation_line` meets its contract.
use Prim.Native.Nat.{◌-◌, ◌/◌}
use native.Mathlib.Omega.{arith}
use lib.ListN.{length}
use Rattle.report_lines.proofs.Intervals.{intervals_short}
use Rattle.report_lines.proofs.lines.allocation_line.Goals as goal

pub put_text-requires : goal.put_text-requires
put_text-requires c =
    let a = c.put_allocation_head-m.ensures in
    let b = c.put_intervals_at-n.ensures in
    omega (arith, c.requires.in_bounds.1, c.requires.in_bounds.2, a.0, a.1.long, b.next, b.long, intervals_short c.args.answer.now 9 ((length c.args.answer.now - 36) / 12) (λ i. omega (arith, c.type_inv.answer i)))
