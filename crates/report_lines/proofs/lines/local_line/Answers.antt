-- `local_line` meets its contract.
use Prim.Native.Nat.{◌/◌}
use native.Mathlib.Omega.{arith}
use lib.ListN.{length}
use Rattle.plank_core.specs.laws.Text.{number_short}
use Rattle.report_lines.proofs.Intervals.{intervals_short}
use Rattle.report_lines.proofs.lines.local_line.Goals as goal

pub put_intervals_at-b-requires : goal.put_intervals_at-b-requires
put_intervals_at-b-requires c =
    let a = c.put_named-a.ensures in
    (omega (arith, c.requires.answer_len_bound.0, c.requires.answer_len_bound.1, a.next, a.long, number_short c.args.v (omega (arith, c.ranges))), omega arith, c.requires.ends_some)

pub put_text-requires : goal.put_text-requires
put_text-requires c =
    let a = c.put_named-a.ensures in
    let b = c.put_intervals_at-b.ensures in
    omega (arith, c.requires.answer_len_bound.0, c.requires.answer_len_bound.1, a.next, a.long, b.next, b.long, number_short c.args.v (omega (arith, c.ranges)), intervals_short c.args.answer.now 0 (length c.args.answer.now / 12) (λ i. omega (arith, c.type_inv.answer i)))
