-- `put_interval` meets its contract.
use native.Mathlib.Omega.{arith}
use Rattle.plank_core.specs.laws.Text.{number_short}
use Rattle.report_lines.proofs.Numbers.{start_short}
use Rattle.report_lines.proofs.text.put_interval.Goals as goal

pub put_text-s-requires : goal.put_text-s-requires
put_text-s-requires c =
    let n = c.put_named-b.ensures in omega (arith, c.requires.0, n.next, n.long, number_short c.args.block (omega (arith, c.ranges)))

pub put_start-d-requires : goal.put_start-d-requires
put_start-d-requires c =
    let n = c.put_named-b.ensures in
    let t = c.put_text-s.ensures in
    omega (arith, c.requires.0, n.next, n.long, t.next, t.long, number_short c.args.block (omega (arith, c.ranges)))

pub put_text-e-requires : goal.put_text-e-requires
put_text-e-requires c =
    let n = c.put_named-b.ensures in
    let t = c.put_text-s.ensures in
    let s = c.put_start-d.ensures in
    omega (arith, c.requires.0, n.next, n.long, t.next, t.long, s.next, s.long, number_short c.args.block (omega (arith, c.ranges)), start_short c.args.start (omega (arith, c.ranges)))

pub put_end-requires : goal.put_end-requires
put_end-requires c =
    let n = c.put_named-b.ensures in
    let t = c.put_text-s.ensures in
    let s = c.put_start-d.ensures in
    let d = c.put_text-e.ensures in
    (omega (arith, c.requires.0, n.next, n.long, t.next, t.long, s.next, s.long, d.next, d.long, number_short c.args.block (omega (arith, c.ranges)), start_short c.args.start (omega (arith, c.ranges))), c.requires.1)
