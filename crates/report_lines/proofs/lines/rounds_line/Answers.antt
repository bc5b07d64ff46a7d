-- `rounds_line` meets its contract.
use native.Mathlib.Omega.{arith}
use Rattle.plank_core.specs.laws.Text.{number_short}
use Rattle.report_lines.proofs.lines.rounds_line.Goals as goal

pub put_text-requires : goal.put_text-requires
put_text-requires c =
    let t = c.put_text-a.ensures in
    let n = c.put_number-b.ensures in
    omega (arith, c.requires, t.next, t.long, n.next, n.long, number_short c.args.rounds (omega (arith, c.ranges)))
