-- `order_line` meets its contract.
use native.Mathlib.Omega.{arith}
use Rattle.report_lines.proofs.Numbers.{blocks_short}
use Rattle.report_lines.proofs.lines.order_line.Goals as goal

pub put_text-requires : goal.put_text-requires
put_text-requires c =
    let t = c.put_text-a.ensures in
    let n = c.put_blocks-b.ensures in
    omega (arith, c.requires.0, c.requires.1, t.next, t.long, n.next, n.long, blocks_short c.args.rpo.now (λ i. omega (arith, c.type_inv.rpo i)))
