-- `block_line` meets its contract.
use Prim.Native.Nat.{◌≤◌}
use native.Mathlib.Omega.{arith}
use Rattle.plank_core.specs.laws.Text.{number_short}
use Rattle.report_lines.proofs.Numbers.{members_short}
use Rattle.report_lines.proofs.lines.block_line.Goals as goal

pub put_text-i-requires : goal.put_text-i-requires
put_text-i-requires c =
    let a = c.put_named-m.ensures in
    omega (arith, c.requires.2, a.next, a.long, number_short c.args.b (omega (arith, c.ranges)))

pub put_members-j-requires : goal.put_members-j-requires
put_members-j-requires c =
    let a = c.put_named-m.ensures in
    let b = c.put_text-i.ensures in
    let l : c.put_text-i.result ≤ 20 = omega (arith, a.next, b.next, number_short c.args.b (omega (arith, c.ranges))) in
    (omega (arith, c.requires.2, a.long, b.long), omega (arith, c.requires.0, c.requires.2, a.long, b.long))

pub put_text-o-requires : goal.put_text-o-requires
put_text-o-requires c =
    let a = c.put_named-m.ensures in
    let b = c.put_text-i.ensures in
    let d = c.put_members-j.ensures in
    let l : c.put_text-i.result ≤ 20 = omega (arith, a.next, b.next, number_short c.args.b (omega (arith, c.ranges))) in
    omega (arith, c.requires.0, c.requires.2, a.long, b.long, d.long, d.next, members_short c.args.entry.now (λ i. omega (arith, c.type_inv.entry i)))

pub put_members-k-requires : goal.put_members-k-requires
put_members-k-requires c =
    let a = c.put_named-m.ensures in
    let b = c.put_text-i.ensures in
    let d = c.put_members-j.ensures in
    let e = c.put_text-o.ensures in
    let l : c.put_text-i.result ≤ 20 = omega (arith, a.next, b.next, number_short c.args.b (omega (arith, c.ranges))) in
    let m : c.put_text-o.result ≤ 6700 = omega (arith, c.requires.0, d.next, e.next, members_short c.args.entry.now (λ i. omega (arith, c.type_inv.entry i))) in
    (omega (arith, c.requires.2, a.long, b.long, d.long, e.long), omega (arith, c.requires.1, c.requires.2, a.long, b.long, d.long, e.long))

pub put_text-requires : goal.put_text-requires
put_text-requires c =
    let a = c.put_named-m.ensures in
    let b = c.put_text-i.ensures in
    let d = c.put_members-j.ensures in
    let e = c.put_text-o.ensures in
    let f = c.put_members-k.ensures in
    let l : c.put_text-i.result ≤ 20 = omega (arith, a.next, b.next, number_short c.args.b (omega (arith, c.ranges))) in
    let m : c.put_text-o.result ≤ 6700 = omega (arith, c.requires.0, d.next, e.next, members_short c.args.entry.now (λ i. omega (arith, c.type_inv.entry i))) in
    omega (arith, c.requires.1, c.requires.2, a.long, b.long, d.long, e.long, f.long, f.next, members_short c.args.exit.now (λ i. omega (arith, c.type_inv.exit i)))
