-- `put_heading` meets its contract.
use mathlib.Core.Path.{◌≡◌}
use Prim.Native.Nat.{ℕ, ◌+◌, ◌-◌}
use native.Mathlib.Omega.{arith}
use lib.ListN.{length, length-replicate}
use Rattle.plank_core.specs.laws.Putting.{put_as, put_then, put_whole}
use Rattle.plank_core.specs.laws.Text.{number_short}
use Rattle.plank_core.specs.Text.{number}
use Rattle.sir_answers.proofs.chart_lines.LineTexts.{heading_fed}
use Rattle.sir_answers.proofs.chart_lines.put_heading.Goals as goal

pub overflow_sub-n : goal.overflow_sub-n
overflow_sub-n c =
    omega (arith, c.put_number-n.ensures.next, c.put_text-a.ensures.next, number_short c.args.b.0 (omega (arith, c.requires.0)))

pub put_byte-requires : goal.put_byte-requires
put_byte-requires c =
    let n = c.put_number-n.result in
    let few = number_short c.args.b.0 (omega (arith, c.requires.0)) in
    omega (arith, c.put_spaces-m.ensures.next, c.put_spaces-m.ensures.long, c.put_number-n.ensures.next, c.put_number-n.ensures.long, c.put_text-a.ensures.next, c.put_text-a.ensures.long, few, length-replicate {A = ℕ} (72 - n) 32, c.requires.1)

pub returns : goal.returns
returns c =
    let n = c.put_number-n.result in
    let few = number_short c.args.b.0 (omega (arith, c.requires.0)) in
    let after : n ≡ 6 + length (number c.args.b.0) = omega (arith, c.put_number-n.ensures.next, c.put_text-a.ensures.next) in
    let put = put_as (heading_fed c.args.b.0 n after) (put_then c.put_text-a.ensures (put_then c.put_number-n.ensures (put_then c.put_spaces-m.ensures c.put_byte.ensures))) in
    put_whole put (omega (arith, put.next, c.put_byte.ensures.next, c.put_spaces-m.ensures.next, few, after, length-replicate {A = ℕ} (72 - n) 32, c.requires.1))
