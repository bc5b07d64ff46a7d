-- `put_intervals_at` meets its contract.
use Prim.Native.Nat.{◌+◌, ◌*◌}
use native.Mathlib.Omega.{arith}
use Rattle.report_lines.specs.inner.AnswerLines.{interval_at}
use Rattle.plank_core.specs.laws.Putting.{put_item}
use Rattle.report_lines.proofs.Intervals.{interval_at_short}
use Rattle.report_lines.proofs.text.put_intervals_at.Goals as goal

pub loop-k-preserved : goal.loop-k-preserved
loop-k-preserved c =
    let L = c.loop-k in
    let n = c.put_interval_at-m.ensures in
    (omega (arith, L.invariant.0, n.next, interval_at_short c.args.answer.now (c.args.first + 3 * L.k) (λ i. omega (arith, c.type_inv.answer i))), put_item (λ k. interval_at c.args.answer.now (c.args.first + 3 * k)) L.invariant.1 n)
