-- `put_intervals_at` meets its contract. The invariant: those before this one are put.
use Prim.Native.Nat.{◌+◌, ◌*◌, ◌≤◌}
use Rattle.plank_core.specs.inner.Putting.{Put}
use Rattle.report_lines.specs.inner.AnswerLines.{intervals_at}
use Rattle.report_lines.proofs.text.put_intervals_at.Given as goal

abbrev pub invariant-loop-k : goal.invariant-loop-k
invariant-loop-k l = (l.m ≤ l.at + 36 * l.k) × Put (intervals_at l.answer l.first l.k) l.at l.fn.line l.line l.m
