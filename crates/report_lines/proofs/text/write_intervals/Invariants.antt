-- `write_intervals` meets its contract. The invariant: those before this one are written.
use Rattle.std.specs.Fmt.{HasWritten, IsPlainFormatter}
use Rattle.report_lines.specs.inner.AnswerLines.{intervals_at}
use Rattle.report_lines.proofs.text.write_intervals.Given as goal

abbrev pub invariant-loop-k : goal.invariant-loop-k
invariant-loop-k g l =
    IsPlainFormatter l.fn.f → HasWritten g.W.Write.write_str_gives l.fn.f (intervals_at l.answer l.first l.k) l.f
