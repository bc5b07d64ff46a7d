-- `write_named` meets its contract. The invariant: those before this one are written.
use Rattle.std.proofs.Common.{take}
use Rattle.std.specs.Fmt.{HasWritten, IsPlainFormatter}
use Rattle.plank_core.specs.Lists.{bind}
use Rattle.report_lines.specs.Lines.{named}
use Rattle.report_lines.proofs.text.write_named.Given as goal

abbrev pub invariant-loop-id : goal.invariant-loop-id
invariant-loop-id g l =
    IsPlainFormatter l.fn.f → HasWritten g.W.Write.write_str_gives l.fn.f (bind (take l.id-index l.ids) (named l.name)) l.f
