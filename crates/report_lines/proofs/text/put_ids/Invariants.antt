-- `put_ids` meets its contract. The invariant: those before this one are put.
use Prim.Native.Nat.{◌+◌, ◌*◌, ◌≤◌}
use lib.ListN.{take}
use Rattle.plank_core.specs.Lists.{bind}
use Rattle.report_lines.specs.Lines.{named}
use Rattle.plank_core.specs.inner.Putting.{Put}
use Rattle.report_lines.proofs.text.put_ids.Given as goal

abbrev pub invariant-loop-id : goal.invariant-loop-id
invariant-loop-id l = (l.m ≤ l.at + 13 * l.id-index) × Put (bind (take l.id-index l.ids) (named l.name)) l.at l.fn.line l.line l.m
