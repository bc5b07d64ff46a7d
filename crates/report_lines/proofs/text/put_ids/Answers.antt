-- `put_ids` meets its contract.
use native.Mathlib.Omega.{arith}
use lib.ListN.{get_or, length-append}
use Rattle.plank_core.specs.Text.{number}
use Rattle.report_lines.specs.Lines.{named}
use Rattle.plank_core.specs.laws.Putting.{put_id}
use Rattle.plank_core.specs.laws.Text.{number_short}
use Rattle.report_lines.proofs.text.put_ids.Goals as goal

pub loop-id-preserved : goal.loop-id-preserved
loop-id-preserved c =
    let L = c.loop-id in
    let id = get_or c.args.ids.now L.id-index 0 in
    let n = c.put_named-m.ensures in
    (omega (arith, c.requires.0, L.invariant.0, n.next, length-append c.args.name.now (number id), number_short id (omega (arith, c.type_inv.ids L.id-index))), put_id (named c.args.name.now) c.args.ids.now c.loop-id-test.true L.invariant.1 n)
