-- `list_row` meets its contract.
use mathlib.Core.Path.{ap, ◌∙◌}
use native.Mathlib.Omega.{arith}
use lib.ListN.{length}
use Rattle.plank_core.specs.inner.DenseIndexSet.{members}
use Rattle.plank_core.specs.laws.DenseIndexSet.{length_row}
use Rattle.plank_core.specs.laws.Members.{members_most}
use Rattle.sir_analyses.proofs.local_liveness.SetAnswers.{front_members}
use Rattle.sir_answers.proofs.all_intervals.list_row.Goals as goal

pub list-requires : goal.list-requires
list-requires c =
    (ap length c.row_of.ensures ∙ length_row c.args.table.now c.args.row c.requires.0, omega arith)

pub returns : goal.returns
returns c =
    (omega (arith, c.list.ensures.0, members_most c.row_of.result.now), front_members c.row_of.result.now c.args.ids.now c.list.ensures.0 c.list.ensures.1 ∙ ap members c.row_of.ensures)
