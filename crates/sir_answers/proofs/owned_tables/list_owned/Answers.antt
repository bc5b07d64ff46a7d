-- `list_owned` meets its contract.
use native.Mathlib.Omega.{arith}
use Rattle.plank_core.specs.laws.Members.{members_most}
use Rattle.sir_analyses.specs.inner.Stages.{part}
use Rattle.sir_analyses.proofs.local_liveness.SetAnswers.{front_members}
use Rattle.sir_answers.proofs.owned_tables.OwnedTables.{owned_listed}
use Rattle.sir_answers.proofs.owned_tables.list_owned.Goals as goal

pub returns : goal.returns
unfolding part
returns c =
    let some = c.row_difference_with.new.table in
    let e = rw c.row_union_with.ensures.1 at c.row_difference_with.ensures in
    let listed = front_members some c.args.ids.now c.list.ensures.0 c.list.ensures.1 in
    (omega (arith, c.list.ensures.0, members_most some), owned_listed c.requires.by_index.1 e listed)
