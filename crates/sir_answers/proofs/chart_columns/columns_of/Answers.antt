-- `columns_of` meets its contract.
use native.Mathlib.Omega.{arith}
use lib.ListN.{replicate}
use Rattle.plank_core.specs.laws.Members.{member_is}
use Rattle.sir_analyses.proofs.local_liveness.SetAnswers.{front_members}
use Rattle.sir_answers.proofs.chart_columns.ColumnLaws.{columns_opened}
use Rattle.sir_answers.proofs.chart_columns.columns_of.Goals as goal

pub open_columns-requires : goal.open_columns-requires
open_columns-requires c =
    let set = c.args.set.now in
    let front = front_members set (replicate 512 0) c.list-n.ensures.0 c.list-n.ensures.1 in
    record { by_index = c.requires.by_index; by_index_2 = λ v m. let i = member_is set v (rw front at m) in (i.0, c.requires.by_index_2 v i.0 i.1); series_bound = (c.requires.series_bound.0, omega (arith, c.closed_columns.auto, c.requires.series_bound.2)) }

pub returns : goal.returns
returns c =
    let set = c.args.set.now in
    let front = front_members set (replicate 512 0) c.list-n.ensures.0 c.list-n.ensures.1 in
    columns_opened front (omega (arith, c.open_columns.auto, c.closed_columns.auto, c.requires.series_bound.2)) c.closed_columns.ensures c.open_columns.ensures
