-- `of_series` meets its contract.
use Rattle.sir_answers.proofs.chart_columns.ColumnLaws.{difference_is}
use Rattle.sir_answers.proofs.chart_columns.of_series.Goals as goal

pub returns : goal.returns
returns c =
    difference_is c.args.set.now c.args.others.now c.row_union_with.ensures.1 c.row_difference_with.ensures
