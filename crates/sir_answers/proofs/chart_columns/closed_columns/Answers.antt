-- `closed_columns` meets its contract. The invariant: the columns before k are filled.
use mathlib.Core.Path.{◌∙◌}
use native.Mathlib.Omega.{arith}
use lib.ListN.{length-set}
use Rattle.sir_answers.proofs.chart_columns.ColumnLaws.{closed_next, columns_closed}
use Rattle.sir_answers.proofs.chart_columns.closed_columns.Goals as goal

pub loop-k-init : goal.loop-k-init
loop-k-init c = (c.requires.series_bound.1, λ j h. absurd (omega arith))

pub loop-k-preserved : goal.loop-k-preserved
loop-k-preserved c =
    let a = c.args in
    let l = c.loop-k in
    (length-set l.columns l.k c.closed_column.result ∙ l.invariant.0, closed_next a.pointers.now l.columns a.series l.k c.closed_column.result (omega (arith, l.invariant.0)) c.closed_column.ensures l.invariant.1)

pub returns : goal.returns
returns c =
    let l = c.loop-k in
    columns_closed l.invariant.0 (λ k h. l.invariant.1 k (omega arith))
