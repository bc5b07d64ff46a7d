-- `say_chart` meets its contract. The invariant: the slice keeps its length.
use mathlib.Core.Path.{sym, ap}
use Prim.Native.Nat.{ℕ, ◌≤◌}
use native.Mathlib.Omega.{arith}
use lib.ListN.{length, length-replicate}
use Rattle.sir_analyses.proofs.claims.chart.ChartProof.{series_most}
use Rattle.sir_answers.proofs.chart_columns.ColumnLaws.{sites_few}
use Rattle.chart.proofs.printing.say_chart.Goals as goal

pub series_count-count-requires : goal.series_count-count-requires
series_count-count-requires g c =
    omega (arith, ap length (rw c.pointed.ensures.1 at c.sites.ensures), sites_few c.args.tables.pointer_stage)

pub loop-series-init : goal.loop-series-init
loop-series-init g c = length-replicate {A = ℕ} 74825 0

pub slice_bounds-say_blocks-end : goal.slice_bounds-say_blocks-end
slice_bounds-say_blocks-end g c =
    sym c.loop-series.invariant

pub say_blocks-requires : goal.say_blocks-requires
say_blocks-requires g c =
    let eight : c.series_count-count.result ≤ 8 = rw c.series_count-count.ensures (series_most (length c.sites.result.now) (omega (arith, ap length (rw c.pointed.ensures.1 at c.sites.ensures), sites_few c.args.tables.pointer_stage))) in
    record { series_bound = omega (arith, eight, c.loop-series-test.true); out_len = c.loop-series.invariant }

pub slice_bounds-say_filling-end : goal.slice_bounds-say_filling-end
slice_bounds-say_filling-end g c =
    omega (arith, c.say_blocks.auto, c.loop-series.invariant)

pub say_filling-requires : goal.say_filling-requires
say_filling-requires g c =
    record { out_len = omega (arith, c.say_blocks.auto, c.loop-series.invariant) }

pub loop-series-preserved : goal.loop-series-preserved
loop-series-preserved g c =
    omega (arith, c.say_filling.auto, c.say_blocks.auto, c.loop-series.invariant)
