-- `chart_answer` meets its contract.
use mathlib.Core.Path.{◌≡◌, sym, ap, ap₂, ◌∙◌}
use Prim.Native.Nat.{ℕ, ◌*◌}
use native.Mathlib.Omega.{arith}
use lib.Seq.{length-take-le}
use lib.ListN.{length}
use Rattle.sir_analyses.specs.Chart.{on_sheets, series_count, chart_text, lines_of}
use Rattle.sir_analyses.specs.Order.{blocks_rpo}
use Rattle.sir_answers.proofs.chart.ChartTexts.{series_is, chart_length, chart_refused, chart_answered}
use Rattle.sir_answers.proofs.chart.chart_answer.Goals as goal

pub returns-then-out-n : goal.returns-then-out-n
returns-then-out-n c =
    let w = c.args.accepted.image.words.now in
    let bytes : 73 * c.on_sheets-bytes.result ≡ 73 * on_sheets (lines_of w (blocks_rpo w)) = ap (λ (n : ℕ). 73 * n) (c.on_sheets-bytes.ensures ∙ ap on_sheets c.series_lines.ensures.0) in
    let count : c.series_count.result ≡ series_count w = c.series_count.ensures ∙ series_is c.args.accepted.accepted_stage in
    let n : 73 * c.on_sheets-bytes.result * c.series_count.result ≡ length (chart_text w) = ap₂ (λ (x y : ℕ). x * y) bytes count ∙ sym (chart_length c.args.accepted.accepted_stage) in
    chart_refused (chart_text w) c.args.out.now (omega (arith, n, c.if-out-n.true))

pub put_chart-requires : goal.put_chart-requires
put_chart-requires c =
    let w = c.args.accepted.image.words.now in
    let bytes : 73 * c.on_sheets-bytes.result ≡ 73 * on_sheets (lines_of w (blocks_rpo w)) = ap (λ (n : ℕ). 73 * n) (c.on_sheets-bytes.ensures ∙ ap on_sheets c.series_lines.ensures.0) in
    let count : c.series_count.result ≡ series_count w = c.series_count.ensures ∙ series_is c.args.accepted.accepted_stage in
    let n : 73 * c.on_sheets-bytes.result * c.series_count.result ≡ length (chart_text w) = ap₂ (λ (x y : ℕ). x * y) bytes count ∙ sym (chart_length c.args.accepted.accepted_stage) in
    record { bytes_value = (bytes, length-take-le _ c.args.out.now c.if-out-n.false ∙ ap (λ (k : ℕ). 73 * c.on_sheets-bytes.result * k) count) }

pub returns : goal.returns
returns c =
    let w = c.args.accepted.image.words.now in
    let bytes : 73 * c.on_sheets-bytes.result ≡ 73 * on_sheets (lines_of w (blocks_rpo w)) = ap (λ (n : ℕ). 73 * n) (c.on_sheets-bytes.ensures ∙ ap on_sheets c.series_lines.ensures.0) in
    let count : c.series_count.result ≡ series_count w = c.series_count.ensures ∙ series_is c.args.accepted.accepted_stage in
    let n : 73 * c.on_sheets-bytes.result * c.series_count.result ≡ length (chart_text w) = ap₂ (λ (x y : ℕ). x * y) bytes count ∙ sym (chart_length c.args.accepted.accepted_stage) in
    chart_answered (chart_text w) c.args.out.now n c.if-out-n.false c.put_chart.ensures
