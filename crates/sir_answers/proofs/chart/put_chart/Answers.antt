-- `put_chart` meets its contract. The invariant: the series before this one stand before `at`, and the rest is as it was.
use mathlib.Core.List.{append-nil, List, ◌++◌}
use mathlib.Core.Path.{◌≡◌, refl, sym, ap, ◌∙◌}
use Prim.Native.Nat.{ℕ, suc, ◌+◌, ◌-◌, ◌*◌, ◌≤◌, ◌<◌}
use native.Mathlib.Numerals.{add-one}
use native.Mathlib.Nat.{mul-suc, mul-le-mul_left}
use native.Mathlib.Omega.{arith}
use lib.Seq.{drop-length}
use lib.ListN.{length, drop}
use borrow.Rule.Slice.PartMut.{same_len_mid}
use Rattle.sir_analyses.specs.Allocation.{allocs}
use Rattle.sir_analyses.proofs.allocation_liveness.PointerTables.{allocations_few}
use Rattle.sir_analyses.proofs.claims.chart.ChartProof.{series_most}
use Rattle.sir_analyses.specs.Chart.{series_lines, sheets, series_for, series_count, text_of, chart_lines, chart_text}
use Rattle.sir_answers.proofs.chart.ChartTexts.{series_to, series_next}
use Rattle.sir_answers.proofs.chart_lines.LineTexts.{fill_next}
use Rattle.sir_answers.proofs.chart_columns.ColumnLaws.{sites_count, sites_few}
use Rattle.sir_answers.proofs.chart.put_chart.Goals as goal

-- the text of all series
text_is : (w : List ℕ) → series_to w (series_count w) ≡ chart_text w
unfolding chart_lines chart_text
text_is w = refl

pub series_count-count-requires : goal.series_count-count-requires
series_count-count-requires c =
    omega (arith, ap length (rw c.pointed.ensures.1 at c.sites.ensures), sites_few c.args.tables.pointer_stage)

pub loop-series-init : goal.loop-series-init
loop-series-init c = (refl, omega arith, refl, refl)

pub slice_bounds-put_series-end : goal.slice_bounds-put_series-end
slice_bounds-put_series-end c =
    let w = c.args.tables.image.words.now in
    let l = c.loop-series in
    let count : c.series_count-count.result ≡ series_count w = c.series_count-count.ensures ∙ ap series_for (ap length (rw c.pointed.ensures.1 at c.sites.ensures) ∙ sites_count c.args.tables.pointer_stage) in
    let more : l.series < series_count w = omega (arith, count, c.loop-series-test.true) in
    let room : c.args.bytes * suc l.series ≤ c.args.bytes * series_count w = mul-le-mul_left c.args.bytes more in
    let next = mul-suc c.args.bytes l.series in
    omega (arith, room, next, l.invariant.0, l.invariant.1, c.requires.bytes_value.1)

pub put_series-requires : goal.put_series-requires
put_series-requires c =
    let w = c.args.tables.image.words.now in
    let l = c.loop-series in
    let count : c.series_count-count.result ≡ series_count w = c.series_count-count.ensures ∙ ap series_for (ap length (rw c.pointed.ensures.1 at c.sites.ensures) ∙ sites_count c.args.tables.pointer_stage) in
    let more : l.series < series_count w = omega (arith, count, c.loop-series-test.true) in
    let room : c.args.bytes * suc l.series ≤ c.args.bytes * series_count w = mul-le-mul_left c.args.bytes more in
    let next = mul-suc c.args.bytes l.series in
    record { series_bound = (omega (arith, more, series_most (length (allocs w)) (allocations_few c.args.tables.pointer_stage)), omega (arith, room, next, l.invariant.0, l.invariant.1, c.requires.bytes_value.1, c.requires.bytes_value.0)) }

pub loop-series-preserved : goal.loop-series-preserved
loop-series-preserved c =
    let w = c.args.tables.image.words.now in
    let l = c.loop-series in
    let count : c.series_count-count.result ≡ series_count w = c.series_count-count.ensures ∙ ap series_for (ap length (rw c.pointed.ensures.1 at c.sites.ensures) ∙ sites_count c.args.tables.pointer_stage) in
    let more : l.series < series_count w = omega (arith, count, c.loop-series-test.true) in
    let room : c.args.bytes * suc l.series ≤ c.args.bytes * series_count w = mul-le-mul_left c.args.bytes more in
    let next = mul-suc c.args.bytes l.series in
    let d = c.args.out.now in
    let bytes = c.args.bytes in
    let long : length c.put_series.new.out ≡ bytes = omega (arith, c.put_series.auto, room, next, l.invariant.0, l.invariant.1, c.requires.bytes_value.1) in
    let put = fill_next (series_to w l.series) (text_of (sheets (series_lines w l.series))) l.at bytes d l.invariant.2 l.invariant.3 c.put_series.ensures long in (
      same_len_mid l.at (l.at + bytes - l.at) l.out c.put_series.new.out (omega (arith, c.put_series.auto)) ∙ l.invariant.0,
      omega (arith, l.invariant.1, next, ap (λ (n : ℕ). bytes * n) (add-one l.series)),
      ap length (sym (series_next w l.series)) ∙ put.0,
      put.1 ∙ ap (λ (t : List ℕ). t ++ drop (l.at + bytes) d) (series_next w l.series),
    )

pub returns : goal.returns
returns c =
    let w = c.args.tables.image.words.now in
    let d = c.args.out.now in
    let l = c.loop-series in
    let count : c.series_count-count.result ≡ series_count w = c.series_count-count.ensures ∙ ap series_for (ap length (rw c.pointed.ensures.1 at c.sites.ensures) ∙ sites_count c.args.tables.pointer_stage) in
    let all : l.series ≡ series_count w = omega (arith, count, l.auto.series-end, c.loop-series-test.false) in
    let end : l.at ≡ length d = l.invariant.1 ∙ ap (λ (n : ℕ). c.args.bytes * n) all ∙ sym c.requires.bytes_value.1 in
    l.invariant.3 ∙ ap (λ (n : ℕ). series_to w n ++ drop l.at d) all ∙ ap (λ (t : List ℕ). series_to w (series_count w) ++ t) (ap (λ (n : ℕ). drop n d) end ∙ drop-length d) ∙ append-nil (series_to w (series_count w)) ∙ text_is w
