-- `put_chart` meets its contract. The invariant: the series before this one stand before `at`, and the rest is as it was.
use mathlib.Core.List.{◌++◌}
use mathlib.Core.Path.{◌≡◌}
use Prim.Native.Nat.{◌*◌}
use lib.ListN.{length, drop}
use Rattle.sir_answers.proofs.chart.ChartTexts.{series_to}
use Rattle.sir_answers.proofs.chart.put_chart.Given as goal

abbrev pub invariant-loop-series : goal.invariant-loop-series
invariant-loop-series l = (length l.out ≡ length l.initial.out) × (l.at ≡ l.bytes * l.series) × (length (series_to l.tables.image.words.now l.series) ≡ l.at) × (l.out ≡ series_to l.tables.image.words.now l.series ++ drop l.at l.initial.out)
