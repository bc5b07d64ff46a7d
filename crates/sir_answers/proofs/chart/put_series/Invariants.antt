-- `put_series` meets its contract. The invariant: the blocks before this one stand before `at`, and the rest is as it was.
use mathlib.Core.List.{◌++◌}
use mathlib.Core.Path.{◌≡◌}
use Prim.Native.Nat.{◌*◌}
use lib.ListN.{length, take, drop}
use Rattle.plank_core.specs.Lists.{bind}
use Rattle.sir_analyses.specs.Chart.{block_lines, text_of, lines_of}
use Rattle.sir_answers.proofs.chart.put_series.Given as goal

abbrev pub invariant-loop-b : goal.invariant-loop-b
invariant-loop-b l = (length l.out ≡ length l.initial.out) × (l.at ≡ 73 * lines_of l.tables.image.words.now (take l.b-index l.order)) × (length (text_of (bind (take l.b-index l.order) (block_lines l.tables.image.words.now l.series))) ≡ l.at)
    × (l.out ≡ text_of (bind (take l.b-index l.order) (block_lines l.tables.image.words.now l.series)) ++ drop l.at l.initial.out)
