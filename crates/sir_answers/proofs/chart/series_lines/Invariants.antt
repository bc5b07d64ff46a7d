-- `series_lines` meets its contract. The invariant: the lines of the blocks before this one are counted.
use mathlib.Core.Path.{◌≡◌}
use Prim.Native.Nat.{◌*◌, ◌≤◌}
use lib.ListN.{take}
use Rattle.sir_analyses.specs.Chart.{lines_of}
use Rattle.sir_answers.proofs.chart.series_lines.Given as goal

abbrev pub invariant-loop-b : goal.invariant-loop-b
invariant-loop-b l = (l.n ≡ lines_of l.visited.image.words.now (take l.b-index l.order)) × (l.n ≤ 1025 * l.b-index)
