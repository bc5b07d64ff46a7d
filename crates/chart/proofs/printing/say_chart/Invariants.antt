-- `say_chart` meets its contract. The invariant: the slice keeps its length.
use mathlib.Core.Path.{◌≡◌}
use lib.ListN.{length}
use Rattle.chart.proofs.printing.say_chart.Given as goal

abbrev pub invariant-loop-series : goal.invariant-loop-series
invariant-loop-series g l = length l.out ≡ 74825
