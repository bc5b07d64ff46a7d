-- `other_locals` meets its contract. The invariant: the set has those of the locals before v that are not of the series.
use mathlib.Core.Bool.{not}
use mathlib.Core.Path.{◌≡◌}
use lib.ListN.{length}
use Rattle.sir_analyses.proofs.allocation_answers.AllocationWords.{Below}
use Rattle.sir_answers.specs.inner.Columns.{in_series}
use Rattle.sir_answers.specs.inner.AllocationPieces.{unmarked_owner}
use Rattle.sir_answers.proofs.chart_columns.other_locals.Given as goal

abbrev pub invariant-loop-v : goal.invariant-loop-v
invariant-loop-v l = (length l.others ≡ 8) × Below (λ u. not (in_series l.series (unmarked_owner l.pointers u))) l.v l.others
