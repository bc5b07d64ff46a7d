-- `total_words` meets its contract. The invariant: so many words do the first segments take.
use mathlib.Core.Path.{◌≡◌}
use Rattle.sir_answers.specs.inner.Scatter.{number_at, base}
use Rattle.sir_answers.proofs.scatter.total_words.Given as goal

abbrev pub invariant-loop-count : goal.invariant-loop-count
invariant-loop-count l = (l.n ≡ base (number_at l.counts) l.count-index)
