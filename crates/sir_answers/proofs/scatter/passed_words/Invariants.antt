-- `passed_words` meets its contract. The invariant: the first cursors are numbers of words, the others as they were.
use mathlib.Core.Path.{◌≡◌}
use Prim.Native.Nat.{ℕ, ◌-◌, ◌^◌, ◌≤◌, ◌<◌}
use Rattle.sir_answers.specs.inner.Scatter.{number_at}
use Rattle.sir_answers.proofs.scatter.passed_words.Given as goal

abbrev pub invariant-loop-cursor : goal.invariant-loop-cursor
invariant-loop-cursor l = ((u : ℕ) → u < l.cursor-index → number_at l.cursors u ≡ 2 ^ 59 - number_at l.initial.cursors u) × ((u : ℕ) → l.cursor-index ≤ u → number_at l.cursors u ≡ number_at l.initial.cursors u)
