-- `crossing_of_reaches` meets its contract. The invariant: the blocks from b on decide.
use mathlib.Core.Path.{◌≡◌}
use Prim.Native.Nat.{ℕ}
use Rattle.sir_analyses.specs.Open.{crossing}
use Rattle.sir_answers.specs.inner.LiveAround.{ReachOf}
use Rattle.sir_answers.proofs.crossing.FirstCommon.{crossing_from}
use Rattle.sir_answers.proofs.crossing.crossing_of_reaches.Given as goal

abbrev pub invariant-loop-b : goal.invariant-loop-b
invariant-loop-b l = (a c : ℕ) → ReachOf l.analysed.image.words.now a l.one → ReachOf l.analysed.image.words.now c l.other → crossing l.analysed.image.words.now a c ≡ crossing_from l.analysed.image.words.now a c l.b
