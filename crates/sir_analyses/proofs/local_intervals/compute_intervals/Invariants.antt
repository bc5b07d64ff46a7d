-- `compute_intervals` meets its contract. The invariant: the blocks left are to be put.
use mathlib.Core.Path.{◌≡◌}
use mathlib.Core.List.{List}
use Prim.Native.Nat.{ℕ, ◌*◌, ◌≤◌}
use lib.ListN.{length, drop}
use Rattle.plank_core.specs.Lists.{bind}
use Rattle.sir_analyses.specs.Order.{blocks_rpo}
use Rattle.sir_analyses.specs.Liveness.{exit_set, block_intervals}
use Rattle.sir_analyses.specs.Answers.{interval_words}
use Rattle.sir_analyses.proofs.answers.Writing.{Putting}
use Rattle.sir_analyses.proofs.local_intervals.compute_intervals.Given as goal

-- the words of one block
abbrev pub in_block : List ℕ → ℕ → ℕ → List ℕ
in_block w v b = interval_words (block_intervals w (exit_set w b) v b)

abbrev pub invariant-loop-id : goal.invariant-loop-id
invariant-loop-id l = (length l.run ≡ 3075) × (l.m ≤ 3075 * l.id-index) × Putting 0 (bind (blocks_rpo l.analysed.image.words.now) (in_block l.analysed.image.words.now l.v.0)) l.initial.out (bind (drop l.id-index l.order) (in_block l.analysed.image.words.now l.v.0)) l.out l.m
