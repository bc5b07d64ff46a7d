-- `put_exit_sets` meets its contract. The invariant: the answers from id b on are to be put.
use mathlib.Core.List.{◌∷◌}
use Prim.Native.Nat.{◌*◌, ◌≤◌}
use lib.ListN.{length}
use Rattle.plank_core.specs.Lists.{bind, range}
use Rattle.sir_data.specs.Records.{blocks}
use Rattle.sir_analyses.specs.All.{all}
use Rattle.sir_analyses.specs.Answers.{exit_answer}
use Rattle.sir_analyses.proofs.answers.Writing.{Putting}
use Rattle.sir_answers.proofs.all_sets.put_exit_sets.Given as goal

abbrev pub invariant-loop-b : goal.invariant-loop-b
invariant-loop-b l = (l.m ≤ 513 * l.b) × Putting 0 (all blocks exit_answer l.sets.image.words.now) l.initial.out (bind (range l.b l.count) (λ i. length (exit_answer l.sets.image.words.now i) ∷ exit_answer l.sets.image.words.now i)) l.out l.m
