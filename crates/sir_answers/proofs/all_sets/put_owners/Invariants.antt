-- `put_owners` meets its contract. The invariant: the answers from id v on are to be put.
use mathlib.Core.List.{◌∷◌}
use Prim.Native.Nat.{◌*◌, ◌≤◌}
use lib.ListN.{length}
use Rattle.plank_core.specs.Lists.{bind, range}
use Rattle.sir_data.specs.Records.{locals}
use Rattle.sir_analyses.specs.All.{all}
use Rattle.sir_analyses.specs.Answers.{owner_answer}
use Rattle.sir_analyses.proofs.answers.Writing.{Putting}
use Rattle.sir_answers.proofs.all_sets.put_owners.Given as goal

abbrev pub invariant-loop-v : goal.invariant-loop-v
invariant-loop-v l = (l.m ≤ 2 * l.v) × Putting 0 (all locals owner_answer l.pointed.image.words.now) l.initial.out (bind (range l.v l.count) (λ i. length (owner_answer l.pointed.image.words.now i) ∷ owner_answer l.pointed.image.words.now i)) l.out l.m
