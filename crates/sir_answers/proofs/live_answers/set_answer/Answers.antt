-- `set_answer` meets its contract.
use mathlib.Core.Path.{ap, ◌∙◌}
use mathlib.Core.List.{List}
use Prim.Native.Nat.{ℕ}
use lib.ListN.{replicate}
use Rattle.plank_core.specs.Lists.{bind}
use Rattle.sir_data.specs.Pages.{bytes_of}
use Rattle.sir_analyses.specs.Calls.{answered}
use Rattle.sir_analyses.proofs.local_liveness.SetAnswers.{front_members}
use Rattle.sir_answers.proofs.live_answers.set_answer.Goals as goal

pub returns : goal.returns
returns c =
    c.words_answer.ensures ∙ ap (λ (l : List ℕ). answered (bind l bytes_of) c.args.out.now) (front_members c.args.set.now (replicate 512 0) c.list-n.ensures.0 c.list-n.ensures.1)
