-- `entry_answer` meets its contract.
use mathlib.Core.Path.{sym, ap, ◌∙◌}
use mathlib.Core.List.{List}
use Prim.Native.Nat.{ℕ}
use Rattle.plank_core.specs.Lists.{bind}
use Rattle.sir_data.specs.Pages.{bytes_of}
use Rattle.sir_analyses.specs.Calls.{answered}
use Rattle.sir_analyses.proofs.local_liveness.SetAnswers.{no_entry}
use Rattle.sir_answers.proofs.live_answers.entry_answer.Goals as goal

pub returns-then-not-is_visited : goal.returns-then-not-is_visited
returns-then-not-is_visited c =
    c.set_answer.ensures ∙ ap (λ (l : List ℕ). answered (bind l bytes_of) c.args.out.now) (no_entry c.args.analysed.image.words.now c.args.b.0 (sym (c.args.analysed.visit_stage.visited_is c.args.b.0 c.requires.b_bound) ∙ sym (rw c.visited.ensures.1 at c.is_visited.ensures) ∙ c.if-not-is_visited.true))

pub returns : goal.returns
returns c =
    c.set_answer-2.ensures ∙ ap (λ (l : List ℕ). answered (bind l bytes_of) c.args.out.now) (c.args.analysed.liveness_stage.sets.entry_is c.args.b.0 c.requires.b_bound (sym (c.args.analysed.visit_stage.visited_is c.args.b.0 c.requires.b_bound) ∙ sym (rw c.visited.ensures.1 at c.is_visited.ensures) ∙ c.if-not-is_visited.false) c.compute_liveness_at_block_entry-set.result.words c.compute_liveness_at_block_entry-set.ensures.1)
