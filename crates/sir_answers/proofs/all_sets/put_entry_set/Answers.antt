-- `put_entry_set` meets its contract.
use mathlib.Core.Path.{sym, ap, ◌∙◌}
use mathlib.Core.List.{List, ◌∷◌}
use Prim.Native.Nat.{ℕ}
use lib.ListN.{length}
use Rattle.sir_analyses.proofs.local_liveness.SetAnswers.{no_entry}
use Rattle.sir_analyses.proofs.answers.Writing.{puts_as}
use Rattle.sir_answers.proofs.all_sets.put_entry_set.Goals as goal

pub returns-then-not-is_visited : goal.returns-then-not-is_visited
returns-then-not-is_visited c =
    let e = no_entry c.args.analysed.image.words.now c.args.b.0 (sym (c.args.analysed.visit_stage.visited_is c.args.b.0 c.requires.b_bound.0) ∙ sym (rw c.visited.ensures.1 at c.is_visited.ensures) ∙ c.if-not-is_visited.true) in
    (c.put_set.ensures.0, puts_as (ap (λ (l : List ℕ). length l ∷ l) e) c.put_set.ensures.1)

pub returns : goal.returns
returns c =
    let e = c.args.analysed.liveness_stage.sets.entry_is c.args.b.0 c.requires.b_bound.0 (sym (c.args.analysed.visit_stage.visited_is c.args.b.0 c.requires.b_bound.0) ∙ sym (rw c.visited.ensures.1 at c.is_visited.ensures) ∙ c.if-not-is_visited.false) c.compute_liveness_at_block_entry-set.result.words c.compute_liveness_at_block_entry-set.ensures.1 in
    (c.put_set-2.ensures.0, puts_as (ap (λ (l : List ℕ). length l ∷ l) e) c.put_set-2.ensures.1)
