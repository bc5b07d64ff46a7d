-- `open_answer` meets its contract.
use mathlib.Core.Path.{sym, ap, ◌∙◌}
use mathlib.Core.List.{List}
use Prim.Native.Nat.{ℕ}
use Rattle.plank_core.specs.Lists.{bind}
use Rattle.sir_data.specs.Pages.{bytes_of}
use Rattle.sir_analyses.specs.Calls.{answered}
use Rattle.sir_answers.proofs.open_allocations.OpenOwners.{open_unvisited}
use Rattle.sir_answers.proofs.open_allocations.open_answer.Goals as goal

pub returns-then-not-is_visited : goal.returns-then-not-is_visited
returns-then-not-is_visited c =
    let w = c.args.followed.image.words.now in
    let b = c.args.b.0 in
    c.words_answer.ensures
    ∙ ap (λ (l : List ℕ). answered (bind l bytes_of) c.args.out.now) (open_unvisited c.args.followed.visit_stage.well_formed b c.args.o.0 (sym (c.args.followed.visit_stage.visited_is b c.requires.b_bound.0) ∙ sym (rw c.visited.ensures.1 at c.is_visited.ensures) ∙ c.if-not-is_visited.true))
