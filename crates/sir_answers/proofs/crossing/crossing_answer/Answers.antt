-- `crossing_answer` meets its contract.
use mathlib.Core.Path.{◌≡◌, ap, ◌∙◌}
use mathlib.Core.Bool.{true, ◌||◌}
use mathlib.Core.List.{List}
use Prim.Native.Nat.{ℕ}
use native.Mathlib.Omega.{arith}
use Rattle.plank_core.specs.Lists.{bind}
use Rattle.plank_core.specs.laws.Lists.{or_true_left, or_true_right}
use Rattle.sir_data.specs.Pages.{bytes_of}
use Rattle.sir_analyses.specs.Allocation.{marked}
use Rattle.sir_analyses.specs.Calls.{answered}
use Rattle.sir_analyses.proofs.allocation_answers.AllocationWords.{mark_told}
use Rattle.sir_analyses.proofs.allocation_liveness.PointerTables.{allocations_few}
use Rattle.sir_answers.proofs.crossing.FirstCommon.{crossing_marked}
use Rattle.sir_answers.proofs.crossing.crossing_answer.Goals as goal
use Rattle.sir_answers.proofs.crossing.crossing_answer.Goals.{then-is_marked-via-then-is_marked, then-is_marked-via-else-is_marked+then-is_marked-2}

pub is_marked-requires : goal.is_marked-requires
is_marked-requires c =
    omega (arith, c.requires.one_in_bounds.0, allocations_few c.args.followed.pointer_stage)

pub is_marked-requires-else-is_marked : goal.is_marked-requires-else-is_marked
is_marked-requires-else-is_marked c =
    omega (arith, c.requires.one_in_bounds.1, allocations_few c.args.followed.pointer_stage)

pub returns-then-is_marked : goal.returns-then-is_marked
returns-then-is_marked c =
    let w = c.args.followed.image.words.now in
    let a = c.args.one.0 in
    let d = c.args.other.0 in
    let found = c.args.followed.pointer_stage.discovered in
    let known = c.requires.one_in_bounds in
    let either : (marked w a || marked w d) ≡ true =
    elim c.then-is_marked.branch [
      | then-is_marked-via-then-is_marked x ↦ or_true_left (marked w a) (marked w d) (mark_told found known.0 (rw c.pointed-pointed.ensures.1 at c.is_marked.ensures) x.if-is_marked.true)
      | then-is_marked-via-else-is_marked+then-is_marked-2 x ↦ or_true_right (marked w a) (marked w d) (mark_told found known.1 (rw c.pointed-pointed.ensures.1 at x.is_marked-else-is_marked.ensures) x.if-is_marked-2.true)
    ] in
    c.words_answer.ensures ∙ ap (λ (l : List ℕ). answered (bind l bytes_of) c.args.out.now) (crossing_marked w a d either)

pub returns : goal.returns
returns c =
    c.words_answer-2.ensures ∙ ap (λ (l : List ℕ). answered (bind l bytes_of) c.args.out.now) c.unmarked_crossing-told.ensures
