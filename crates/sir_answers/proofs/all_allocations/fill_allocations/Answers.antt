-- `fill_allocations` meets its contract.
use mathlib.Core.Path.{◌≡◌, sym, ap, subst, ◌∙◌}
use mathlib.Core.List.{List}
use Prim.Native.Nat.{ℕ, ◌*◌}
use lib.ListN.{length}
use Rattle.std.proofs.Common.{rules}
use Rattle.std.proofs.iter.Serving.{serving}
use Rattle.sir_analyses.specs.Allocation.{allocs}
use Rattle.sir_analyses.specs.All.{all}
use Rattle.sir_analyses.specs.Answers.{allocation_answer}
use Rattle.sir_answers.specs.inner.Scatter.{Counts}
use Rattle.sir_answers.proofs.all_allocations.AllocationPieces.{records_small}
use Rattle.sir_answers.proofs.scatter.AllAnswers.{counts_fit, counts_total}
use Rattle.sir_answers.proofs.all_allocations.fill_allocations.Goals as goal

pub segments_answer-requires-clause-total : goal.segments_answer-requires-clause-total
segments_answer-requires-clause-total c =
    counts_fit c.count_allocations.ensures (records_small c.args.tables.pointer_stage)

pub segments_answer-requires-clause-callable : goal.segments_answer-requires-clause-callable
segments_answer-requires-clause-callable c =
    λ s t e l.
    let w = c.args.tables.image.words.now in
    let k : Counts (length (allocs w)) (allocation_answer w) s.now = subst (λ (x : List ℕ). Counts (length (allocs w)) (allocation_answer w) x) (sym e) c.count_allocations.ensures in
    let m : length t.now ≡ 4 * length (all (λ w. length (allocs w)) allocation_answer w) = l ∙ ap (λ (i : ℕ). 4 * i) (counts_total c.count_allocations.ensures) in
    search (rules, serving)

pub returns : goal.returns
returns c =
    let w = c.args.tables.image.words.now in
    c.segments_answer.ensures (all (λ w. length (allocs w)) allocation_answer w) (sym (counts_total c.count_allocations.ensures)) (λ s t u v e l p. search rules)
