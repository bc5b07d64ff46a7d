-- `visit_function` and `visit_block`, which call one another: unseen functions plus unseen blocks fall. The loops' invariants: some of
-- what a block calls, or of its successors, is visited, the rest is left.
use Rattle.std.proofs.Common.{ℕ, ◌+◌, ◌≤◌, List, drop}
use Rattle.plank_core.specs.Lists.{range, bind}
use Rattle.sir_data.specs.Records.{functions, blocks, callees, successors}
use Rattle.sir_analyses.specs.Order.{visit_function, visit_block}
use Rattle.sir_analyses.specs.inner.Visiting.{unseen}
use Rattle.sir_analyses.proofs.reverse_post_order.Visiting.{Going}
use Rattle.sir_analyses.proofs.reverse_post_order.+visit_block_visit_function.Given as goal

abbrev pub fuel : List ℕ → ℕ
fuel w = functions w + blocks w

abbrev pub decreases-visit_block : goal.decreases-visit_block
decreases-visit_block l = unseen l.image.words.now l.seen.now

abbrev pub decreases-visit_function : goal.decreases-visit_function
decreases-visit_function l = unseen l.image.words.now l.seen.now

abbrev pub invariant-visit_block-calls : goal.invariant-visit_block-calls
invariant-visit_block-calls l =
    (l.initial.o ≤ l.o) × Going l.image.words.now (visit_function (fuel l.image.words.now) l.image.words.now) (bind (range l.initial.o l.o-end) (callees l.image.words.now)) l.initial.seen l.initial.postorder l.initial.m (bind (range l.o l.o-end) (callees l.image.words.now)) l.seen l.postorder l.m

abbrev pub invariant-visit_block-successors : goal.invariant-visit_block-successors
invariant-visit_block-successors l =
    Going l.image.words.now (visit_block (fuel l.image.words.now) l.image.words.now l.f.0) (successors l.image.words.now l.b.0) l.initial.seen l.initial.postorder l.initial.m (drop l.i (successors l.image.words.now l.b.0)) l.seen l.postorder l.m
