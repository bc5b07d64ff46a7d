-- `own_refusal` meets its contract.
use mathlib.Core.Path.{sym, ap, ◌∙◌}
use lib.ListN.{length}
use Rattle.sir_data.specs.Rules.{first}
use Rattle.sir_answers.specs.inner.Questions.{own_rules}
use Rattle.sir_answers.specs.declared.questions.LiveQuestion.{LiveQuestion}
use Rattle.sir_answers.specs.declared.questions.OrderQuestion.{OrderQuestion}
use Rattle.sir_answers.specs.declared.questions.PointerQuestion.{PointerQuestion}
use Rattle.sir_answers.specs.declared.questions.Question.{Question}
use Rattle.sir_analyses.proofs.allocation_liveness.Discovery.{sites_long}
use Rattle.sir_answers.proofs.questions.own_refusal.Goals as goal

pub returns-in-Predecessors : goal.returns-in-Predecessors
returns-in-Predecessors c =
    let w = c.args.image.words.now in
    (rw c.block_count.ensures at c.id_refusal.ensures) ∙ ap (λ (q : OrderQuestion). first (own_rules (Question.OfOrder q) w)) (sym c.in-Predecessors.is) ∙ ap (λ (q : Question). first (own_rules q w)) (sym c.in-OfOrder.is)

pub returns-in-Uses : goal.returns-in-Uses
returns-in-Uses c =
    let w = c.args.image.words.now in
    (rw c.local_count.ensures at c.id_refusal-in-Uses.ensures) ∙ ap (λ (q : OrderQuestion). first (own_rules (Question.OfOrder q) w)) (sym c.in-Uses.is) ∙ ap (λ (q : Question). first (own_rules q w)) (sym c.in-OfOrder.is)

pub returns-in-EntrySet : goal.returns-in-EntrySet
returns-in-EntrySet c =
    let w = c.args.image.words.now in
    (rw c.block_count-in-EntrySet.ensures at c.id_refusal-in-EntrySet.ensures) ∙ ap (λ (q : LiveQuestion). first (own_rules (Question.OfLiveness q) w)) (sym c.in-EntrySet.is) ∙ ap (λ (q : Question). first (own_rules q w)) (sym c.in-OfLiveness.is)

pub returns-in-ExitSet : goal.returns-in-ExitSet
returns-in-ExitSet c =
    let w = c.args.image.words.now in
    (rw c.block_count-in-ExitSet.ensures at c.id_refusal-in-ExitSet.ensures) ∙ ap (λ (q : LiveQuestion). first (own_rules (Question.OfLiveness q) w)) (sym c.in-ExitSet.is) ∙ ap (λ (q : Question). first (own_rules q w)) (sym c.in-OfLiveness.is)

pub returns-in-Intervals : goal.returns-in-Intervals
returns-in-Intervals c =
    let w = c.args.image.words.now in
    (rw c.local_count-in-Intervals.ensures at c.id_refusal-in-Intervals.ensures) ∙ ap (λ (q : LiveQuestion). first (own_rules (Question.OfLiveness q) w)) (sym c.in-Intervals.is) ∙ ap (λ (q : Question). first (own_rules q w)) (sym c.in-OfLiveness.is)

pub returns-in-Allocation : goal.returns-in-Allocation
returns-in-Allocation c =
    let w = c.args.image.words.now in
    (rw (ap length c.requires.sites_value.0 ∙ sites_long w) at c.id_refusal-in-Allocation.ensures) ∙ ap (λ (q : PointerQuestion). first (own_rules (Question.OfPointers q) w)) (sym c.in-Allocation.is) ∙ ap (λ (q : Question). first (own_rules q w)) (sym c.in-OfPointers.is)

pub returns-in-Owner : goal.returns-in-Owner
returns-in-Owner c =
    let w = c.args.image.words.now in
    (rw c.local_count-in-Owner.ensures at c.id_refusal-in-Owner.ensures) ∙ ap (λ (q : PointerQuestion). first (own_rules (Question.OfPointers q) w)) (sym c.in-Owner.is) ∙ ap (λ (q : Question). first (own_rules q w)) (sym c.in-OfPointers.is)

pub returns-in-Open : goal.returns-in-Open
returns-in-Open c =
    let w = c.args.image.words.now in
    c.open_refusal.ensures ∙ ap (λ (q : PointerQuestion). first (own_rules (Question.OfPointers q) w)) (sym c.in-Open.is) ∙ ap (λ (q : Question). first (own_rules q w)) (sym c.in-OfPointers.is)

pub returns-in-Crossing : goal.returns-in-Crossing
returns-in-Crossing c =
    let w = c.args.image.words.now in
    (rw (ap length c.requires.sites_value.0 ∙ sites_long w) at c.crossing_refusal.ensures) ∙ ap (λ (q : PointerQuestion). first (own_rules (Question.OfPointers q) w)) (sym c.in-Crossing.is) ∙ ap (λ (q : Question). first (own_rules q w)) (sym c.in-OfPointers.is)
