-- What the code's enum of questions stands for: the own rules of each, and the bytes that answer it.
use Rattle.std.specs.Prelude.{List, ℕ, length}
use Rattle.sir_data.specs.Records.{blocks, locals}
use Rattle.sir_analyses.specs.All.{all}
use Rattle.sir_analyses.specs.Allocation.{allocs}
use Rattle.sir_analyses.specs.Answers.{order_answer, predecessors_answer, uses_answer, entry_answer, exit_answer, rounds_answer, intervals_answer, allocation_answer, owner_answer}
use Rattle.sir_analyses.specs.Calls.{Rules, no_rules, known, in_words}
use Rattle.sir_analyses.specs.Chart.{chart_text}
use Rattle.sir_analyses.specs.Open.{open_at, open_rules, crossing, crossing_rules}
use Rattle.sir_answers.specs.declared.questions.LiveQuestion.{LiveQuestion}
use Rattle.sir_answers.specs.declared.questions.OrderQuestion.{OrderQuestion}
use Rattle.sir_answers.specs.declared.questions.PointerQuestion.{PointerQuestion}
use Rattle.sir_answers.specs.declared.questions.Question.{Question}

-- the own rules of a question
abbrev pub own_rules : Question → List ℕ → Rules
own_rules (Question.OfOrder OrderQuestion.Order) = no_rules
own_rules (Question.OfOrder (OrderQuestion.Predecessors b)) = known blocks b.0
own_rules (Question.OfOrder (OrderQuestion.Uses v)) = known locals v.0
own_rules (Question.OfOrder OrderQuestion.AllPredecessors) = no_rules
own_rules (Question.OfOrder OrderQuestion.AllUses) = no_rules
own_rules (Question.OfLiveness (LiveQuestion.EntrySet b)) = known blocks b.0
own_rules (Question.OfLiveness (LiveQuestion.ExitSet b)) = known blocks b.0
own_rules (Question.OfLiveness (LiveQuestion.Intervals v)) = known locals v.0
own_rules (Question.OfLiveness LiveQuestion.Rounds) = no_rules
own_rules (Question.OfLiveness LiveQuestion.AllEntrySets) = no_rules
own_rules (Question.OfLiveness LiveQuestion.AllExitSets) = no_rules
own_rules (Question.OfLiveness LiveQuestion.AllIntervals) = no_rules
own_rules (Question.OfPointers (PointerQuestion.Allocation a)) = known (λ w. length (allocs w)) a.0
own_rules (Question.OfPointers (PointerQuestion.Owner v)) = known locals v.0
own_rules (Question.OfPointers PointerQuestion.AllAllocations) = no_rules
own_rules (Question.OfPointers PointerQuestion.AllOwners) = no_rules
own_rules (Question.OfPointers (PointerQuestion.Open b o)) = open_rules b.0 o.0
own_rules (Question.OfPointers (PointerQuestion.Crossing a c)) = crossing_rules a.0 c.0
own_rules Question.Chart = no_rules

-- the bytes that answer a question
abbrev pub answer_bytes : Question → List ℕ → List ℕ
answer_bytes (Question.OfOrder OrderQuestion.Order) = in_words order_answer
answer_bytes (Question.OfOrder (OrderQuestion.Predecessors b)) = in_words (λ w. predecessors_answer w b.0)
answer_bytes (Question.OfOrder (OrderQuestion.Uses v)) = in_words (λ w. uses_answer w v.0)
answer_bytes (Question.OfOrder OrderQuestion.AllPredecessors) = in_words (all blocks predecessors_answer)
answer_bytes (Question.OfOrder OrderQuestion.AllUses) = in_words (all locals uses_answer)
answer_bytes (Question.OfLiveness (LiveQuestion.EntrySet b)) = in_words (λ w. entry_answer w b.0)
answer_bytes (Question.OfLiveness (LiveQuestion.ExitSet b)) = in_words (λ w. exit_answer w b.0)
answer_bytes (Question.OfLiveness (LiveQuestion.Intervals v)) = in_words (λ w. intervals_answer w v.0)
answer_bytes (Question.OfLiveness LiveQuestion.Rounds) = in_words rounds_answer
answer_bytes (Question.OfLiveness LiveQuestion.AllEntrySets) = in_words (all blocks entry_answer)
answer_bytes (Question.OfLiveness LiveQuestion.AllExitSets) = in_words (all blocks exit_answer)
answer_bytes (Question.OfLiveness LiveQuestion.AllIntervals) = in_words (all locals intervals_answer)
answer_bytes (Question.OfPointers (PointerQuestion.Allocation a)) = in_words (λ w. allocation_answer w a.0)
answer_bytes (Question.OfPointers (PointerQuestion.Owner v)) = in_words (λ w. owner_answer w v.0)
answer_bytes (Question.OfPointers PointerQuestion.AllAllocations) = in_words (all (λ x. length (allocs x)) allocation_answer)
answer_bytes (Question.OfPointers PointerQuestion.AllOwners) = in_words (all locals owner_answer)
answer_bytes (Question.OfPointers (PointerQuestion.Open b o)) = in_words (λ w. open_at w b.0 o.0)
answer_bytes (Question.OfPointers (PointerQuestion.Crossing a c)) = in_words (λ w. crossing w a.0 c.0)
answer_bytes Question.Chart = chart_text
