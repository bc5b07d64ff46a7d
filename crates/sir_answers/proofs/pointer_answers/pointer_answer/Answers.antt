-- `pointer_answer` meets its contract.
use mathlib.Core.Path.{ap, ◌∙◌}
use mathlib.Core.List.{[], ◌∷◌}
use Prim.Native.Nat.{ℕ}
use Rattle.plank_core.specs.Lists.{bind}
use Rattle.sir_data.specs.Pages.{bytes_of}
use Rattle.sir_data.specs.Records.{locals}
use Rattle.sir_analyses.specs.Calls.{answered}
use Rattle.sir_answers.specs.declared.questions.Question.{Question}
use Rattle.sir_analyses.proofs.answers.Calls.{known_below}
use Rattle.sir_answers.proofs.questions.Asked.{own_as, answered_as}
use Rattle.sir_answers.proofs.questions.OpenRules.{open_held}
use Rattle.sir_answers.proofs.pointer_answers.pointer_answer.Goals as goal

pub open_answer-requires : goal.open_answer-requires
open_answer-requires c =
    let w = c.args.accepted.image.words.now in
    record { b_bound = open_held _ _ w (own_as Question.OfPointers w c.in-Open.is c.requires.rules_value) }

pub returns-in-Allocation : goal.returns-in-Allocation
returns-in-Allocation c =
    let a = c.args in
    c.one_allocation.ensures ∙ answered_as Question.OfPointers a.accepted.image.words.now c.in-Allocation.is a.out.now

pub returns-in-Owner : goal.returns-in-Owner
returns-in-Owner c =
    let a = c.args in
    let w = a.accepted.image.words.now in
    c.words_answer.ensures ∙ ap (λ (n : ℕ). answered (bind (n ∷ []) bytes_of) a.out.now) (c.owner_of.ensures ∙ c.compute_pointers.ensures.discovered.owner_is _ (known_below locals _ w (own_as Question.OfPointers w c.in-Owner.is c.requires.rules_value))) ∙ answered_as Question.OfPointers w c.in-Owner.is a.out.now

pub returns-in-AllAllocations : goal.returns-in-AllAllocations
returns-in-AllAllocations c =
    let a = c.args in
    c.every_allocation.ensures ∙ answered_as Question.OfPointers a.accepted.image.words.now c.in-AllAllocations.is a.out.now

pub returns-in-AllOwners : goal.returns-in-AllOwners
returns-in-AllOwners c =
    let a = c.args in
    c.all_owners_answer.ensures ∙ answered_as Question.OfPointers a.accepted.image.words.now c.in-AllOwners.is a.out.now

pub returns-in-Open : goal.returns-in-Open
returns-in-Open c =
    let a = c.args in
    c.open_answer.ensures ∙ answered_as Question.OfPointers a.accepted.image.words.now c.in-Open.is a.out.now

pub returns-in-Crossing : goal.returns-in-Crossing
returns-in-Crossing c =
    let a = c.args in
    c.crossing_answer.ensures ∙ answered_as Question.OfPointers a.accepted.image.words.now c.in-Crossing.is a.out.now
