-- `answer_from_sets` meets its contract.
use mathlib.Core.Path.{ap, ◌∙◌}
use mathlib.Core.List.{List, [], ◌∷◌}
use Prim.Native.Nat.{ℕ}
use Rattle.plank_core.specs.Lists.{bind}
use Rattle.sir_data.specs.Pages.{bytes_of}
use Rattle.sir_data.specs.Records.{blocks}
use Rattle.sir_analyses.specs.Calls.{answered}
use Rattle.sir_answers.specs.declared.questions.Question.{Question}
use Rattle.sir_analyses.proofs.answers.Calls.{known_below}
use Rattle.sir_answers.proofs.questions.Asked.{own_as, answered_as}
use Rattle.sir_analyses.proofs.local_liveness.SetAnswers.{row_answer}
use Rattle.sir_answers.proofs.live_answers.answer_from_sets.Goals as goal

pub set_answer-requires : goal.set_answer-requires
set_answer-requires c =
    (row_answer c.args.analysed.visit_stage.well_formed c.args.analysed.liveness_stage.sets (known_below blocks _ c.args.analysed.image.words.now (own_as Question.OfLiveness c.args.analysed.image.words.now c.in-ExitSet.is c.requires.words_value)) (rw (c.exits.ensures, c.live_sets.ensures.1) at c.row_of.ensures)).0

pub returns-in-EntrySet : goal.returns-in-EntrySet
returns-in-EntrySet c =
    c.entry_answer.ensures ∙ answered_as Question.OfLiveness c.args.analysed.image.words.now c.in-EntrySet.is c.args.out.now

pub returns-in-ExitSet : goal.returns-in-ExitSet
returns-in-ExitSet c =
    let a = c.args in
    c.set_answer.ensures ∙ ap (λ (l : List ℕ). answered (bind l bytes_of) a.out.now) (row_answer c.args.analysed.visit_stage.well_formed c.args.analysed.liveness_stage.sets (known_below blocks _ a.analysed.image.words.now (own_as Question.OfLiveness a.analysed.image.words.now c.in-ExitSet.is c.requires.words_value)) (rw (c.exits.ensures, c.live_sets.ensures.1) at c.row_of.ensures)).1 ∙ answered_as Question.OfLiveness a.analysed.image.words.now c.in-ExitSet.is a.out.now

pub returns-in-Intervals : goal.returns-in-Intervals
returns-in-Intervals c =
    c.intervals_answer.ensures ∙ answered_as Question.OfLiveness c.args.analysed.image.words.now c.in-Intervals.is c.args.out.now

pub returns-in-Rounds : goal.returns-in-Rounds
returns-in-Rounds c =
    let a = c.args in
    c.words_answer.ensures ∙ ap (λ (n : ℕ). answered (bind (n ∷ []) bytes_of) a.out.now) c.requires.done_value ∙ answered_as Question.OfLiveness a.analysed.image.words.now c.in-Rounds.is a.out.now

pub returns-in-AllEntrySets : goal.returns-in-AllEntrySets
returns-in-AllEntrySets c =
    c.all_entry_sets_answer.ensures ∙ answered_as Question.OfLiveness c.args.analysed.image.words.now c.in-AllEntrySets.is c.args.out.now

pub returns-in-AllExitSets : goal.returns-in-AllExitSets
returns-in-AllExitSets c =
    (rw c.live_sets-in-AllExitSets.ensures.0 at c.all_exit_sets_answer.ensures) ∙ answered_as Question.OfLiveness c.args.analysed.image.words.now c.in-AllExitSets.is c.args.out.now

pub returns-in-AllIntervals : goal.returns-in-AllIntervals
returns-in-AllIntervals c =
    c.all_intervals_answer.ensures ∙ answered_as Question.OfLiveness c.args.analysed.image.words.now c.in-AllIntervals.is c.args.out.now
