-- `marked_answer` meets its contract.
use mathlib.Core.Path.{refl, subst}
use Rattle.sir_analyses.proofs.answers.Calls.{answered_whole}
use Prim.Native.Nat.{ℕ}
use lib.ListN.{length}
use Rattle.std.proofs.Common.{Ok}
use Rattle.sir_analyses.specs.Answers.{allocation_answer}
use Rattle.sir_analyses.specs.inner.Outcomes.{Finished}
use Rattle.sir_analyses.proofs.answers.Writing.{puts_as}
use Rattle.sir_analyses.proofs.allocation_answers.AllocationWords.{site_known, marked_answer, marked_long}
use Rattle.sir_analyses.proofs.allocation_answers.marked_answer.Goals as goal

pub put_head-requires : goal.put_head-requires
put_head-requires c =
    record { op_bound = site_known c.args.image.words.now c.args.image.well_formed c.requires.by_index.1 }

pub returns : goal.returns
returns c =
    let w = c.args.image.words.now in
    let out = c.args.out.now in
    λ a x F t. answered_whole (allocation_answer w a) out (subst (λ (n : ℕ). Finished n (length out) (Ok c.in_ok-end.end)) (marked_long w c.args.image.well_formed x t) c.in_ok-end.ensures) (puts_as (marked_answer w c.args.image.well_formed x t F) c.put_head.ensures) refl
