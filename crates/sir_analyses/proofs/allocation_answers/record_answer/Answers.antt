-- `record_answer` meets its contract.
use mathlib.Core.Path.{ap, subst}
use mathlib.Core.List.{List, ◌++◌}
use Prim.Native.Nat.{ℕ}
use lib.ListN.{length}
use Rattle.std.proofs.Common.{rules, Ok}
use Rattle.sir_analyses.specs.Answers.{allocation_answer}
use Rattle.sir_analyses.specs.inner.Outcomes.{Finished}
use Rattle.sir_analyses.proofs.allocation_answers.AllocationWords.{site_known, answer_long, swept_count, swept_answer}
use Rattle.sir_analyses.proofs.answers.Calls.{answered_whole, answered_short, front_twice, finish_fits}
use Rattle.sir_analyses.proofs.answers.Writing.{puts_long}
use native.Mathlib.Omega.{arith}
use Rattle.sir_analyses.proofs.allocation_answers.record_answer.Goals as goal

pub overflow_sub-count : goal.overflow_sub-count
overflow_sub-count c =
    let x = c.requires.by_index.1 in
    omega (arith, swept_count c.args.analysed.visit_stage.well_formed x c.populate_intervals_from_local_liveness-n.ensures.1, answer_long c.args.analysed.image.words.now c.args.analysed.visit_stage.well_formed x.site)

pub put_head-requires : goal.put_head-requires
put_head-requires c =
    record { op_bound = site_known c.args.analysed.image.words.now c.args.analysed.visit_stage.well_formed c.requires.by_index.1.site }

pub returns-in_err-end : goal.returns-in_err-end
returns-in_err-end c =
    let w = c.args.analysed.image.words.now in
    λ a x. answered_short (allocation_answer w a) c.args.out.now c.in_err-end.ensures (swept_count c.args.analysed.visit_stage.well_formed x c.populate_intervals_from_local_liveness-n.ensures.1) (search rules)

pub returns : goal.returns
returns c =
    let w = c.args.analysed.image.words.now in
    let out = c.args.out.now in
    let e = c.in_ok-end.end in
    let f = c.in_ok-end.ensures in
    let good = c.args.analysed.visit_stage.well_formed in
    λ a x.
    let k = swept_count good x c.populate_intervals_from_local_liveness-n.ensures.1 in
    let t = front_twice e out c.put_head.new.out (finish_fits f) (puts_long c.put_head.ensures) in
    answered_whole (allocation_answer w a) out (subst (λ (n : ℕ). Finished n (length out) (Ok e)) k f)
    (swept_answer good x k c.put_head.ensures (λ s l m. rw t.0 at (c.populate_intervals_from_local_liveness.ensures.1 s l m)))
    (ap (λ (r : List ℕ). c.populate_intervals_from_local_liveness.new.out ++ r) t.1)
