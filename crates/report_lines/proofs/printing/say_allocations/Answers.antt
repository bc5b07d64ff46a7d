-- `say_allocations` meets its contract.
use mathlib.Core.Path.{◌∙◌}
use Prim.Native.Nat.{◌<◌}
use lib.ListN.{length}
use native.Mathlib.Omega.{arith}
use Rattle.sir_analyses.specs.Allocation.{allocs}
use Rattle.sir_analyses.specs.Answers.{allocation_answer}
use Rattle.report_lines.proofs.TooLong.{answered_short, answer_stands, allocation_short, sites_count, sites_most}
use Rattle.report_lines.proofs.printing.say_allocations.Goals as goal

pub overflow_cast-id : goal.overflow_cast-id
overflow_cast-id g c =
    omega (arith, c.loop-a-test.true, sites_most c.args.tables.pointer_stage (rw c.pointed.ensures.1 at c.sites-count.ensures))

pub allocation_answer-requires : goal.allocation_answer-requires
allocation_answer-requires g c =
    omega (arith, c.loop-a-test.true, sites_count c.args.tables.pointer_stage (rw c.pointed.ensures.1 at c.sites-count.ensures))

pub unwrap-end-requires : goal.unwrap-end-requires
unwrap-end-requires g c =
    let l : c.loop-a.a < length (allocs c.args.tables.image.words.now) = omega (arith, c.loop-a-test.true, sites_count c.args.tables.pointer_stage (rw c.pointed.ensures.1 at c.sites-count.ensures)) in
    let q = allocation_short c.args.tables.image.words.now c.requires.allocation_too_long_value l in
    answered_short (allocation_answer c.args.tables.image.words.now c.loop-a.a) c.loop-a.out c.allocation_answer.result (c.loop-a.auto.out ∙ c.requires.out_len.0) c.allocation_answer.ensures q

pub allocation_text-n-requires-clause-a_in_bounds : goal.allocation_text-n-requires-clause-a_in_bounds
allocation_text-n-requires-clause-a_in_bounds g c =
    let l : c.loop-a.a < length (allocs c.args.tables.image.words.now) = omega (arith, c.loop-a-test.true, sites_count c.args.tables.pointer_stage (rw c.pointed.ensures.1 at c.sites-count.ensures)) in
    let xs = allocation_answer c.args.tables.image.words.now c.loop-a.a in
    let q = allocation_short c.args.tables.image.words.now c.requires.allocation_too_long_value l in
    (l, answer_stands xs c.loop-a.out c.allocation_answer.result (c.loop-a.auto.out ∙ c.requires.out_len.0) c.allocation_answer.ensures q c.unwrap-end.ensures)
