-- `allocation_too_long` meets its contract.
use mathlib.Core.Path.{refl, sym, ◌∙◌}
use Prim.Native.Nat.{◌<◌}
use native.Mathlib.Omega.{arith}
use lib.ListN.{length}
use Rattle.plank_core.specs.laws.Loops.{any_step, any_stop, any_end}
use Rattle.sir_analyses.specs.Allocation.{allocs}
use Rattle.sir_analyses.specs.Answers.{allocation_answer}
use Rattle.report_lines.proofs.TooLong.{refused_long, sites_count, sites_most, long_allocation, allocations_start}
use Rattle.report_lines.proofs.counting.allocation_too_long.Goals as goal

pub loop-a-init : goal.loop-a-init
loop-a-init c =
    (refl, allocations_start c.args.tables.image.words.now)

pub overflow_cast-a : goal.overflow_cast-a
overflow_cast-a c =
    omega (arith, c.loop-a-test.true, sites_most c.args.tables.pointer_stage (rw c.pointed.ensures.1 at c.sites-count.ensures))

pub allocation_answer-requires : goal.allocation_answer-requires
allocation_answer-requires c =
    omega (arith, c.loop-a-test.true, sites_count c.args.tables.pointer_stage (rw c.pointed.ensures.1 at c.sites-count.ensures))

pub returns-then-is_err : goal.returns-then-is_err
returns-then-is_err c =
    let w = c.args.tables.image.words.now in
    let L = c.loop-a in
    let l : L.a < length (allocs w) = omega (arith, c.loop-a-test.true, sites_count c.args.tables.pointer_stage (rw c.pointed.ensures.1 at c.sites-count.ensures)) in
    let long = sym (refused_long (allocation_answer w L.a) L.out c.allocation_answer.result (L.invariant.0 ∙ c.requires.out_len) c.allocation_answer.ensures) ∙ sym c.is_err.ensures.value ∙ c.if-is_err.true in
    sym (any_stop (long_allocation w) L.a (length (allocs w)) l long) ∙ L.invariant.1

pub loop-a-preserved : goal.loop-a-preserved
loop-a-preserved c =
    let w = c.args.tables.image.words.now in
    let L = c.loop-a in
    let l : L.a < length (allocs w) = omega (arith, c.loop-a-test.true, sites_count c.args.tables.pointer_stage (rw c.pointed.ensures.1 at c.sites-count.ensures)) in
    let short = sym (refused_long (allocation_answer w L.a) L.out c.allocation_answer.result (L.invariant.0 ∙ c.requires.out_len) c.allocation_answer.ensures) ∙ sym c.is_err.ensures.value ∙ c.if-is_err.false in
    (omega (arith, c.allocation_answer.auto, L.invariant.0), any_step (long_allocation w) L.a (length (allocs w)) l short ∙ L.invariant.1)

pub returns : goal.returns
returns c =
    let w = c.args.tables.image.words.now in
    sym (any_end (long_allocation w) c.loop-a.a (length (allocs w)) (omega (arith, c.loop-a-test.false, sites_count c.args.tables.pointer_stage (rw c.pointed.ensures.1 at c.sites-count.ensures)))) ∙ c.loop-a.invariant.1
