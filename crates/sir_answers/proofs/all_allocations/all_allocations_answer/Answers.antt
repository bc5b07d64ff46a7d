-- `all_allocations_answer` meets its contract.
use mathlib.Core.Path.{◌≡◌, sym, ap, ◌∙◌}
use Prim.Native.Nat.{◌≤◌, ◌^◌}
use native.Mathlib.Omega.{arith}
use lib.ListN.{length}
use Rattle.sir_analyses.specs.Allocation.{allocs}
use Rattle.sir_analyses.proofs.allocation_liveness.Discovery.{sites_long}
use Rattle.sir_analyses.proofs.allocation_liveness.PointerTables.{allocations_few}
use Rattle.sir_answers.proofs.scatter.AllAnswers.{fixed_long, fixed_at}
use Rattle.sir_answers.proofs.all_allocations.all_allocations_answer.Goals as goal

pub slice_bounds-cursors-end : goal.slice_bounds-cursors-end
slice_bounds-cursors-end c =
    let stage = c.args.tables.pointer_stage in
    let sites = c.sites-n in
    let n = length sites.result.now in
    let e : n ≡ length (allocs c.args.tables.image.words.now) = ap length ((rw c.pointed.ensures.1 at sites.ensures) ∙ stage.sites_are) ∙ sites_long c.args.tables.image.words.now in
    let h : n ≤ 512 = omega (arith, e, allocations_few stage) in
    h

pub slice_bounds-fill_allocations-end : goal.slice_bounds-fill_allocations-end
slice_bounds-fill_allocations-end c =
    let stage = c.args.tables.pointer_stage in
    let sites = c.sites-n in
    let n = length sites.result.now in
    let e : n ≡ length (allocs c.args.tables.image.words.now) = ap length ((rw c.pointed.ensures.1 at sites.ensures) ∙ stage.sites_are) ∙ sites_long c.args.tables.image.words.now in
    let h : n ≤ 512 = omega (arith, e, allocations_few stage) in
    sym (fixed_long n 512 (2 ^ 59) h)

pub fill_allocations-requires : goal.fill_allocations-requires
fill_allocations-requires c =
    let stage = c.args.tables.pointer_stage in
    let sites = c.sites-n in
    let n = length sites.result.now in
    let e : n ≡ length (allocs c.args.tables.image.words.now) = ap length ((rw c.pointed.ensures.1 at sites.ensures) ∙ stage.sites_are) ∙ sites_long c.args.tables.image.words.now in
    let h : n ≤ 512 = omega (arith, e, allocations_few stage) in
    let long = fixed_long n 512 (2 ^ 59) h in
    record { cursors_len = (long ∙ e, λ a l. fixed_at n 512 (2 ^ 59) a h (omega (arith, l, long))) }
