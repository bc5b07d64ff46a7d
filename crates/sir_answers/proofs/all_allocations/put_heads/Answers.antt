-- `put_heads` meets its contract. The invariant: the heads from a on are to be put, and their cursors stand as at first.
use mathlib.Core.Path.{◌≡◌, refl, sym, ap, ◌∙◌}
use mathlib.Core.List.{List, ◌∷◌, []}
use Prim.Native.Nat.{ℕ, ◌+◌, ◌-◌, ◌*◌, ◌/◌, ◌<◌}
use native.Mathlib.Omega.{arith}
use lib.ListN.{length}
use Rattle.plank_core.specs.Lists.{bind, range}
use Rattle.plank_core.specs.laws.Loops.{range_all, bind_step, bind_end}
use Rattle.sir_analyses.specs.Allocation.{allocs, merged}
use Rattle.sir_answers.specs.inner.Scatter.{number_at}
use Rattle.sir_answers.specs.inner.AllocationPieces.{head_of, head_pieces}
use Rattle.sir_analyses.proofs.allocation_liveness.PointerTables.{allocations_few}
use Rattle.sir_analyses.specs.laws.Writing.{interval_count}
use Rattle.sir_answers.proofs.all_allocations.AllocationPieces.{merged_few, other_cursor}
use Rattle.sir_answers.proofs.scatter.Scattering.{scattering_none, scattering_as, scattering_fits, scattering_more, scattering_all, fits_as, scatters_as}
use Rattle.sir_answers.proofs.all_allocations.put_heads.Goals as goal

pub loop-a-init : goal.loop-a-init
loop-a-init c =
    let w = c.args.pointed.image.words.now in
    let e : bind (range 0 (length c.args.cursors.now)) (λ a. (a, head_of w a) ∷ []) ≡ head_pieces w = rw (range_all, c.requires.cursors_len.0) in
    (scattering_as (sym e) (scattering_none c.requires.cursors_len.1), λ u p q. refl)

pub overflow_cast-id : goal.overflow_cast-id
overflow_cast-id c =
    let w = c.args.pointed.image.words.now in
    let stage = c.args.pointed.pointer_stage in
    let L = c.loop-a in
    let h = c.loop-a-test.true in
    let l : L.a < length (allocs w) = omega (arith, h, L.invariant.0.wide, c.requires.cursors_len.0) in
    omega (arith, l, allocations_few stage)

pub overflow_cast-count : goal.overflow_cast-count
overflow_cast-count c =
    let w = c.args.pointed.image.words.now in
    let stage = c.args.pointed.pointer_stage in
    let L = c.loop-a in
    let h = c.loop-a-test.true in
    let l : L.a < length (allocs w) = omega (arith, h, L.invariant.0.wide, c.requires.cursors_len.0) in
    let top : number_at c.args.tops.now L.a ≡ number_at L.cursors L.a + 3 * length (merged w L.a) = omega (arith, c.requires.cursors_in_bounds.1 L.a (omega (arith, l, c.requires.cursors_len.0)), L.invariant.1 L.a (omega arith) (omega (arith, l, c.requires.cursors_len.0)), interval_count (merged w L.a)) in
    omega (arith, top, interval_count (merged w L.a), merged_few w stage.well_formed L.a l)

pub prepend-requires : goal.prepend-requires
prepend-requires c =
    let w = c.args.pointed.image.words.now in
    let L = c.loop-a in
    let h = c.loop-a-test.true in
    let l : L.a < length (allocs w) = omega (arith, h, L.invariant.0.wide, c.requires.cursors_len.0) in
    let top : number_at c.args.tops.now L.a ≡ number_at L.cursors L.a + 3 * length (merged w L.a) = omega (arith, c.requires.cursors_in_bounds.1 L.a (omega (arith, l, c.requires.cursors_len.0)), L.invariant.1 L.a (omega arith) (omega (arith, l, c.requires.cursors_len.0)), interval_count (merged w L.a)) in
    let n : (number_at c.args.tops.now L.a - number_at L.cursors L.a) / 3 ≡ length (merged w L.a) = omega (arith, top) in
    let head = c.record_head-head.ensures n in
    let k = scattering_as (bind_step (λ a. (a, head_of w a) ∷ []) L.a (length c.args.cursors.now) (omega (arith, h, L.invariant.0.wide))) L.invariant.0 in
    (omega (arith, h), fits_as (ap (λ (xs : List ℕ). (L.a, xs) ∷ []) (sym head)) (scattering_fits ((L.a, head_of w L.a) ∷ []) (bind (range (L.a + 1) (length c.args.cursors.now)) (λ a. (a, head_of w a) ∷ [])) k))

pub loop-a-preserved : goal.loop-a-preserved
loop-a-preserved c =
    let w = c.args.pointed.image.words.now in
    let L = c.loop-a in
    let h = c.loop-a-test.true in
    let l : L.a < length (allocs w) = omega (arith, h, L.invariant.0.wide, c.requires.cursors_len.0) in
    let top : number_at c.args.tops.now L.a ≡ number_at L.cursors L.a + 3 * length (merged w L.a) = omega (arith, c.requires.cursors_in_bounds.1 L.a (omega (arith, l, c.requires.cursors_len.0)), L.invariant.1 L.a (omega arith) (omega (arith, l, c.requires.cursors_len.0)), interval_count (merged w L.a)) in
    let n : (number_at c.args.tops.now L.a - number_at L.cursors L.a) / 3 ≡ length (merged w L.a) = omega (arith, top) in
    let head = c.record_head-head.ensures n in
    let k = scattering_as (bind_step (λ a. (a, head_of w a) ∷ []) L.a (length c.args.cursors.now) (omega (arith, h, L.invariant.0.wide))) L.invariant.0 in
    let s = scatters_as (ap (λ (xs : List ℕ). (L.a, xs) ∷ []) head) c.prepend.ensures in
    (scattering_more (bind (range (L.a + 1) (length c.args.cursors.now)) (λ a. (a, head_of w a) ∷ [])) k s, λ u p q. other_cursor u (λ z. omega arith) (omega (arith, q, L.invariant.0.wide)) s ∙ L.invariant.1 u (omega arith) q)

pub returns : goal.returns
returns c =
    let w = c.args.pointed.image.words.now in
    scattering_all (bind_end (λ a. (a, head_of w a) ∷ []) c.loop-a.a (length c.args.cursors.now) (omega (arith, c.loop-a-test.false, c.loop-a.invariant.0.wide))) c.loop-a.invariant.0
