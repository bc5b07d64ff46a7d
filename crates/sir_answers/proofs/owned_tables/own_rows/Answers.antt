-- `own_rows` meets its contract. The invariant: the locals below v are in their rows.
use mathlib.Core.Path.{◌≡◌, ◌∙◌}
use Prim.Native.Nat.{◌<◌}
use native.Mathlib.Omega.{arith}
use Rattle.sir_data.specs.Records.{locals}
use Rattle.sir_answers.specs.inner.AllocationPieces.{unmarked_owner}
use Rattle.sir_analyses.proofs.allocation_liveness.PointerTables.{allocations_few}
use Rattle.sir_answers.proofs.owned_tables.OwnedTables.{rows_none, rows_more}
use Rattle.sir_answers.proofs.owned_tables.own_rows.Goals as goal

pub loop-v-init : goal.loop-v-init
loop-v-init c =
    rows_none (unmarked_owner c.args.pointed.pointers.now) c.args.rows.now c.args.rows.now

pub unmarked_owner-requires : goal.unmarked_owner-requires
unmarked_owner-requires c =
    (omega (arith, c.loop-v-test.true, c.local_count-count.ensures, c.args.pointed.pointer_stage.well_formed.sized.locals_most), omega (arith, c.args.pointed.pointer_stage.discovered.owner_known c.loop-v.v, allocations_few c.args.pointed.pointer_stage))

pub loop-v-preserved : goal.loop-v-preserved
loop-v-preserved c =
    let own = unmarked_owner c.args.pointed.pointers.now in
    let L = c.loop-v in
    let r = c.owner_row-row in
    let h : L.v < 512 = omega (arith, c.loop-v-test.true, c.local_count-count.ensures, c.args.pointed.pointer_stage.well_formed.sized.locals_most) in
    rows_more own c.args.rows.now L.rows L.v r.result h (r.ensures ∙ c.unmarked_owner.ensures.0) c.row_add.ensures.1 L.invariant

pub returns : goal.returns
returns c =
    let L = c.loop-v in
    let e : L.v ≡ locals c.args.pointed.image.words.now = omega (arith, c.loop-v-test.false, c.local_count-count.ensures) in
    rw e at L.invariant
