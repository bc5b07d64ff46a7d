-- `own_words` meets its contract. The invariant: the owners of the locals below v are stored.
use mathlib.Core.Path.{◌≡◌, ◌∙◌}
use Prim.Native.Nat.{◌<◌}
use native.Mathlib.Omega.{arith}
use lib.ListN.{length}
use Rattle.sir_data.specs.Records.{locals}
use Rattle.sir_answers.specs.inner.AllocationPieces.{unmarked_owner}
use Rattle.sir_analyses.proofs.allocation_liveness.PointerTables.{allocations_few}
use Rattle.sir_answers.proofs.owned_tables.OwnedTables.{words_none, words_more}
use Rattle.sir_answers.proofs.owned_tables.own_words.Goals as goal

pub loop-v-init : goal.loop-v-init
loop-v-init c =
    words_none (unmarked_owner c.args.pointed.pointers.now) c.args.owners.now c.args.owners.now

pub unmarked_owner-requires : goal.unmarked_owner-requires
unmarked_owner-requires c =
    (omega (arith, c.loop-v-test.true, c.local_count-count.ensures, c.args.pointed.pointer_stage.well_formed.sized.locals_most), omega (arith, c.args.pointed.pointer_stage.discovered.owner_known c.loop-v.v, allocations_few c.args.pointed.pointer_stage))

pub loop-v-preserved : goal.loop-v-preserved
loop-v-preserved c =
    let own = unmarked_owner c.args.pointed.pointers.now in
    let L = c.loop-v in
    let r = c.owner_row in
    let h : L.v < length L.owners = omega (arith, c.loop-v-test.true, c.local_count-count.ensures, c.args.pointed.pointer_stage.well_formed.sized.locals_most, L.auto.owners, c.requires.owners_len) in
    words_more own c.args.owners.now L.owners L.v r.result h (r.ensures ∙ c.unmarked_owner.ensures.0) L.invariant

pub returns : goal.returns
returns c =
    let L = c.loop-v in
    let e : L.v ≡ locals c.args.pointed.image.words.now = omega (arith, c.loop-v-test.false, c.local_count-count.ensures) in
    rw e at L.invariant
