-- `add_owners` meets its contract. The invariant: the owners of the locals before i are in the set.
use mathlib.Core.Path.{sym}
use native.Mathlib.Omega.{arith}
use lib.ListN.{get_or}
use Rattle.plank_core.specs.laws.Lists.{get_or_mem}
use Rattle.sir_answers.specs.inner.AllocationPieces.{unmarked_owner}
use Rattle.sir_analyses.proofs.allocation_liveness.PointerTables.{allocations_few}
use Rattle.sir_answers.proofs.owned_tables.OwnedTables.{split_none, split_more, split_skip, split_all}
use Rattle.sir_answers.proofs.open_allocations.add_owners.Invariants.{one_row}
use Rattle.sir_answers.proofs.open_allocations.add_owners.Goals as goal
use Rattle.sir_answers.proofs.open_allocations.add_owners.Goals.{in-Some, in_default}

pub loop-v-init : goal.loop-v-init
loop-v-init c =
    let a = c.args in
    split_none (unmarked_owner a.pointers.now) one_row a.ids.now a.owners.now a.owners.now

pub unmarked_owner-requires : goal.unmarked_owner-requires
unmarked_owner-requires c =
    let a = c.args in
    let i = c.loop-v.v-index in
    let stage = c.requires.by_index.1 in
    (c.requires.by_index_2 (get_or a.ids.now i 0) (get_or_mem a.ids.now i 0 c.loop-v-test.true), omega (arith, stage.discovered.owner_known (get_or a.ids.now i 0), allocations_few stage))

pub loop-v-preserved : goal.loop-v-preserved
loop-v-preserved c =
    let a = c.args in
    let l = c.loop-v in
    let own = unmarked_owner a.pointers.now in
    let h = c.loop-v-test.true in
    elim c.match-unmarked_owner.branch [
      | in-Some w ↦ rw w.owners-is (split_more own one_row a.ids.now a.owners.now l.owners l.v-index w.in-Some.a.0 h (sym w.in-Some.ensures.0) (omega (arith, w.in-Some.ensures.1)) w.row_add.ensures.1 l.invariant)
      | in_default w ↦ rw w.owners-is (split_skip own one_row a.ids.now a.owners.now l.owners l.v-index h (sym w.in_default.ensures.0) l.invariant)
    ]

pub returns : goal.returns
returns c =
    let a = c.args in
    let l = c.loop-v in
    split_all (unmarked_owner a.pointers.now) one_row a.ids.now a.owners.now l.owners l.v-index c.loop-v-test.false l.invariant
