-- `split_owners` meets its contract. The invariant: the owners of the locals before i are in their rows.
use mathlib.Core.Path.{◌≡◌, ◌∙◌}
use Prim.Native.Nat.{◌+◌, ◌≤◌, ◌<◌}
use native.Mathlib.Omega.{arith}
use lib.ListN.{get_or}
use borrow.Author.Tests.{eq-eqb}
use Rattle.plank_core.specs.laws.Lists.{get_or_mem}
use Rattle.sir_answers.specs.inner.AllocationPieces.{owner_in, side}
use Rattle.sir_answers.proofs.owned_tables.OwnedTables.{split_none, split_more, split_skip, split_all, owner_read, side_most}
use Rattle.sir_answers.proofs.owned_tables.split_owners.Goals as goal
use Rattle.sir_answers.proofs.owned_tables.split_owners.Goals.{in-Some, in_default}

pub loop-v-init : goal.loop-v-init
loop-v-init c =
    split_none (owner_in c.args.owned.now) (side c.args.owned.now c.args.set.now) c.args.ids.now c.args.split.now c.args.split.now

pub bounds-owned-v : goal.bounds-owned-v
bounds-owned-v c =
    let L = c.loop-v in
    let a = c.args in
    let v = get_or a.ids.now L.v-index 0 in
    let h = c.loop-v-test.true in
    let small : v < 512 = c.requires.by_index v (get_or_mem a.ids.now L.v-index 0 h) in
    omega (arith, small, c.requires.by_index_2.1.long)

pub side_of-requires : goal.side_of-requires
side_of-requires c =
    let L = c.loop-v in
    let a = c.args in
    let v = get_or a.ids.now L.v-index 0 in
    let h = c.loop-v-test.true in
    let small : v < 512 = c.requires.by_index v (get_or_mem a.ids.now L.v-index 0 h) in
    let tables = c.requires.by_index_2.1 in
    let x = c.in-Some.a in
    let owns : owner_in a.owned.now v ≡ x + 1 = omega (arith, owner_read a.owned.now v small, c.in-Some.ensures) in
    let under : x < 512 = omega (arith, tables.owner_most v small, owns) in
    record { owned_len = (tables.long, c.requires.set_len.0, under, small); v_value = tables.row_is x v under small ∙ eq-eqb (owner_in a.owned.now v) (x + 1) owns }

pub overflow_cast-a : goal.overflow_cast-a
overflow_cast-a c =
    let L = c.loop-v in
    let a = c.args in
    let v = get_or a.ids.now L.v-index 0 in
    let h = c.loop-v-test.true in
    let small : v < 512 = c.requires.by_index v (get_or_mem a.ids.now L.v-index 0 h) in
    omega (arith, owner_read a.owned.now v small, c.requires.by_index_2.1.owner_most v small, c.in-Some.ensures)

pub row_add-requires : goal.row_add-requires
row_add-requires c =
    let L = c.loop-v in
    let a = c.args in
    let v = get_or a.ids.now L.v-index 0 in
    let h = c.loop-v-test.true in
    let small : v < 512 = c.requires.by_index v (get_or_mem a.ids.now L.v-index 0 h) in
    (omega (arith, c.side_of.ensures, side_most a.owned.now a.set.now c.in-Some.a, L.auto.split, c.requires.set_len.1), omega (arith, owner_read a.owned.now v small, c.requires.by_index_2.1.owner_most v small, c.in-Some.ensures))

pub loop-v-preserved : goal.loop-v-preserved
loop-v-preserved c =
    let L = c.loop-v in
    let a = c.args in
    let v = get_or a.ids.now L.v-index 0 in
    let h = c.loop-v-test.true in
    let small : v < 512 = c.requires.by_index v (get_or_mem a.ids.now L.v-index 0 h) in
    let own = owner_in a.owned.now in
    let to = side a.owned.now a.set.now in
    let read = owner_read a.owned.now v small in
    let most : own v ≤ 512 = c.requires.by_index_2.1.owner_most v small in
    elim c.match-checked_sub.branch [
      | in-Some w ↦
          let owns : own v ≡ w.in-Some.a + 1 = omega (arith, read, w.in-Some.ensures) in
          rw w.split-is (split_more own to a.ids.now a.split.now L.split L.v-index w.in-Some.a h owns (omega (arith, most, owns)) (rw w.side_of.ensures at w.row_add.ensures.1) L.invariant)
      | in_default w ↦ rw w.split-is (split_skip own to a.ids.now a.split.now L.split L.v-index h (omega (arith, read, w.in_default.ensures)) L.invariant)
    ]

pub returns : goal.returns
returns c =
    let a = c.args in
    split_all (owner_in a.owned.now) (side a.owned.now a.set.now) a.ids.now a.split.now c.loop-v.split c.loop-v.v-index c.loop-v-test.false c.loop-v.invariant
