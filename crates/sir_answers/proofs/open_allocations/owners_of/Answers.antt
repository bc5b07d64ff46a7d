-- `owners_of` meets its contract.
use mathlib.Core.Path.{refl, ap, ◌∙◌}
use mathlib.Core.List.{List, map}
use Prim.Native.Nat.{ℕ, ◌+◌}
use native.Mathlib.Omega.{arith}
use lib.ListN.{take}
use Rattle.plank_core.specs.Lists.{mem}
use Rattle.plank_core.specs.laws.Members.{members_most, member_is}
use Rattle.sir_answers.specs.inner.AllocationPieces.{unmarked_owner}
use Rattle.sir_analyses.proofs.local_liveness.SetAnswers.{front_members}
use Rattle.sir_answers.proofs.open_allocations.OpenOwners.{owners_added}
use Rattle.sir_answers.proofs.open_allocations.owners_of.Goals as goal

pub add_owners-requires : goal.add_owners-requires
add_owners-requires c =
    let set = c.args.set.now in
    let front = front_members set c.args.ids.now c.list-n.ensures.0 c.list-n.ensures.1 in
    record { by_index = c.requires.by_index; by_index_2 = λ v m. (member_is set v (rw front at m)).0; owners_len = refl }

pub returns : goal.returns
returns c =
    let set = c.args.set.now in
    let own = unmarked_owner c.args.pointers.now in
    let owners = c.add_owners.new.owners in
    let front = front_members set c.args.ids.now c.list-n.ensures.0 c.list-n.ensures.1 in
    let listed = c.list-n.new.out in
    let told = owners_added own (take c.list-n.result listed) refl c.add_owners.ensures in (
      omega (arith, c.list.ensures.0, members_most owners),
      record {
        owners = owners;
        listed = front_members owners listed c.list.ensures.0 c.list.ensures.1;
        owner_is = λ a h. told a h ∙ ap (λ (vs : List ℕ). mem (a + 1) (map own vs)) front;
      },
    )
