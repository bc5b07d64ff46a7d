-- `follow_local` meets its contract. The invariant: the first i of what the local carries on are linked.
use Prim.Native.Nat.{◌≤◌, ◌<◌}
use lib.ListN.{length}
use Rattle.plank_core.specs.inner.DenseIndexSet.{row_of}
use Rattle.plank_core.specs.laws.DenseIndexSet.{length_row}
use Rattle.plank_core.specs.laws.Lists.{get_or_mem}
use Rattle.plank_core.specs.laws.Members.{member_is}
use Rattle.sir_analyses.specs.inner.Discovery.{links_in, used_in}
use Rattle.sir_analyses.proofs.allocation_liveness.PointerTables.{links_more, links_flagged}
use borrow.Author.Rules.{rules}
use native.Mathlib.Omega.{arith}
use Rattle.sir_analyses.proofs.allocation_liveness.follow_local.Goals as goal

pub list-count-requires : goal.list-count-requires
list-count-requires c =
    (rw c.row_of.ensures (length_row c.args.links.now c.args.local.0 (omega (arith, c.requires.links_len.0, c.requires.local_bound.0))), search rules)

pub reach_local-requires-clause-local_bound : goal.reach_local-requires-clause-local_bound
reach_local-requires-clause-local_bound c =
    let l = c.loop-carried in
    let xs = links_in c.args.links.now c.args.local.0 in
    let i : l.carried-index < length xs = omega (arith, l.invariant.0) in
    (rw (l.invariant.1 l.carried-index i) (member_is (row_of c.args.links.now c.args.local.0) _ (get_or_mem xs l.carried-index 0 i)).0, c.requires.local_bound.1)

pub loop-carried-preserved : goal.loop-carried-preserved
loop-carried-preserved c =
    let l = c.loop-carried in
    let xs = links_in c.args.links.now c.args.local.0 in
    let i : l.carried-index < length xs = omega (arith, l.invariant.0) in
    (l.invariant.0, l.invariant.1, links_more xs l.carried-index i l.invariant.2 (rw (l.invariant.1 l.carried-index i) at c.reach_local.ensures))

pub returns : goal.returns
returns c =
    let xs = links_in c.args.links.now c.args.local.0 in
    let e : length xs ≤ c.loop-carried.carried-index = omega (arith, c.loop-carried.invariant.0) in
    links_flagged xs c.loop-carried.carried-index e c.loop-carried.invariant.2 (used_in c.args.causes.now c.args.local.0) c.flag_uses.ensures
