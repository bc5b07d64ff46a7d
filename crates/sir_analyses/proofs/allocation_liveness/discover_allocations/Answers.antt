-- `discover_allocations` meets its contract. The invariant: the arrays show the state after the first i allocations.
use mathlib.Core.Path.{ap}
use Prim.Native.Nat.{◌<◌}
use lib.ListN.{length}
use Rattle.sir_analyses.specs.Allocation.{allocs}
use Rattle.sir_analyses.proofs.allocation_liveness.Discovery.{sites_long}
use Rattle.sir_analyses.proofs.allocation_liveness.PointerTables.{turned_to_starts, turned_to_more, turned_to_ends, owners_empty}
use Rattle.sir_analyses.specs.inner.Stages.{part}
use native.Mathlib.Omega.{arith}
use Rattle.sir_analyses.proofs.allocation_liveness.discover_allocations.Goals as goal

pub own_bases-requires : goal.own_bases-requires
unfolding part
own_bases-requires c =
    record { sites_value = (c.requires.accepted_stage.sites_are, c.requires.accepted_stage.sites_few, owners_empty c.store_sites.ensures) }

pub loop-i-init : goal.loop-i-init
unfolding part
loop-i-init c =
    turned_to_starts c.requires.accepted_stage c.requires.pointer_rows.0 c.own_bases.new.owners c.store_sites.ensures c.own_bases.ensures

pub loop-i-preserved : goal.loop-i-preserved
loop-i-preserved c =
    let h : c.loop-i.i < length (allocs c.args.image.words.now) = omega (arith, c.loop-i-test.true, ap length c.requires.accepted_stage.sites_are, sites_long c.args.image.words.now) in
    turned_to_more c.requires.accepted_stage c.requires.pointer_rows.0 h c.base_of-base.ensures.0 c.loop-i.invariant c.propagate_pointers_and_mark_escapes.ensures

pub returns : goal.returns
returns c =
    turned_to_ends c.requires.accepted_stage c.requires.pointer_rows.0 (omega (arith, ap length c.requires.accepted_stage.sites_are, sites_long c.args.image.words.now)) c.loop-i.invariant
