-- `propagate_pointers_and_mark_escapes` meets its contract. The invariant: the arrays show a state on the way.
use mathlib.Core.Path.{refl}
use Rattle.sir_analyses.proofs.allocation_liveness.PointerTables.{way_starts, way_on, way_less, way_ends, fewer_room, taken_less}
use native.Mathlib.Omega.{arith}
use Rattle.sir_analyses.proofs.allocation_liveness.propagate_pointers_and_mark_escapes.Goals as goal

pub loop-pointers-init : goal.loop-pointers-init
loop-pointers-init c = way_starts c.requires.pointer_room.0 c.requires.pointer_room.1 c.requires.base_bound.0 _ _ _

pub follow_local-requires : goal.follow_local-requires
follow_local-requires c =
    record { links_len = c.requires.links_len; pointer_room = fewer_room c.loop-pointers.invariant c.loop-pointers-test.true; local_bound = (taken_less c.loop-pointers.invariant c.loop-pointers-test.true, c.requires.base_bound.1) }

pub loop-pointers-smaller : goal.loop-pointers-smaller
loop-pointers-smaller c =
    way_less c.loop-pointers.invariant c.loop-pointers-test.true refl c.follow_local.ensures

pub loop-pointers-preserved : goal.loop-pointers-preserved
loop-pointers-preserved c =
    way_on c.loop-pointers.invariant c.loop-pointers-test.true refl c.follow_local.ensures

pub returns : goal.returns
returns c =
    way_ends c.requires.pointer_room.0 c.requires.pointer_room.1 c.requires.base_bound.0 (omega (arith, c.loop-pointers-test.false)) c.loop-pointers.invariant
