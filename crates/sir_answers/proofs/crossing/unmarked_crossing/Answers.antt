-- `unmarked_crossing` meets its contract.
use mathlib.Core.Path.{refl}
use native.Mathlib.Omega.{arith}
use Rattle.sir_analyses.proofs.allocation_liveness.PointerTables.{allocations_few}
use Rattle.sir_answers.proofs.crossing.FirstCommon.{owned_reach}
use Rattle.sir_answers.proofs.crossing.unmarked_crossing.Goals as goal

pub owned_locals-requires : goal.owned_locals-requires
owned_locals-requires c =
    let pointers = c.args.followed.pointer_stage in
    let known = c.requires.one_in_bounds in
    record { a_bound = (omega (arith, known.0, allocations_few pointers), refl) }

pub owned_locals-requires-2 : goal.owned_locals-requires-2
owned_locals-requires-2 c =
    let pointers = c.args.followed.pointer_stage in
    let known = c.requires.one_in_bounds in
    record { a_bound = (omega (arith, known.1, allocations_few pointers), refl) }

pub returns : goal.returns
returns c =
    let pointers = c.args.followed.pointer_stage in
    let known = c.requires.one_in_bounds in
    let unmarked = c.requires.one_value in
    c.crossing_of_reaches.ensures c.args.one.0 c.args.other.0 (owned_reach pointers known.0 unmarked.0 c.owned_locals.ensures) (owned_reach pointers known.1 unmarked.1 c.owned_locals-2.ensures)
