-- `reach_local` meets its contract: what is done in each case is what linking does.
use native.Mathlib.Omega.{arith}
use Rattle.sir_analyses.proofs.allocation_liveness.PointerTables.{flag_set, one_long, left_room, reached_first, reached_before, reached_met}
use Rattle.sir_analyses.proofs.allocation_liveness.reach_local.Goals as goal

pub push_local-requires : goal.push_local-requires
push_local-requires c = grind (arith, one_long, left_room)

pub returns-in-First : goal.returns-in-First
returns-in-First c = grind (arith, reached_first)

pub returns-in-Before : goal.returns-in-Before
returns-in-Before c = grind (arith, reached_before)

pub returns-in-Met : goal.returns-in-Met
returns-in-Met c = grind (arith, flag_set, reached_met)
