-- `sets_before_passes` meets its contract.
use Rattle.sir_analyses.proofs.local_liveness.LivenessTables.{ended, ends_empty}
use Rattle.sir_analyses.proofs.local_liveness.sets_before_passes.Goals as goal

pub end_sets-requires : goal.end_sets-requires
end_sets-requires c =
    record { ends_value = ends_empty c.block_sets.ensures.1 }

pub returns : goal.returns
returns c =
    ended c.operand_sets.ensures c.block_sets.ensures c.end_sets.ensures
