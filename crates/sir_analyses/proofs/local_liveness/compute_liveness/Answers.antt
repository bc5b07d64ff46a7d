-- `compute_liveness` meets its contract.
use Rattle.sir_analyses.proofs.local_liveness.LivenessTables.{live_stage}
use Rattle.sir_analyses.proofs.local_liveness.compute_liveness.Goals as goal

pub returns : goal.returns
returns c =
    (c.fixpoint.ensures.0, live_stage c.args.visited.visit_stage.well_formed c.sets_before_passes.ensures c.fixpoint.ensures.1)
