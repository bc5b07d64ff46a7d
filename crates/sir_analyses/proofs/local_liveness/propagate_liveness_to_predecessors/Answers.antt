-- `propagate_liveness_to_predecessors` meets its contract.
use mathlib.Core.Path.{sym, ◌∙◌}
use Rattle.sir_analyses.proofs.local_liveness.LivenessTables.{pass_empty, pass_sent}
use Rattle.sir_analyses.proofs.local_liveness.propagate_liveness_to_predecessors.Goals as goal

pub returns-then-is_empty : goal.returns-then-is_empty
returns-then-is_empty c =
    pass_empty c.requires.passing c.args.b.image.well_formed c.args.b.id.0 c.args.b.known c.unsent-new.ensures.1 (sym c.is_empty.ensures ∙ c.if-is_empty.true)

pub returns : goal.returns
returns c =
    pass_sent c.requires.passing c.args.b.image.well_formed c.args.b.id.0 c.args.b.known c.unsent-new.ensures.1 c.row_union_with.ensures.1 c.send_to_predecessors.ensures
