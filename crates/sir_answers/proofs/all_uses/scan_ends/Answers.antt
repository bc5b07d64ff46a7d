-- `scan_ends` meets its contract.
use Rattle.sir_answers.proofs.scatter.Scattering.{scatters_then}
use Rattle.sir_answers.proofs.all_uses.scan_ends.Goals as goal

pub returns : goal.returns
returns c =
    scatters_then c.scan_condition.ensures c.scan_outputs.ensures
