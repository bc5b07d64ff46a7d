-- `site_of` meets its contract.
use Rattle.sir_analyses.proofs.allocation_answers.AllocationWords.{site_there}
use Rattle.sir_analyses.proofs.allocation_liveness.site_of.Goals as goal

pub returns : goal.returns
returns c = λ w good e. site_there w good c.requires e
