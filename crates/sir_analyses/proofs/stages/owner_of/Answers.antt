-- `owner_of` meets its contract.
use mathlib.Core.Path.{sym}
use Rattle.sir_analyses.proofs.stages.Parts.{part_get}
use Rattle.sir_analyses.proofs.stages.owner_of.Goals as goal

pub returns : goal.returns
returns c = sym (part_get 514 512 c.args.v.0 c.args.pointers.now c.requires)
