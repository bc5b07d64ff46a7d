-- `flags_of` meets its contract.
use mathlib.Core.Path.{sym}
use Rattle.sir_analyses.proofs.stages.Parts.{part_get}
use Rattle.sir_analyses.proofs.stages.flags_of.Goals as goal

pub returns : goal.returns
returns c = sym (part_get 1026 512 c.args.a.0 c.args.pointers.now c.requires)
