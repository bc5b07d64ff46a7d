-- `uses` meets its contract.
use Rattle.sir_analyses.specs.inner.Stages.{part}
use borrow.Author.Rules.{rules}
use Rattle.sir_analyses.proofs.stages.uses.Goals as goal

pub returns : goal.returns
unfolding part
returns c = search rules
