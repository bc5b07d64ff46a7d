-- `advance` meets its contract.
use Rattle.sir_answers.proofs.scatter.Scattering.{scatters_blank}
use Rattle.sir_answers.proofs.scatter.advance.Goals as goal

pub returns : goal.returns
returns c = let a = c.args in scatters_blank a.id a.n a.cursors.now
