-- `alloc_sites` meets its contract.
use Rattle.sir_analyses.specs.inner.Stages.{part}
use native.Mathlib.Omega.{arith}
use Rattle.sir_analyses.proofs.stages.alloc_sites.Goals as goal

pub returns : goal.returns
unfolding part
returns c = grind arith
