-- `load_visit` meets its contract.
use mathlib.Core.Path.{refl}
use native.Mathlib.Omega.{arith}
use Rattle.std.proofs.Common.{rules}
use Rattle.sir_analyses.proofs.allocation_liveness.Discovery.{sites_over}
use Rattle.sir_analyses.proofs.loading.load_visit.Goals as goal

pub returns-in_default : goal.returns-in_default
returns-in_default c =
    record { number = let t = sites_over c.args.image.words.now c.args.image.well_formed (omega (arith, c.in_default.ensures.0, c.requires.visit_value.1)) in rw t refl; prepared = search rules }
