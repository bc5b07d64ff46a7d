-- `end_sets` meets its contract. The invariant: the rows of the first b blocks are filled.
use Rattle.plank_core.specs.Lists.{mem}
use Rattle.sir_analyses.specs.Liveness.{end_reads}
use Rattle.sir_analyses.proofs.Tables.{filled_starts, cleared_long}
use native.Mathlib.Omega.{arith}
use Rattle.sir_analyses.proofs.block_sets.end_sets.Goals as goal

pub loop-b-init : goal.loop-b-init
loop-b-init c =
    let a = c.args in
    let e = c.requires.ends_value in
    (omega arith, cleared_long a.ends.now 2048 e, filled_starts a.ends.now 2048 256 (λ b v. mem v (end_reads a.image.words.now b)) e)
