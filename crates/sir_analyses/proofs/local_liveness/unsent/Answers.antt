-- `unsent` meets its contract.
use native.Mathlib.Omega.{arith}
use Rattle.plank_core.specs.laws.DenseIndexSet.{length_row}
use Rattle.sir_analyses.proofs.local_liveness.Stepping.{row_fits, set_fits, unsent}
use Rattle.sir_analyses.proofs.local_liveness.unsent.Goals as goal

pub row_difference_with-requires : goal.row_difference_with-requires
row_difference_with-requires c = grind (arith, set_fits, length_row, row_fits)

pub returns : goal.returns
returns c = grind (arith, unsent)
