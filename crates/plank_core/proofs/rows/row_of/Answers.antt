-- `row_of` meets its contract: a part of eight words.
use mathlib.Core.Path.{◌≡◌}
use Prim.Native.Nat.{◌+◌, ◌-◌, ◌*◌}
use native.Mathlib.Omega.{arith}
use Rattle.plank_core.specs.inner.DenseIndexSet.{row_of}
use Rattle.plank_core.proofs.rows.row_of.Goals as goal

pub returns : goal.returns
unfolding row_of
returns c = let e : 8 * c.args.row + 8 - 8 * c.args.row ≡ 8 = omega arith in rw e
