-- `row_remove` meets its contract.
use mathlib.Core.Path.{◌≡◌}
use Prim.Native.Nat.{◌+◌, ◌*◌, ◌/◌, ◌%◌}
use native.Mathlib.Omega.{arith}
use Rattle.plank_core.specs.inner.DenseIndexSet.{contains}
use Rattle.plank_core.specs.laws.Bits.{bit_test, one_shl}
use Rattle.plank_core.specs.laws.DenseIndexSet.{removed_word}
use Rattle.plank_core.proofs.rows.row_remove.Goals as goal

pub returns : goal.returns
unfolding contains
returns c = let a = c.args in
    let q : (512 * a.row + a.i) / 64 ≡ 8 * a.row + a.i / 64 = omega arith in
    let e : (512 * a.row + a.i) % 64 ≡ a.i % 64 = omega arith in
    (simp (q, e, bit_test), simp one_shl (rw (q, e) at (removed_word a.table.now (512 * a.row + a.i) (omega arith) (λ j. (c.slice_known-1.given j).fits))))
