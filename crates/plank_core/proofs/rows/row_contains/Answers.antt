-- `row_contains` meets its contract: number i of a row is digit i % 64 of word 8 * row + i / 64.
use mathlib.Core.Path.{◌≡◌}
use Prim.Native.Nat.{◌+◌, ◌*◌, ◌/◌, ◌%◌}
use native.Mathlib.Omega.{arith}
use Rattle.plank_core.specs.inner.DenseIndexSet.{contains}
use Rattle.plank_core.specs.laws.Bits.{bit_test}
use Rattle.plank_core.proofs.rows.row_contains.Goals as goal

pub returns : goal.returns
unfolding contains
returns c = let a = c.args in
    let q : (512 * a.row + a.i) / 64 ≡ 8 * a.row + a.i / 64 = omega arith in
    let e : (512 * a.row + a.i) % 64 ≡ a.i % 64 = omega arith in
    simp (q, e, bit_test)
