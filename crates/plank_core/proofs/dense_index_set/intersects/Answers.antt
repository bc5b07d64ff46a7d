-- `intersects` meets its contract.
use mathlib.Core.Path.{◌≡◌, ap}
use mathlib.Core.Bool.{◌&&◌}
use Prim.Native.Nat.{ℕ}
use lib.ListN.{get_or}
use lib.Bits.{bit_and, and_le_l}
use borrow.Author.Tests.{tests}
use native.Mathlib.Omega.{arith}
use Rattle.std.specs.List.{zip}
use Rattle.std.proofs.Common.{rules}
use Rattle.std.proofs.lemmas.Slice.Zip.{length-zip, get_or-zip}
use Rattle.std.proofs.lemmas.Iterator.{cases_from_any, YieldsList-from_slice, YieldsList-from_zip}
use Rattle.plank_core.specs.inner.DenseIndexSet.{contains, meets}
use Rattle.plank_core.specs.laws.DenseIndexSet.{some_word, shows_meets}
use Rattle.plank_core.proofs.dense_index_set.intersects.Goals as goal

pub returns : goal.returns
unfolding meets
returns c =
    let s = c.args.set.now in
    let t = c.args.other.now in
    let both : ℕ → ℕ = λ j. bit_and (get_or s j 0) (get_or t j 0) in
    let cases = cases_from_any c.any.new.self _ c.any.result (λ p. bit_and p.0 p.1 ≡ 0 → ⊥) (λ p. bit_and p.0 p.1 ≡ 0) c.any.ensures.ran (YieldsList-from_zip {s = c.zip.result} (YieldsList-from_slice s cc) (YieldsList-from_slice t cc)) (λ x q k. search (rules, tests)) (λ x q k. search (rules, tests)) in
    some_word (λ n. contains s n && contains t n) both (shows_meets s t) (λ j. omega (arith, and_le_l (get_or s j 0) (get_or t j 0), c.type_inv.set j)) (zip s t) (0, 0) (omega (arith, length-zip s t, c.requires)) (λ p. bit_and p.0 p.1) (λ k h. ap (λ p. bit_and p.0 p.1) (get_or-zip s t k (0, 0) (omega (arith, c.requires)) (omega (arith, c.requires)))) c.any.result cases
