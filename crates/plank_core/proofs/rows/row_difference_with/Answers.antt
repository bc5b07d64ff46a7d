-- `row_difference_with` meets its contract. The invariant: the first k words of the row have lost those of the set.
use mathlib.Core.Path.{◌≡◌, refl, ◌∙◌}
use native.Mathlib.Omega.{arith}
use lib.ListN.{length-set}
use Rattle.plank_core.specs.laws.DenseIndexSet.{Fit, row_to, row_to_next, row_to_fit, minus, difference_words}
use Rattle.plank_core.proofs.rows.row_difference_with.Goals as goal

pub loop-k-init : goal.loop-k-init
unfolding row_to
loop-k-init c = (omega arith, refl, refl, λ h. absurd (omega arith))

pub loop-k-preserved : goal.loop-k-preserved
loop-k-preserved c = let l = c.loop-k in
    let a = c.args in (
      omega arith,
      simp length-set l.invariant.1,
      row_to_next minus a.table.now a.row a.set.now l.k l.invariant.2,
      λ h. row_to_fit minus a.table.now a.row a.set.now l.k l.invariant.2 l.invariant.3 (λ j. (c.slice_known-1.given j).fits) (λ j. (c.type_inv.set j).fits),
    )

pub returns : goal.returns
returns c = let e : c.loop-k.k ≡ 8 = omega arith in
    let a = c.args in
    let f : Fit a.table.now × Fit a.set.now = c.loop-k.invariant.3 (omega arith) in
    rw e at c.loop-k.invariant.2 ∙ difference_words a.table.now a.row a.set.now c.requires.1 c.requires.0 f.0 f.1
