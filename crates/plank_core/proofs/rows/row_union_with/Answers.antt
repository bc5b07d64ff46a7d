-- `row_union_with` meets its contract. The invariant: the first k words of the row have taken in those of the set, and `grew` tells whether one changed.
use mathlib.Core.Path.{◌≡◌, refl, ◌∙◌}
use native.Mathlib.Omega.{arith}
use lib.ListN.{length-set}
use mathlib.Core.Bool.{true, false}
use lib.Bits.{bit_or}
use borrow.Author.Tests.{eq-eqb, ne_eqb}
use Rattle.plank_core.specs.laws.DenseIndexSet.{Fit, row_to, row_to_next, row_to_fit, changes_next, union_words, grows_words}
use Rattle.plank_core.proofs.rows.row_union_with.Goals as goal
use Rattle.plank_core.proofs.rows.row_union_with.Goals.{else-new-old, then-new-old}

pub loop-k-init : goal.loop-k-init
unfolding row_to
loop-k-init c = (omega arith, refl, refl, λ h. absurd (omega arith), refl)

pub loop-k-preserved : goal.loop-k-preserved
loop-k-preserved c = let l = c.loop-k in
    let a = c.args in (
      omega arith,
      simp length-set l.invariant.1,
      row_to_next bit_or a.table.now a.row a.set.now l.k l.invariant.2,
      λ h. row_to_fit bit_or a.table.now a.row a.set.now l.k l.invariant.2 l.invariant.3 (λ j. (c.slice_known-1.given j).fits) (λ j. (c.type_inv.set j).fits),
      elim c.if-new-old.branch [ then-new-old w ↦ w.grew-is ∙ changes_next a.table.now a.row a.set.now l.k false l.invariant.2 l.invariant.4 (ne_eqb _ _ w.if-new-old.true) | else-new-old w ↦ w.grew-is ∙ changes_next a.table.now a.row a.set.now l.k true l.invariant.2 l.invariant.4 (eq-eqb _ _ w.if-new-old.false) ],
    )

pub returns : goal.returns
returns c = let e : c.loop-k.k ≡ 8 = omega arith in
    let a = c.args in
    let f : Fit a.table.now × Fit a.set.now = c.loop-k.invariant.3 (omega arith) in
    (rw e at c.loop-k.invariant.4 ∙ grows_words a.table.now a.row a.set.now f.0 f.1, rw e at c.loop-k.invariant.2 ∙ union_words a.table.now a.row a.set.now c.requires.1 c.requires.0 f.0 f.1)
