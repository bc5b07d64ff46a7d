-- `owned_locals` meets its contract. The invariant: those below v are added.
use Rattle.sir_analyses.specs.inner.Stages.{owners_in}
use mathlib.Core.Path.{◌≡◌, refl, sym, ap, ◌∙◌}
use mathlib.Core.Bool.{Bool}
use Prim.Native.Nat.{ℕ, ◌+◌}
use native.Mathlib.Omega.{arith}
use lib.ListN.{length, get_or}
use lib.Dec.{eqb}
use Rattle.plank_core.specs.inner.DenseIndexSet.{added}
use Rattle.sir_analyses.proofs.allocation_answers.AllocationWords.{named_is, Below, below_none, below_more, below_on}
use Rattle.sir_analyses.proofs.allocation_answers.owned_locals.Goals as goal
use Rattle.sir_analyses.proofs.allocation_answers.owned_locals.Goals.{else-eq, then-eq}

pub loop-v-init : goal.loop-v-init
loop-v-init c =
    (ap length c.requires.a_bound.1, below_none (λ u. eqb (get_or (owners_in c.args.pointers.now) u 0) (c.args.a.0 + 1)) c.args.set.now c.requires.a_bound.1)

pub loop-v-preserved : goal.loop-v-preserved
loop-v-preserved c =
    let L = c.loop-v in
    let own : ℕ → Bool = λ u. eqb (get_or (owners_in c.args.pointers.now) u 0) (c.args.a.0 + 1) in
    let z : 0 + L.v ≡ L.v = omega arith in
    let told : c.eq.result ≡ own L.v = c.eq.ensures ∙ rw c.owner.ensures (named_is _ (λ x y. refl) (get_or (owners_in c.args.pointers.now) L.v 0) c.args.a) in
    let g : (length c.if-eq.set ≡ 8) × Below own (L.v + 1) c.if-eq.set =
    elim c.if-eq.branch [ then-eq x ↦ rw x.set-is (omega (arith, x.row_add.auto, L.invariant.0), below_more own L.set L.v L.invariant.1 x.row_add.new.table L.invariant.0 (x.row_add.ensures.1 ∙ ap (added L.set) z) (sym told ∙ x.if-eq.true)) | else-eq x ↦ rw x.set-is (L.invariant.0, below_on own L.set L.v L.invariant.1 (sym told ∙ x.if-eq.false)) ] in
    (g.0, g.1)
