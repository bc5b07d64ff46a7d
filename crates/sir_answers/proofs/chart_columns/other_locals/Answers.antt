-- `other_locals` meets its contract. The invariant: the set has those of the locals before v that are not of the series.
use mathlib.Core.Bool.{Bool, not, ◌&&◌}
use mathlib.Core.Path.{◌≡◌, sym, ap, ◌∙◌}
use Prim.Native.Nat.{ℕ, ◌+◌, ◌*◌}
use native.Mathlib.Omega.{arith}
use lib.ListN.{length}
use borrow.Author.Tests.{lt-ltb}
use Rattle.sir_analyses.proofs.allocation_liveness.PointerTables.{allocations_few}
use Rattle.sir_analyses.proofs.allocation_answers.AllocationWords.{below_none, below_more, below_on}
use Rattle.sir_answers.specs.inner.Columns.{in_series}
use Rattle.sir_answers.specs.inner.AllocationPieces.{owner_number, unmarked_owner}
use Rattle.sir_answers.proofs.chart_columns.other_locals.Goals as goal
use Rattle.sir_answers.proofs.chart_columns.other_locals.Goals.{then-not-in_series, else-not-in_series}

pub loop-v-init : goal.loop-v-init
loop-v-init c =
    (ap length c.requires.series_bound.1, below_none (λ u. not (in_series c.args.series (unmarked_owner c.args.pointers.now u))) c.args.others.now c.requires.series_bound.1)

pub unmarked_owner-owner-requires : goal.unmarked_owner-owner-requires
unmarked_owner-owner-requires c =
    let stage = c.requires.by_index.1 in
    (omega arith, omega (arith, stage.discovered.owner_known c.loop-v.v, allocations_few stage))

pub loop-v-preserved : goal.loop-v-preserved
loop-v-preserved c =
    let a = c.args in
    let l = c.loop-v in
    let own : ℕ → Bool = λ u. not (in_series a.series (unmarked_owner a.pointers.now u)) in
    let known : own l.v ≡ not (in_series a.series (owner_number c.unmarked_owner-owner.result)) = ap (λ (x : ℕ). not (in_series a.series x)) (sym c.unmarked_owner-owner.ensures.0) in
    let place : 512 * 0 + l.v ≡ l.v = omega arith in
    elim c.if-not-in_series.branch [
      | then-not-in_series w ↦ rw w.others-is
          (omega (arith, w.row_add.auto, l.invariant.0), below_more own l.others l.v l.invariant.1 _ l.invariant.0 (rw place at w.row_add.ensures.1) (known ∙ ap not (sym c.in_series.ensures ∙ w.if-not-in_series.true)))
      | else-not-in_series w ↦ rw w.others-is (l.invariant.0, below_on own l.others l.v l.invariant.1 (known ∙ ap not (sym c.in_series.ensures ∙ w.if-not-in_series.false)))
    ]

pub returns : goal.returns
returns c =
    let a = c.args in
    let l = c.loop-v in
    let all : l.v ≡ 512 = omega arith in
    record {
      long = l.invariant.0;
      other_is = λ u h. l.invariant.1 u h ∙ ap (λ (t : Bool). t && not (in_series a.series (unmarked_owner a.pointers.now u))) (lt-ltb u l.v (omega arith));
    }
