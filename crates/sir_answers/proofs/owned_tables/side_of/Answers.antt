-- `side_of` meets its contract.
use mathlib.Core.Path.{◌≡◌, sym, ap, ◌∙◌}
use Prim.Native.Nat.{ℕ, ◌*◌, ◌+◌}
use mathlib.Core.Bool.{Bool, cond}
use native.Mathlib.Omega.{arith}
use lib.ListN.{length}
use Rattle.plank_core.specs.inner.DenseIndexSet.{contains}
use Rattle.plank_core.specs.laws.DenseIndexSet.{length_row}
use Rattle.sir_analyses.specs.inner.Stages.{part}
use Rattle.sir_answers.specs.inner.AllocationPieces.{own_rows_in}
use Rattle.sir_analyses.proofs.stages.Parts.{length_part}
use Rattle.sir_answers.proofs.owned_tables.OwnedTables.{side_zero}
use Rattle.sir_answers.proofs.owned_tables.side_of.Goals as goal

pub returns-then-row_contains : goal.returns-then-row_contains
returns-then-row_contains c =
    let a = c.args in
    let at : a.v.0 ≡ 512 * 0 + a.v.0 = omega arith in
    sym (side_zero a.owned.now a.set.now a.a a.v.0 c.requires.owned_len.3 c.requires.v_value (ap (contains a.set.now) at ∙ sym c.row_contains.ensures ∙ c.if-row_contains.true))

pub intersects-requires : goal.intersects-requires
unfolding part
intersects-requires c =
    let owned = c.args.owned.now in
    (ap length c.row_of.ensures ∙ length_row (own_rows_in owned) c.args.a (omega (arith, length_part 8 4096 owned (omega (arith, c.requires.owned_len.0)), c.requires.owned_len.2)), c.requires.owned_len.1)

pub returns-then-intersects : goal.returns-then-intersects
unfolding part
returns-then-intersects c =
    let e = sym c.intersects.ensures ∙ c.if-intersects.true in
    sym (ap (λ (t : Bool). cond {A = ℕ} t 0 1) (rw c.row_of.ensures at e))

pub returns : goal.returns
unfolding part
returns c =
    let e = sym c.intersects.ensures ∙ c.if-intersects.false in
    sym (ap (λ (t : Bool). cond {A = ℕ} t 0 1) (rw c.row_of.ensures at e))
