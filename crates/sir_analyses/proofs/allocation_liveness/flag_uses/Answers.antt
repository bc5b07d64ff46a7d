-- `flag_uses` meets its contract.
use mathlib.Core.Path.{◌≡◌, refl, sym, ap, ap₂, ◌∙◌, subst}
use mathlib.Core.Bool.{Bool, true, false}
use mathlib.Core.List.{List, []}
use Prim.Native.Nat.{ℕ, ◌<◌}
use Rattle.sir_analyses.specs.inner.Following.{follow_local}
use Rattle.sir_analyses.specs.inner.Discovery.{used_in}
use Rattle.sir_analyses.specs.inner.Stages.{PointerStep, PointerRoom}
use Rattle.sir_analyses.proofs.allocation_liveness.PointerTables.{flag_if, uses_flagged}
use Rattle.sir_analyses.proofs.allocation_liveness.flag_uses.Goals as goal
use Rattle.sir_analyses.proofs.allocation_liveness.flag_uses.Goals.{else-row_contains, then-row_contains}

-- the array after the first cause
flagged : (a : ℕ) (t u : Bool) (was q : List ℕ) → t ≡ u → q ≡ flag_if a t 1 was → q ≡ flag_if a u 1 was
flagged a t u was q e f = f ∙ ap (λ (b : Bool). flag_if a b 1 was) e

-- the array after both, where the second is told
ends : (a : ℕ) (used : ℕ → Bool) (was between q : List ℕ) (t : Bool) → PointerRoom was → a < 512 → between ≡ flag_if a (used 0) 1 was → t ≡ used 1 → q ≡ flag_if a t 2 between
    → PointerStep [] a (follow_local [] used a) was q
ends a used was between q t room small after e f =
    subst (λ (q : List ℕ). PointerStep [] a (follow_local [] used a) was q)
    (sym (f ∙ ap₂ (λ (t : Bool) (q : List ℕ). flag_if a t 2 q) e after))
    (uses_flagged room small used)

pub returns-then-row_contains-2 : goal.returns-then-row_contains-2
returns-then-row_contains-2 c =
    let was = c.args.pointers.now in
    let used = used_in c.args.causes.now c.args.local.0 in
    let after : c.if-row_contains.pointers ≡ flag_if c.args.a.0 (used 0) 1 was =
    elim c.if-row_contains.branch [ then-row_contains x ↦ flagged c.args.a.0 true _ was _ (sym x.if-row_contains.true ∙ c.row_contains.ensures) (x.pointers-is ∙ x.set_flag.ensures) | else-row_contains x ↦ flagged c.args.a.0 false _ was _ (sym x.if-row_contains.false ∙ c.row_contains.ensures) x.pointers-is ] in
    ends c.args.a.0 used was _ _ true c.requires.causes_len.1 c.requires.local_bound.1 after (sym c.if-row_contains-2.true ∙ c.row_contains-2.ensures) c.set_flag-then-row_contains-2.ensures

pub returns-else-row_contains-2 : goal.returns-else-row_contains-2
returns-else-row_contains-2 c =
    let was = c.args.pointers.now in
    let used = used_in c.args.causes.now c.args.local.0 in
    let after : c.if-row_contains.pointers ≡ flag_if c.args.a.0 (used 0) 1 was =
    elim c.if-row_contains.branch [ then-row_contains x ↦ flagged c.args.a.0 true _ was _ (sym x.if-row_contains.true ∙ c.row_contains.ensures) (x.pointers-is ∙ x.set_flag.ensures) | else-row_contains x ↦ flagged c.args.a.0 false _ was _ (sym x.if-row_contains.false ∙ c.row_contains.ensures) x.pointers-is ] in
    ends c.args.a.0 used was _ _ false c.requires.causes_len.1 c.requires.local_bound.1 after (sym c.if-row_contains-2.false ∙ c.row_contains-2.ensures) refl
