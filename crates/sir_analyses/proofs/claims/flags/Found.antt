-- What linking tells: the owner before, and no meeting but with another; what the source does goes by it.
use mathlib.Core.Path.{◌≡◌, refl, sym, ap, ◌∙◌}
use mathlib.Core.Bool.{Bool, true, false, cond}
use Prim.Native.Nat.{ℕ, zero, suc, ◌-◌}
use mathlib.Core.List.{[], ◌∷◌}
use lib.ListN.{get_or, set}
use native.Mathlib.Omega.{arith}
use lib.Dec.{eqb}
use borrow.Author.Tests.{eqb-true, eqb-false}
use Rattle.sir_analyses.specs.Liveness.{add_all}
use Rattle.sir_analyses.specs.Propagation.{State, link_local}
use Rattle.sir_analyses.specs.Flags.{owner_before, found, linked_by}
use Rattle.sir_analyses.specs.declared.allocation_liveness.Found.{Found}

pub told : (a old : ℕ) → owner_before a (found a old) ≡ old
told a old = go old (eqb old 0) refl (eqb old (suc a)) refl
  where
    go : (old : ℕ) (t : Bool) → eqb old 0 ≡ t → (u : Bool) → eqb old (suc a) ≡ u → owner_before a (cond t Found.First (cond u Found.Before (Found.Met (record { 0 = old - 1 })))) ≡ old
    go old true e u k = sym (eqb-true old 0 e)
    go old false e true k = sym (eqb-true old (suc a) k)
    go zero false e false k = absurd (eqb-false 0 0 e refl)
    go (suc c) false e false k = let z : suc (suc c - 1) ≡ suc c = omega arith in z

-- the owner before, where that is told
pub told_is : (a old : ℕ) {f : Found} → found a old ≡ f → old ≡ owner_before a f
told_is a old e = sym (told a old) ∙ ap (owner_before a) e

pub meets_another : (a old b : ℕ) → found a old ≡ Found.Met (record { 0 = b }) → ¬ (a ≡ b)
meets_another a old b f q = go (eqb old 0) refl (eqb old (suc a)) refl f
  where
    is : old ≡ suc b
    is = told_is a old f

    go : (t : Bool) → eqb old 0 ≡ t → (u : Bool) → eqb old (suc a) ≡ u → cond t Found.First (cond u Found.Before (Found.Met (record { 0 = old - 1 }))) ≡ Found.Met (record { 0 = b }) → ⊥
    go true e u k f = let z : 0 ≡ suc b = ap (owner_before 0) f in omega arith
    go false e true k f = let z : suc (suc b) ≡ suc b = ap (owner_before (suc b)) f in omega arith
    go false e false k f = eqb-false old (suc a) k (omega (arith, is))

pub linked_so : (a v : ℕ) (s : State) → link_local a s v ≡ linked_by a s v (found a (get_or s.owner v 0))
linked_so a v s = go (eqb (get_or s.owner v 0) 0) (eqb (get_or s.owner v 0) (suc a))
  where
    go : (t u : Bool)
        → cond t
        (record { owner = set s.owner v (suc a); marks = s.marks; work = v ∷ s.work })
        (record { owner = set s.owner v (suc a); marks = cond u s.marks (add_all s.marks (a ∷ (get_or s.owner v 0 - 1) ∷ [])); work = s.work })
        ≡ linked_by a s v (cond t Found.First (cond u Found.Before (Found.Met (record { 0 = get_or s.owner v 0 - 1 }))))
    go true u = refl
    go false true = refl
    go false false = refl
