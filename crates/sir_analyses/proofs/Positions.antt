-- Laws of the places at which a local stands in a list of operands.
use mathlib.Core.Path.{◌≡◌, refl, sym}
use mathlib.Core.Bool.{Bool, true, false, not, cond}
use mathlib.Core.Option.{some}
use Prim.Native.Nat.{ℕ, zero, suc, ◌+◌}
use native.Mathlib.Omega.{arith}
use mathlib.Core.List.Memᴰ
use mathlib.Core.List.{List, [], ◌∷◌}
use lib.ListN.{length, get_elem?}
use lib.Dec.{eqb}
use borrow.Author.Tests.{eqb-true, eq-eqb, ne_eqb, not-true}
use Rattle.plank_core.specs.Lists.{mem, distinct, ◌∈◌}
use Rattle.plank_core.specs.laws.Lists.{and_true_left, and_true_right, none, in_mem, elem_mem}
use Rattle.sir_analyses.specs.Liveness.{positions, index_of}

pub positions_in : {v : ℕ} (i : ℕ) (xs : List ℕ) (k : ℕ) → get_elem? xs i ≡ some v → (k + i) ∈ positions v xs k
positions_in i [] k e = let z : ◌≡◌ {A = ℕ} 0 1 = cc in absurd (omega arith)
positions_in {v} zero (x ∷ xs) k e = let q : x ≡ v = cc in let z : k + 0 ≡ k = omega arith in rw (eq-eqb x v q) (Memᴰ.head z)
positions_in {v} (suc i) (x ∷ xs) k e = go (eqb x v) (Memᴰ.cast (omega arith) (positions_in i xs (suc k) e))
  where
    go : (b : Bool) → (k + suc i) ∈ positions v xs (suc k) → (k + suc i) ∈ cond b (k ∷ positions v xs (suc k)) (positions v xs (suc k))
    go true m = Memᴰ.tail m
    go false m = m

pub positions_out : {i : ℕ} (v : ℕ) (xs : List ℕ) (k : ℕ) → i ∈ positions v xs k → (j : ℕ) × (i ≡ k + j) × (get_elem? xs j ≡ some v)
positions_out v [] k m = absurd (Memᴰ.not-nil m)
positions_out {i} v (x ∷ xs) k m = go (eqb x v) refl (positions_out v xs (suc k)) m
  where
    next : (i ∈ positions v xs (suc k) → (j : ℕ) × (i ≡ suc k + j) × (get_elem? xs j ≡ some v)) → i ∈ positions v xs (suc k) → (j : ℕ) × (i ≡ k + j) × (get_elem? (x ∷ xs) j ≡ some v)
    next f h = let r = f h in (suc r.0, omega arith, r.2)

    go : (b : Bool) → eqb x v ≡ b → (i ∈ positions v xs (suc k) → (j : ℕ) × (i ≡ suc k + j) × (get_elem? xs j ≡ some v)) → i ∈ cond b (k ∷ positions v xs (suc k)) (positions v xs (suc k)) → (j : ℕ) × (i ≡ k + j) × (get_elem? (x ∷ xs) j ≡ some v)
    go true e f (Memᴰ.head h) = let q : x ≡ v = eqb-true x v e in (0, omega arith, cc)
    go true e f (Memᴰ.tail h) = next f h
    go false e f h = next f h

-- where v stands first
pub index_at : (v i : ℕ) (xs : List ℕ) → distinct xs ≡ true → get_elem? xs i ≡ some v → index_of v xs ≡ i
index_at v i [] d e = let z : ◌≡◌ {A = ℕ} 0 1 = cc in absurd (omega arith)
index_at v zero (x ∷ xs) d e = let q : x ≡ v = cc in rw (eq-eqb x v q)
index_at v (suc i) (x ∷ xs) d e =
    let new : mem x xs ≡ false = not-true (mem x xs) (and_true_left (not (mem x xs)) (distinct xs) d) in
    let n : ¬ (x ≡ v) = λ q. none (mem x xs) (in_mem x (Memᴰ.cast q (elem_mem xs i v e))) new in
    rw (ne_eqb x v n, index_at v i xs (and_true_right (not (mem x xs)) (distinct xs) d) e)

pub index_none : (v : ℕ) (xs : List ℕ) → ¬ (v ∈ xs) → index_of v xs ≡ length xs
index_none v [] n = refl
index_none v (x ∷ xs) n = rw (ne_eqb x v (λ q. n (Memᴰ.head (sym q))), index_none v xs (λ m. n (Memᴰ.tail m)))
