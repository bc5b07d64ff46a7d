-- Laws of tables that show sets: rows filled one after the other, and members added step by step.
use mathlib.Core.Path.{◌≡◌, refl, sym, ap, ◌∙◌}
use mathlib.Core.Bool.{Bool, false, ◌&&◌, ◌||◌, or-false, or_assoc}
use mathlib.Core.List.{List, [], ◌∷◌}
use Prim.Native.Nat.{ℕ, ◌+◌, ◌*◌, ◌≤◌, ◌<◌}
use native.Mathlib.Omega.{arith}
use lib.ListN.{length, replicate, length-replicate}
use lib.Dec.{eqb, ltb}
use borrow.Author.Tests.{lt-ltb, le-ltb}
use Rattle.plank_core.specs.Lists.{mem}
use Rattle.plank_core.specs.inner.DenseIndexSet.{contains, added, row_union}
use Rattle.plank_core.specs.laws.DenseIndexSet.{contains_cleared, contains_row_added, contains_union, length_added, length_union}
use Rattle.sir_analyses.specs.inner.Tables.{Rows, Adds}
use Rattle.plank_core.specs.laws.Prefixes.{below_more}

-- ---- a table of zeros

pub cleared_long : (t : List ℕ) (m : ℕ) → t ≡ replicate m 0 → length t ≡ m
cleared_long t m e = ap length e ∙ length-replicate m 0

pub cleared_row : (t : List ℕ) (m r i : ℕ) → t ≡ replicate m 0 → contains t (512 * r + i) ≡ false
cleared_row t m r i e = ap (λ (ws : List ℕ). contains ws (512 * r + i)) e ∙ contains_cleared m (512 * r + i)

-- ---- one step

pub adds_one : (t : List ℕ) (row i : ℕ) → i < 512 → Adds t (λ r n. eqb r row && eqb n i) (added t (512 * row + i))
adds_one t row i h = record { long = length_added t (512 * row + i); same = λ r n l k. contains_row_added t row i r n h k l }

pub adds_union : (t : List ℕ) (row : ℕ) (s : List ℕ) → Adds t (λ r n. eqb r row && contains s n) (row_union t row s)
adds_union t row s = record { long = length_union t row s; same = λ r n l k. contains_union t row s r n k l }

module _ {t : List ℕ} {p q : ℕ → ℕ → Bool} {t' : List ℕ} where
  -- the same members, said in another way
  pub adds_as : ((r i : ℕ) → i < 512 → p r i ≡ q r i) → Adds t p t' → Adds t q t'
  adds_as e a = record { long = a.long; same = λ r i l k. a.same r i l k ∙ ap (λ (x : Bool). contains t (512 * r + i) || x) (e r i k) }

  pub adds_then : {t'' : List ℕ} → Adds t p t' → Adds t' q t'' → Adds t (λ r i. p r i || q r i) t''
  adds_then a b = record {
    long = b.long ∙ a.long;
    same = λ r i l k.
        b.same r i (omega (arith, a.long)) k ∙ ap (λ (x : Bool). x || q r i) (a.same r i l k)
        ∙ or_assoc (contains t (512 * r + i)) (p r i) (q r i);
  }

-- nothing to add
pub adds_none : {t : List ℕ} {p : ℕ → ℕ → Bool} → ((r i : ℕ) → i < 512 → p r i ≡ false) → Adds t p t
adds_none {t} e = record { long = refl; same = λ r i l k. sym (ap (λ (x : Bool). contains t (512 * r + i) || x) (e r i k) ∙ or-false (contains t (512 * r + i))) }

-- a list of one, and of none
pub adds_single : (t : List ℕ) (row i : ℕ) (xs : List ℕ) → xs ≡ i ∷ [] → i < 512 → Adds t (λ r n. eqb r row && mem n xs) (added t (512 * row + i))
adds_single t row i xs e h = adds_as (λ r n l. ap (λ (x : Bool). eqb r row && x) (sym (or-false (eqb n i)) ∙ ap (mem n) (sym e))) (adds_one t row i h)

-- ---- rows filled one after the other

-- the first k of n rows are filled, the others empty
abbrev pub Filled : List ℕ → ℕ → ℕ → (ℕ → ℕ → Bool) → Type 0
Filled t n k f = Rows t n (λ r i. ltb r k && f r i)

pub filled_starts : (t : List ℕ) (m n : ℕ) (f : ℕ → ℕ → Bool) → t ≡ replicate m 0 → Filled t n 0 f
filled_starts t m n f e r i l h = cleared_row t m r i e ∙ rw (le-ltb r 0 (omega arith))

pub filled_more : (t t' : List ℕ) (n k : ℕ) (f : ℕ → ℕ → Bool) → 8 * n ≤ length t → Filled t n k f → Adds t (λ r i. eqb r k && f k i) t' → Filled t' n (k + 1) f
filled_more t t' n k f w g a r i l h =
    a.same r i (omega arith) h ∙ ap (λ (x : Bool). x || (eqb r k && f k i)) (g r i l h) ∙ below_more r k (λ q. f q i)

-- a row that is still to be filled
pub filled_not : (t : List ℕ) (n k : ℕ) (f : ℕ → ℕ → Bool) → k < n → Filled t n k f → (i : ℕ) → i < 512 → contains t (512 * k + i) ≡ false
filled_not t n k f l g i h = g k i l h ∙ rw (le-ltb k k (omega arith))

pub filled_ends : (t : List ℕ) (n k m : ℕ) (f : ℕ → ℕ → Bool) → m ≤ k → m ≤ n → Filled t n k f → Rows t m f
filled_ends t n k m f h j g r i l b = g r i (omega arith) b ∙ rw (lt-ltb r k (omega arith))
