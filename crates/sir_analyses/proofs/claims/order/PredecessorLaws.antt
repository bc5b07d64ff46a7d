-- How often a block stands among the predecessors of another, and in which order they stand.
use mathlib.Core.Path.{◌≡◌, refl, ap₂, ◌∙◌}
use mathlib.Core.Bool.{Bool, true, false, cond}
use Prim.Native.Nat.{ℕ, zero, suc, ◌+◌, ◌≤◌, ◌<◌}
use native.Mathlib.Omega.{arith}
use mathlib.Core.List.{List, [], ◌∷◌, ◌++◌, map}
use lib.ListN.{length}
use lib.Dec.{eqb, leb}
use borrow.Author.Tests.{eqb-true, eqb-false, eq-eqb, ne_eqb, le-leb}
use Rattle.plank_core.specs.Lists.{count, bind, all, keep, one_if, times}
use Rattle.plank_core.specs.laws.Lists.{both_true, times_append}
use Rattle.plank_core.specs.laws.Distinct.{eqb_swap}
use Rattle.sir_data.specs.Records.{blocks, successors}
use Rattle.sir_analyses.specs.Order.{is_visited, edges_from, predecessors}
use Rattle.sir_analyses.specs.Claims.{ascending}

-- ---- one number, some times over

times_same : (p : ℕ) (ys : List ℕ) → times p (map (λ s. p) ys) ≡ length ys
times_same p [] = refl
times_same p (y ∷ ys) = rw (eq-eqb p p refl) (omega (arith, times_same p ys))

times_other : (q p : ℕ) (ys : List ℕ) → ¬ (q ≡ p) → times q (map (λ s. p) ys) ≡ 0
times_other q p [] n = refl
times_other q p (y ∷ ys) n = rw (ne_eqb q p n) (omega (arith, times_other q p ys n))

length_keep : (b : ℕ) (xs : List ℕ) → length (keep (λ s. eqb s b) xs) ≡ times b xs
length_keep b [] = refl
length_keep b (x ∷ xs) = rw (eqb_swap x b) (go (eqb b x) (length_keep b xs))
  where
    go : (t : Bool) → length (keep (λ s. eqb s b) xs) ≡ times b xs → length (cond t (x ∷ keep (λ s. eqb s b) xs) (keep (λ s. eqb s b) xs)) ≡ one_if t + times b xs
    go true h = omega arith
    go false h = omega arith

all_same : (k p : ℕ) (ys rest : List ℕ) → k ≤ p → all (leb k) rest ≡ true → all (leb k) (map (λ s. p) ys ++ rest) ≡ true
all_same k p [] rest l h = h
all_same k p (y ∷ ys) rest l h = both_true (leb k p) (all (leb k) (map (λ s. p) ys ++ rest)) (le-leb k p l) (all_same k p ys rest l h)

ascending_same : (p : ℕ) (ys rest : List ℕ) → all (leb p) rest ≡ true → ascending rest ≡ true → ascending (map (λ s. p) ys ++ rest) ≡ true
ascending_same p [] rest h a = a
ascending_same p (y ∷ ys) rest h a =
    both_true (all (leb p) (map (λ s. p) ys ++ rest)) (ascending (map (λ s. p) ys ++ rest))
    (all_same p p ys rest (omega arith) h) (ascending_same p ys rest h a)

-- ---- the edges to b from the blocks s, s + 1, .., of which `on` holds

module _ (w : List ℕ) (b : ℕ) (on : ℕ → Bool) where
  abbrev edges : ℕ → ℕ → List ℕ
  edges s n = bind (keep on (count s n)) (λ p. edges_from w p b)

  -- what holds with the edges of s in front and without holds of the edges from s on
  edges_step : (P : List ℕ → Type 0) (s n : ℕ) → (on s ≡ true → P (edges_from w s b ++ edges (suc s) n)) → (on s ≡ false → P (edges (suc s) n)) → P (edges s (suc n))
  edges_step P s n f g = go (on s) f g
    where
      go : (t : Bool) → (t ≡ true → P (edges_from w s b ++ edges (suc s) n)) → (t ≡ false → P (edges (suc s) n)) → P (bind (cond t (s ∷ keep on (count (suc s) n)) (keep on (count (suc s) n))) (λ p. edges_from w p b))
      go true f g = f refl
      go false f g = g refl

  edges_before : (q s n : ℕ) → q < s → times q (edges s n) ≡ 0
  edges_before q s zero l = refl
  edges_before q s (suc n) l =
      let h = edges_before q (suc s) n (omega arith) in
      edges_step (λ xs. times q xs ≡ 0) s n
      (λ e. times_append q (edges_from w s b) (edges (suc s) n)
      ∙ omega (arith, times_other q s (keep (λ t. eqb t b) (successors w s)) (λ z. omega arith)))
      (λ e. h)

  pub edges_times : (q s n : ℕ) → on q ≡ true → s ≤ q → q < s + n → times q (edges s n) ≡ times b (successors w q)
  edges_times q s zero v l m = absurd (omega arith)
  edges_times q s (suc n) v l m = go (eqb q s) refl (edges_times q (suc s) n v)
    where
      go : (t : Bool) → eqb q s ≡ t → (suc s ≤ q → q < suc s + n → times q (edges (suc s) n) ≡ times b (successors w q)) → times q (edges s (suc n)) ≡ times b (successors w q)
      go true e rest =
          let i : q ≡ s = eqb-true q s e in
          let ks : List ℕ = keep (λ t. eqb t b) (successors w q) in
          rw (← i) (rw v
          (times_append q (edges_from w q b) (edges (suc q) n)
          ∙ ap₂ ◌+◌ (times_same q ks ∙ length_keep b (successors w q)) (edges_before q (suc q) n (omega arith)) ∙ omega arith))
      go false e rest =
          let i : ¬ (q ≡ s) = eqb-false q s e in
          let h = rest (omega arith) (omega arith) in
          edges_step (λ xs. times q xs ≡ times b (successors w q)) s n
          (λ e. times_append q (edges_from w s b) (edges (suc s) n) ∙ ap₂ ◌+◌ (times_other q s (keep (λ t. eqb t b) (successors w s)) i) h ∙ omega arith)
          (λ e. h)

  edges_all : (k s n : ℕ) → k ≤ s → all (leb k) (edges s n) ≡ true
  edges_all k s zero l = refl
  edges_all k s (suc n) l =
      let h = edges_all k (suc s) n (omega arith) in
      edges_step (λ xs. all (leb k) xs ≡ true) s n (λ e. all_same k s (keep (λ t. eqb t b) (successors w s)) (edges (suc s) n) l h) (λ e. h)

  pub edges_ascend : (s n : ℕ) → ascending (edges s n) ≡ true
  edges_ascend s zero = refl
  edges_ascend s (suc n) =
      let h = edges_ascend (suc s) n in
      edges_step (λ xs. ascending xs ≡ true) s n
      (λ e. ascending_same s (keep (λ t. eqb t b) (successors w s)) (edges (suc s) n) (edges_all s (suc s) n (omega arith)) h) (λ e. h)

module _ (w : List ℕ) where
  pub predecessor_times : (p b : ℕ) → is_visited w p ≡ true → p < blocks w → times p (predecessors w b) ≡ times b (successors w p)
  predecessor_times p b v l = edges_times w b (is_visited w) p 0 (blocks w) v (omega arith) (omega arith)

  pub predecessors_ascend : (b : ℕ) → ascending (predecessors w b) ≡ true
  predecessors_ascend b = edges_ascend w b (is_visited w) 0 (blocks w)
