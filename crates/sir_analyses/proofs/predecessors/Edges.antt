-- Edges and predecessors, one by one.
use mathlib.Core.Path.{◌≡◌, refl, ap, ◌∙◌}
use mathlib.Core.Bool.{Bool, true, false, cond}
use mathlib.Core.List.{List, [], ◌∷◌, ◌++◌, map}
use Prim.Native.Nat.{ℕ, zero, suc, ◌+◌, ◌*◌, ◌≤◌, ◌<◌}
use native.Mathlib.Omega.{arith}
use lib.ListN.{length, get_or, drop, length-append, length-map, drop_of_length-le}
use lib.Dec.{eqb}
use borrow.Author.Tests.{eq-eqb, ne_eqb, eqb-true}
use Rattle.plank_core.specs.Lists.{count, range, upto, bind, keep}
use Rattle.plank_core.specs.laws.Lists.{keep_most, keep_out, mem_upto}
use Rattle.plank_core.specs.laws.Loops.{range_next, range_none, length_count, length_map_count, drop_next}
use Rattle.sir_data.specs.Records.{blocks, control, field, target, optional, successors}
use Rattle.sir_data.specs.inner.WellFormed.{WellFormed}
use Rattle.sir_analyses.specs.Order.{is_visited, edges_from, predecessors}
use Rattle.plank_core.specs.laws.Folds.{bind_most}

module _ (w : List ℕ) (p b : ℕ) where
  -- the edges from successor i on
  abbrev pub edges_left : ℕ → List ℕ
  edges_left i = map (λ s. p) (keep (λ s. eqb s b) (drop i (successors w p)))

  module _ (i : ℕ) (h : i < length (successors w p)) where
    next : edges_left i ≡ map (λ s. p) (keep (λ s. eqb s b) (get_or (successors w p) i 0 ∷ drop (i + 1) (successors w p)))
    next = ap (λ (l : List ℕ). map (λ s. p) (keep (λ s. eqb s b) l)) (drop_next i (successors w p) h)

    pub edge_here : get_or (successors w p) i 0 ≡ b → edges_left i ≡ (p ∷ []) ++ edges_left (i + 1)
    edge_here e = next ∙ rw (eq-eqb (get_or (successors w p) i 0) b e)

    pub edge_other : (get_or (successors w p) i 0 ≡ b → ⊥) → edges_left i ≡ edges_left (i + 1)
    edge_other e = next ∙ rw (ne_eqb (get_or (successors w p) i 0) b e)

  pub edges_end : (i : ℕ) → length (successors w p) ≤ i → edges_left i ≡ []
  edges_end i h = rw (drop_of_length-le (successors w p) {i = i} h)

-- what g gives of the visited blocks from p on
module _ {B : Type 0} (w : List ℕ) (g : ℕ → List B) (p n : ℕ) where
  abbrev pub visited_left : List B
  visited_left = bind (keep (is_visited w) (range p n)) g

  pub visited_step : p < n → is_visited w p ≡ true → visited_left ≡ g p ++ bind (keep (is_visited w) (range (p + 1) n)) g
  visited_step h t = ap (λ (l : List ℕ). bind (keep (is_visited w) l) g) (range_next p n h) ∙ rw t

  pub unvisited_step : p < n → is_visited w p ≡ false → visited_left ≡ bind (keep (is_visited w) (range (p + 1) n)) g
  unvisited_step h t = ap (λ (l : List ℕ). bind (keep (is_visited w) l) g) (range_next p n h) ∙ rw t

  pub visited_end : n ≤ p → visited_left ≡ []
  visited_end h = rw (range_none p n h)

module _ (w : List ℕ) (b p n : ℕ) where
  -- the predecessors from block p on
  abbrev pub predecessors_left : List ℕ
  predecessors_left = visited_left w (λ q. edges_from w q b) p n

-- ---- how many predecessors a block can have

optional_most : (k : ℕ) → length (optional k) ≤ 1
optional_most zero = omega arith
optional_most (suc k) = omega arith

pub successors_most : (w : List ℕ) → WellFormed w → (b : ℕ) → b < blocks w → length (successors w b) ≤ 513
successors_most w good b l = go (eqb (control w b) 2) (eqb (control w b) 3) (eqb (control w b) 4) refl
  where
    go : (t u v : Bool) → eqb (control w b) 4 ≡ v
        → length (cond t (field w b 0 ∷ []) (cond u (field w b 2 ∷ field w b 1 ∷ []) (cond v (map (target w) (count (field w b 1) (field w b 2)) ++ optional (field w b 3)) []))) ≤ 513
    go true u v e = omega arith
    go false true v e = omega arith
    go false false true e =
        omega (
          arith,
          length-append (map (target w) (count (field w b 1) (field w b 2))) (optional (field w b 3)),
          length_map_count (target w) (field w b 1) (field w b 2),
          optional_most (field w b 3),
          good.in_range.switch_range b l (eqb-true (control w b) 4 e),
          good.sized.targets_most,
        )
    go false false false e = omega arith

pub predecessors_most : (w : List ℕ) → WellFormed w → (b : ℕ) → length (predecessors w b) ≤ 513 * 256
predecessors_most w good b =
    omega (
      arith,
      bind_most (λ p. edges_from w p b) 513 (keep (is_visited w) (upto (blocks w))) (λ p m.
          omega (arith, length-map (keep (λ s. eqb s b) (successors w p)) (λ s. p), keep_most (λ s. eqb s b) (successors w p), successors_most w good p (mem_upto p (blocks w) (keep_out (is_visited w) (upto (blocks w)) m).0))),
      keep_most (is_visited w) (upto (blocks w)),
      length_count 0 (blocks w),
      good.sized.blocks_most,
    )
