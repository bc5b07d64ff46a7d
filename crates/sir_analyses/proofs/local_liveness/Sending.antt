-- What one block sends: its entry set, with its inputs taken out, and what of it arrives at the exits of its predecessors.
use mathlib.Core.Path.{◌≡◌, refl, sym, ap, ap₂, subst, ◌∙◌}
use mathlib.Core.Logic.{⊎_elim}
use mathlib.Core.Bool.{Bool, true, false, not, ◌&&◌, ◌||◌, cond, and-true, or_comm}
use mathlib.Core.List.Memᴰ
use mathlib.Core.List.{List, [], ◌∷◌, ◌++◌, append-nil}
use Prim.Native.Nat.{ℕ, ◌+◌, ◌*◌, ◌≤◌, ◌<◌}
use native.Mathlib.Omega.{arith}
use native.Mathlib.Numerals.{add-one}
use lib.ListN.{length, get_or, set, take, replicate, length-set, get_or-eq_default}
use lib.Seq.{length-take-le, take-suc, take-suc-set, get_or-take, take_all}
use lib.Dec.{eqb}
use Rattle.plank_core.specs.Lists.{upto, keep, mem, distinct, ◌∈◌}
use Rattle.plank_core.specs.laws.Lists.{and_true_left, both_true, or_true_left, or_true_right, or_cases, none, upto_mem, mem_upto, keep_mem, keep_out, mem_in, in_mem, mem_not, mem_snoc, mem_place, get_or_mem, get_or_elem, get_d_any, distinct_places}
use Rattle.plank_core.specs.laws.Loops.{upto_more, keep_append, distinct_few}
use Rattle.plank_core.specs.inner.DenseIndexSet.{contains, removed, row_of, row_union, row_difference}
use Rattle.plank_core.specs.laws.DenseIndexSet.{contains_cleared, contains_row, contains_removed, length_removed, length_union, length_difference, set_union, set_difference}
use Rattle.sir_data.specs.Records.{blocks, locals, inputs, outputs}
use Rattle.sir_data.specs.inner.WellFormed.{WellFormed}
use Rattle.sir_analyses.specs.Order.{predecessors}
use Rattle.sir_analyses.specs.Liveness.{index_of, renamed}
use Rattle.sir_analyses.specs.inner.Tables.{EntryWords, TakenInputs, outputs_at, arrives}
use Rattle.sir_analyses.proofs.Positions.{index_at, index_none}
use Rattle.sir_analyses.proofs.claims.order.OrderProof.{blocks_seen, blocks_below, predecessors_out}

-- ---- the entry set

pub entry_words : (uses defs exits : List ℕ) (b : ℕ) {x y z : List ℕ} → x ≡ row_union (replicate 8 0) 0 (row_of exits b) → y ≡ row_difference x 0 (row_of defs b) → z ≡ row_union y 0 (row_of uses b)
    → EntryWords uses defs exits b z
entry_words uses defs exits b {x} {y} {z} p q r v h =
    let lx : length x ≡ 8 = ap length p ∙ length_union (replicate 8 0) 0 (row_of exits b) in
    let ly : length y ≡ 8 = ap length q ∙ length_difference x 0 (row_of defs b) ∙ lx in
    let cx : contains x v ≡ contains exits (512 * b + v) =
    ap (λ (ws : List ℕ). contains ws v) p ∙ set_union (replicate 8 0) (row_of exits b) v h (omega arith) ∙ rw (contains_cleared 8 v) (contains_row exits b v h) in
    let cy : contains y v ≡ (contains exits (512 * b + v) && not (contains defs (512 * b + v))) =
    ap (λ (ws : List ℕ). contains ws v) q ∙ set_difference x (row_of defs b) v h (omega arith) ∙ ap₂ (λ s t. s && not t) cx (contains_row defs b v h) in
    ap (λ (ws : List ℕ). contains ws v) r ∙ set_union y (row_of uses b) v h (omega arith) ∙ ap₂ (λ s t. s || t) cy (contains_row uses b v h)
    ∙ or_comm (contains exits (512 * b + v) && not (contains defs (512 * b + v))) (contains uses (512 * b + v))

-- ---- inputs taken out of a set

-- is the one at position k of xs a member?
abbrev wanted : List ℕ → List ℕ → ℕ → Bool
wanted xs ws k = contains ws (get_or xs k 0)

-- the first i of the inputs xs are looked at, and n positions found
pub record TakingInputs (xs ws₀ moved₀ ws moved : List ℕ) (n i : ℕ) : Type 0 where
  pub few : n ≤ i
  pub here : i ≤ length xs
  pub set_long : length ws ≡ length ws₀
  pub moved_long : length moved ≡ length moved₀
  pub left : (v : ℕ) → v < 512 → contains ws v ≡ (contains ws₀ v && not (mem v (take i xs)))
  pub found : take n moved ≡ keep (wanted xs ws₀) (upto i)

module _ {xs ws₀ moved₀ ws moved : List ℕ} {n i : ℕ} (once : distinct xs ≡ true) (wide : length ws₀ ≡ 8) (h : i < length xs) (small : get_or xs i 0 < 512) (g : TakingInputs xs ws₀ moved₀ ws moved n i) where
  abbrev v : ℕ
  v = get_or xs i 0

  -- it was not looked at before
  new_one : mem v (take i xs) ≡ false
  new_one = mem_not v (take i xs) (λ m.
      let p = mem_place 0 m in
      let l : length (take i xs) ≡ i = length-take-le i xs (omega arith) in
      let j : p.0 < i = omega (arith, p.1) in
      let e : p.0 ≡ i = distinct_places xs p.0 i 0 once (omega arith) h (sym (get_or-take i xs p.0 0 j) ∙ p.2) in
      omega arith)

  pub taking_told : contains ws (get_or xs i 0) ≡ contains ws₀ (get_or xs i 0)
  taking_told = g.left v small ∙ ap (λ (t : Bool). contains ws₀ v && not t) new_one ∙ and-true (contains ws₀ v)

  next : take (i + 1) xs ≡ take i xs ++ (v ∷ [])
  next = rw add-one (take-suc xs i 0 h)

  left_next : {ws' : List ℕ} → ws' ≡ removed ws (get_or xs i 0) → (u : ℕ) → u < 512 → contains ws' u ≡ (contains ws₀ u && not (mem u (take (i + 1) xs)))
  left_next e u k =
      ap (λ (ws : List ℕ). contains ws u) e ∙ contains_removed ws v u (omega (arith, g.set_long))
      ∙ rw (g.left u k, next, mem_snoc u v (take i xs)) (go (eqb u v) (contains ws₀ u) (mem u (take i xs)))
    where
      go : (e s m : Bool) → (not e && (s && not m)) ≡ (s && not (m || e))
      go true true true = refl
      go true true false = refl
      go true false m = refl
      go false true true = refl
      go false true false = refl
      go false false m = refl

  found_next : keep (wanted xs ws₀) (upto (i + 1)) ≡ keep (wanted xs ws₀) (upto i) ++ cond (contains ws₀ (get_or xs i 0)) (i ∷ []) []
  found_next = ap (keep (wanted xs ws₀)) (upto_more i) ∙ keep_append (wanted xs ws₀) (upto i) (i ∷ [])

  pub taking_found : {ws' : List ℕ} → contains ws₀ (get_or xs i 0) ≡ true → n < length moved → ws' ≡ removed ws (get_or xs i 0)
      → TakingInputs xs ws₀ moved₀ ws' (set moved n i) (n + 1) (i + 1)
  taking_found t l e = record {
    few = omega (arith, g.few);
    here = omega arith;
    set_long = ap length e ∙ length_removed ws (get_or xs i 0) ∙ g.set_long;
    moved_long = length-set moved n i ∙ g.moved_long;
    left = left_next e;
    found = rw (add-one, take-suc-set moved n i l) (ap (λ (ys : List ℕ). ys ++ (i ∷ [])) g.found ∙ sym (found_next ∙ rw t));
  }

  pub taking_missed : {ws' : List ℕ} → contains ws₀ (get_or xs i 0) ≡ false → ws' ≡ removed ws (get_or xs i 0) → TakingInputs xs ws₀ moved₀ ws' moved n (i + 1)
  taking_missed t e = record {
    few = omega (arith, g.few);
    here = omega arith;
    set_long = ap length e ∙ length_removed ws (get_or xs i 0) ∙ g.set_long;
    moved_long = g.moved_long;
    left = left_next e;
    found = g.found ∙ sym (found_next ∙ rw t (append-nil (keep (wanted xs ws₀) (upto i))));
  }

pub taking_ends : {w : List ℕ} {b : ℕ} {xs ws₀ moved₀ ws moved : List ℕ} {n i : ℕ} → xs ≡ inputs w b → length xs ≤ i → TakingInputs xs ws₀ moved₀ ws moved n i → TakenInputs w b ws₀ ws (take n moved)
taking_ends {w} {b} {xs} {ws₀} {i = i} e h g = record {
  passes = λ v k. g.left v k ∙ ap (λ (ys : List ℕ). contains ws₀ v && not (mem v ys)) (take_all i xs h ∙ e);
  moves = let q : i ≡ length xs = omega (arith, g.here) in g.found ∙ ap (λ (j : ℕ). keep (wanted xs ws₀) (upto j)) q ∙ ap (λ (ys : List ℕ). keep (wanted ys ws₀) (upto (length ys))) e;
}

-- ---- what arrives

-- A says what arrives where: at the exit of each predecessor of b, the members of a set, under their names there
pub record Arrivals (w : List ℕ) (b : ℕ) (ws : List ℕ) (A : ℕ → ℕ → Bool) : Type 0 where
  pub all : (p v : ℕ) → p ∈ predecessors w b → v < 512 → contains ws v ≡ true → A p (renamed w p b v) ≡ true
  pub only : (p i : ℕ) → p ∈ predecessors w b → i < 512 → A p i ≡ true → (v : ℕ) × (v < 512) × (contains ws v ≡ true) × (renamed w p b v ≡ i)

module _ {w : List ℕ} (good : WellFormed w) (p b : ℕ) (m : p ∈ predecessors w b) where
  pub predecessor_below : p < blocks w
  predecessor_below = blocks_below w good p ((blocks_seen w p).1 (predecessors_out w p b m).0)

  pub edge_length : length (outputs w p) ≡ length (inputs w b)
  edge_length = good.passed p b predecessor_below (predecessors_out w p b m).1

  rename_input : (k : ℕ) → b < blocks w → k < length (inputs w b) → renamed w p b (get_or (inputs w b) k 0) ≡ get_or (outputs w p) k 0
  rename_input k l h =
      let x : ℕ = get_or (inputs w b) k 0 in
      let e : index_of x (inputs w b) ≡ k = index_at x k (inputs w b) (good.inputs_once b l) (get_or_elem (inputs w b) k 0 h) in
      ap (λ (j : ℕ). get_or (outputs w p) j x) e ∙ get_d_any (outputs w p) k x 0 (omega (arith, edge_length))

  rename_other : (v : ℕ) → mem v (inputs w b) ≡ false → renamed w p b v ≡ v
  rename_other v n =
      let e : index_of v (inputs w b) ≡ length (inputs w b) = index_none v (inputs w b) (λ k. none (mem v (inputs w b)) (in_mem v k) n) in
      get_or-eq_default (outputs w p) v {n = index_of v (inputs w b)} (omega (arith, edge_length))

  -- a name at an exit is an output or the same as before
  pub rename_below : (n v : ℕ) → b < blocks w → locals w ≤ n → v < n → renamed w p b v < n
  rename_below n v l h k = go (mem v (inputs w b)) refl
    where
      go : (t : Bool) → mem v (inputs w b) ≡ t → renamed w p b v < n
      go true e =
          let q = mem_place 0 (mem_in v (inputs w b) e) in
          let i : q.0 < length (outputs w p) = omega (arith, q.1, edge_length) in
          let o : get_or (outputs w p) q.0 0 < locals w = good.in_range.output p (get_or (outputs w p) q.0 0) predecessor_below (get_or_mem (outputs w p) q.0 0 i) in
          let r : renamed w p b v ≡ get_or (outputs w p) q.0 0 = subst (λ (x : ℕ). renamed w p b x ≡ get_or (outputs w p) q.0 0) q.2 (rename_input q.0 l q.1) in
          omega arith
      go false e = let r : renamed w p b v ≡ v = rename_other v e in omega arith

module _ {w : List ℕ} (good : WellFormed w) where
  pub arrivals : {b : ℕ} {ws passing moved : List ℕ} → b < blocks w → TakenInputs w b ws passing moved → Arrivals w b ws (arrives w passing moved)
  arrivals {b} {ws} {passing} {moved} l g = record { all = all; only = only }
    where
      all : (p v : ℕ) → p ∈ predecessors w b → v < 512 → contains ws v ≡ true → arrives w passing moved p (renamed w p b v) ≡ true
      all p v m h t = go (mem v (inputs w b)) refl
        where
          go : (s : Bool) → mem v (inputs w b) ≡ s → arrives w passing moved p (renamed w p b v) ≡ true
          go true e =
              let q = mem_place 0 (mem_in v (inputs w b) e) in
              let k : q.0 ∈ moved = rw g.moves (keep_mem (wanted (inputs w b) ws) (upto_mem q.0 (length (inputs w b)) q.1) (ap (contains ws) q.2 ∙ t)) in
              let r : renamed w p b v ≡ get_or (outputs w p) q.0 0 = subst (λ (x : ℕ). renamed w p b x ≡ get_or (outputs w p) q.0 0) q.2 (rename_input good p b m q.0 l q.1) in
              or_true_right (contains passing (renamed w p b v)) (mem (renamed w p b v) (outputs_at w p moved)) (in_mem (renamed w p b v) (Memᴰ.cast r (Memᴰ.map (λ j. get_or (outputs w p) j 0) k)))
          go false e =
              let r : renamed w p b v ≡ v = rename_other good p b m v e in
              or_true_left (contains passing (renamed w p b v)) (mem (renamed w p b v) (outputs_at w p moved))
              (ap (contains passing) r ∙ g.passes v h ∙ both_true (contains ws v) (not (mem v (inputs w b))) t (ap not e))

      only : (p i : ℕ) → p ∈ predecessors w b → i < 512 → arrives w passing moved p i ≡ true → (v : ℕ) × (v < 512) × (contains ws v ≡ true) × (renamed w p b v ≡ i)
      only p i m h t =
          ⊎_elim
          (λ (x : contains passing i ≡ true).
          let y : (contains ws i && not (mem i (inputs w b))) ≡ true = sym (g.passes i h) ∙ x in
          let z : mem i (inputs w b) ≡ false = not_out (contains ws i) (mem i (inputs w b)) y in
          (i, h, and_true_left (contains ws i) (not (mem i (inputs w b))) y, rename_other good p b m i z))
          (λ (x : mem i (outputs_at w p moved) ≡ true).
          let q = Memᴰ.of_map (λ j. get_or (outputs w p) j 0) moved (mem_in i (outputs_at w p moved) x) in
          let k : q.0 ∈ keep (wanted (inputs w b) ws) (upto (length (inputs w b))) = subst (λ (ys : List ℕ). q.0 ∈ ys) g.moves q.1 in
          let r = keep_out (wanted (inputs w b) ws) (upto (length (inputs w b))) k in
          let s : q.0 < length (inputs w b) = mem_upto q.0 (length (inputs w b)) r.0 in
          let y : get_or (inputs w b) q.0 0 < locals w = good.in_range.input b (get_or (inputs w b) q.0 0) l (get_or_mem (inputs w b) q.0 0 s) in
          (get_or (inputs w b) q.0 0, omega (arith, good.sized.locals_most), r.1, rename_input good p b m q.0 l s ∙ q.2))
          (or_cases (contains passing i) (mem i (outputs_at w p moved)) t)
        where
          not_out : (s t : Bool) → (s && not t) ≡ true → t ≡ false
          not_out true true e = none false e refl
          not_out true false e = refl
          not_out false t e = none false e refl

-- ---- the inputs of a block: distinct locals

module _ {w : List ℕ} (good : WellFormed w) (b : ℕ) {xs : List ℕ} (l : b < blocks w) (e : xs ≡ inputs w b) where
  pub inputs_once : distinct xs ≡ true
  inputs_once = ap distinct e ∙ good.inputs_once b l

  input_below : (x : ℕ) → x ∈ xs → x < 512
  input_below x m = let k : x < locals w = good.in_range.input b x l (subst (λ (ys : List ℕ). x ∈ ys) e m) in omega (arith, good.sized.locals_most)

  pub inputs_few : length xs ≤ 512
  inputs_few = distinct_few 512 xs inputs_once input_below

  pub input_small : (i : ℕ) → i < length xs → get_or xs i 0 < 512
  input_small i h = input_below (get_or xs i 0) (get_or_mem xs i 0 h)

pub output_small : {w : List ℕ} → WellFormed w → (p : ℕ) {xs : List ℕ} → p < blocks w → xs ≡ outputs w p → (i : ℕ) → i < length xs → get_or xs i 0 < 512
output_small {w} good p {xs} l e i h =
    let k : get_or xs i 0 < locals w = good.in_range.output p (get_or xs i 0) l (subst (λ (ys : List ℕ). get_or xs i 0 ∈ ys) e (get_or_mem xs i 0 h)) in
    omega (arith, good.sized.locals_most)
