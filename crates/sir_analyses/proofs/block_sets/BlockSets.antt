-- What the tables of operands, of use and def sets and of predecessors hold, step by step.
use mathlib.Core.Path.{◌≡◌, refl, sym, ap, ◌∙◌}
use mathlib.Core.Logic.{⊎_elim}
use mathlib.Core.Bool.{Bool, true, false, not, ◌&&◌, ◌||◌, or-true, or-false, or_comm, and-true, and_comm, and-false}
use mathlib.Core.List.Memᴰ
use mathlib.Core.List.{List, [], ◌∷◌}
use Prim.Native.Nat.{ℕ, ◌+◌, ◌*◌, ◌≤◌, ◌<◌}
use native.Mathlib.Omega.{arith}
use lib.ListN.{length, replicate}
use lib.Dec.{eqb, ltb}
use borrow.Author.Tests.{eqb-true, lt-ltb, ltb-true}
use Rattle.plank_core.specs.Lists.{mem, ◌∈◌}
use Rattle.plank_core.specs.laws.Lists.{split, mem_in, in_mem, mem_not, same_tests, both_true, and_true_left, and_true_right}
use Rattle.plank_core.specs.inner.DenseIndexSet.{contains, row_of, row_union, row_difference}
use Rattle.plank_core.specs.laws.DenseIndexSet.{contains_cleared, contains_union, contains_difference, contains_row, set_union, set_difference, length_union, length_difference}
use Rattle.sir_data.specs.Records.{blocks, operations, locals, ops, successors, condition, ins, outs}
use Rattle.sir_data.specs.inner.WellFormed.{WellFormed}
use Rattle.sir_analyses.specs.Order.{is_visited, predecessors}
use Rattle.sir_analyses.specs.Liveness.{has, end_reads, read_first, use_set, def_set}
use Rattle.sir_analyses.specs.inner.Tables.{Adds, OperandRows, RangeSets}
use Rattle.sir_analyses.proofs.Tables.{cleared_long, adds_as, adds_union}
use Rattle.sir_analyses.proofs.claims.liveness.GenKill.{defined, read_after, beyond, use_length, def_length, has_use, has_def}
use Rattle.sir_analyses.proofs.claims.order.OrderProof.{blocks_seen, blocks_below, predecessors_in, predecessors_out}
use Rattle.sir_analyses.proofs.Accepted.{returned_below}

-- ---- locals are small

module _ {w : List ℕ} (good : WellFormed w) where
  pub small : {v : ℕ} → v < locals w → v < 512
  small l = omega (arith, good.sized.locals_most)

  pub tested_small : (b v : ℕ) → b < blocks w → condition w b ≡ v ∷ [] → v < 512
  tested_small b v l e = small (good.in_range.tested b v l (rw e (Memᴰ.head refl)))

  pub end_below : (b v : ℕ) → b < blocks w → v ∈ end_reads w b → v < locals w
  end_below b v l m = ⊎_elim (good.in_range.tested b v l) (returned_below w good b v l) (Memᴰ.append_cases (condition w b) m)

  -- ---- no set has more than the locals

  pub above : (v : ℕ) (xs : List ℕ) → locals w ≤ v → ((x : ℕ) → x ∈ xs → x < locals w) → mem v xs ≡ false
  above v xs h k = mem_not v xs (λ m. let l = k v m in omega arith)

  read_none : (v : ℕ) (xs os : List ℕ) → locals w ≤ v → ((x : ℕ) → x ∈ xs → x < locals w) → ((o : ℕ) → o ∈ os → o < operations w) → read_first w xs os v ≡ false
  read_none v xs [] h k l = above v xs h k
  read_none v xs (o ∷ os) h k l =
      rw (above v (ins w o) h (λ x. good.in_range.read o x (l o (Memᴰ.head refl))), read_none v xs os h k (λ p m. l p (Memᴰ.tail m)))
      (and-false (not (mem v (outs w o))))

  defined_none : (v : ℕ) (os : List ℕ) → locals w ≤ v → ((o : ℕ) → o ∈ os → o < operations w) → defined w os v ≡ false
  defined_none v [] h l = refl
  defined_none v (o ∷ os) h l =
      rw (above v (outs w o) h (λ x. good.in_range.written o x (l o (Memᴰ.head refl)))) (defined_none v os h (λ p m. l p (Memᴰ.tail m)))

  pub use_test : (b v : ℕ) → b < blocks w → read_first w (end_reads w b) (ops w b) v ≡ has (use_set w b) v
  use_test b v l =
      ⊎_elim (λ (h : v < locals w). sym (has_use w b v h))
      (λ (h : locals w ≤ v). read_none v (end_reads w b) (ops w b) h (λ x. end_below b x l) (λ o. good.in_range.op b o l) ∙ sym (beyond (use_set w b) v (rw use_length h)))
      (split v (locals w))

  pub def_test : (b v : ℕ) → b < blocks w → defined w (ops w b) v ≡ has (def_set w b) v
  def_test b v l =
      ⊎_elim (λ (h : v < locals w). sym (has_def w b v h))
      (λ (h : locals w ≤ v). defined_none v (ops w b) h (λ o. good.in_range.op b o l) ∙ sym (beyond (def_set w b) v (rw def_length h)))
      (split v (locals w))

  -- ---- predecessors

  pub pred_test : (p b : ℕ) → (ltb p (blocks w) && (is_visited w p && mem b (successors w p))) ≡ mem p (predecessors w b)
  pred_test p b =
      same_tests (ltb p (blocks w) && (is_visited w p && mem b (successors w p))) (mem p (predecessors w b))
      (λ t.
      let s = and_true_right (ltb p (blocks w)) (is_visited w p && mem b (successors w p)) t in
      in_mem p (predecessors_in w p b (and_true_left (is_visited w p) (mem b (successors w p)) s) (ltb-true p (blocks w) (and_true_left (ltb p (blocks w)) (is_visited w p && mem b (successors w p)) t))
      (mem_in b (successors w p) (and_true_right (is_visited w p) (mem b (successors w p)) s))))
      (λ t.
      let r = predecessors_out w p b (mem_in p (predecessors w b) t) in
      both_true (ltb p (blocks w)) (is_visited w p && mem b (successors w p)) (lt-ltb p (blocks w) (blocks_below w good p ((blocks_seen w p).1 r.0)))
      (both_true (is_visited w p) (mem b (successors w p)) r.0 (in_mem b r.1)))

-- ---- a run of operations backwards: `os` are done

pub range_sets_start : {w os sets : List ℕ} → os ≡ [] → sets ≡ replicate 16 0 → RangeSets w os sets
range_sets_start {w} {os} {sets} e x = rw e (record { long = cleared_long sets 16 x; reads_first = λ v h. cleared_set v; defines = λ v h. cleared_set (512 + v) })
  where
    cleared_set : (v : ℕ) → contains sets v ≡ false
    cleared_set v = ap (λ (ws : List ℕ). contains ws v) x ∙ contains_cleared 16 v

step_read : (r o i : Bool) → ((r && not o) || i) ≡ (i || (not o && r))
step_read r o true = or-true (r && not o)
step_read r o false = or-false (r && not o) ∙ and_comm r (not o)

module _ {w os sets : List ℕ} where
  pub range_sets_more : (reads writes : List ℕ) (o : ℕ) → OperandRows w reads writes → o < operations w → RangeSets w os sets
      → RangeSets w (o ∷ os) (row_union (row_union (row_difference sets 0 (row_of writes o)) 0 (row_of reads o)) 1 (row_of writes o))
  range_sets_more reads writes o rows l g =
      let one = row_difference sets 0 (row_of writes o) in
      let two = row_union one 0 (row_of reads o) in
      let a : length one ≡ 16 = length_difference sets 0 (row_of writes o) ∙ g.long in
      let b : length two ≡ 16 = length_union one 0 (row_of reads o) ∙ a in
      let out : (v : ℕ) → v < 512 → contains (row_of writes o) v ≡ mem v (outs w o) = λ v k. contains_row writes o v k ∙ rows.written o v l k in
      let inn : (v : ℕ) → v < 512 → contains (row_of reads o) v ≡ mem v (ins w o) = λ v k. contains_row reads o v k ∙ rows.read o v l k in
      record {
        long = length_union two 1 (row_of writes o) ∙ b;
        reads_first = λ v k.
            in_first (row_union two 1 (row_of writes o)) v
            ∙ contains_union two 1 (row_of writes o) 0 v k (omega (arith, b))
            ∙ or-false (contains two (512 * 0 + v))
            ∙ sym (in_first two v)
            ∙ set_union one (row_of reads o) v k (omega (arith, a))
            ∙ rw (set_difference sets (row_of writes o) v k (omega (arith, g.long)), g.reads_first v k, out v k, inn v k)
            (step_read (read_first w [] os v) (mem v (outs w o)) (mem v (ins w o)));
        defines = λ v k.
            in_second (row_union two 1 (row_of writes o)) v
            ∙ contains_union two 1 (row_of writes o) 1 v k (omega (arith, b))
            ∙ ap (λ (t : Bool). t || contains (row_of writes o) v)
            (contains_union one 0 (row_of reads o) 1 v k (omega (arith, a)) ∙ or-false (contains one (512 * 1 + v))
            ∙ contains_difference sets 0 (row_of writes o) 1 v k (omega (arith, g.long)) ∙ and-true (contains sets (512 * 1 + v))
            ∙ sym (in_second sets v) ∙ g.defines v k)
            ∙ ap (λ (t : Bool). defined w os v || t) (out v k)
            ∙ or_comm (defined w os v) (mem v (outs w o));
      }
    where
      in_first : (t : List ℕ) (v : ℕ) → contains t v ≡ contains t (512 * 0 + v)
      in_first t v = let e : v ≡ 512 * 0 + v = omega arith in ap (contains t) e

      in_second : (t : List ℕ) (v : ℕ) → contains t (512 + v) ≡ contains t (512 * 1 + v)
      in_second t v = let e : 512 + v ≡ 512 * 1 + v = omega arith in ap (contains t) e

-- the two rows
module _ {w os sets : List ℕ} (g : RangeSets w os sets) (v : ℕ) (h : v < 512) where
  exposed_is : contains (row_of sets 0) v ≡ read_first w [] os v
  exposed_is = let e : 512 * 0 + v ≡ v = omega arith in contains_row sets 0 v h ∙ ap (contains sets) e ∙ g.reads_first v h

  defined_is : contains (row_of sets 1) v ≡ defined w os v
  defined_is = let e : 512 * 1 + v ≡ 512 + v = omega arith in contains_row sets 1 v h ∙ ap (contains sets) e ∙ g.defines v h

-- ---- a block's rows from the sets of its operations

-- a row that was empty has what is exposed, and what is read after the operations and not defined by them
pub row_used : {w : List ℕ} → WellFormed w → (b : ℕ) {u u₁ sets : List ℕ} → b < blocks w → ((v : ℕ) → v < 512 → contains u (512 * b + v) ≡ false)
    → Adds u (λ r v. eqb r b && mem v (end_reads w b)) u₁ → RangeSets w (ops w b) sets
    → Adds u (λ r v. eqb r b && has (use_set w b) v) (row_union (row_difference u₁ b (row_of sets 1)) b (row_of sets 0))
row_used {w} good b {u} {u₁} {sets} l z a run = record {
  long = length_union mid b (row_of sets 0) ∙ m ∙ a.long;
  same = λ r v n h.
      contains_union mid b (row_of sets 0) r v h (omega (arith, m, a.long))
      ∙ rw (contains_difference u₁ b (row_of sets 1) r v h (omega (arith, a.long)), a.same r v n h, defined_is run v h, exposed_is run v h) (go r v h (eqb r b) refl);
}
  where
    mid : List ℕ
    mid = row_difference u₁ b (row_of sets 1)

    m : length mid ≡ length u₁
    m = length_difference u₁ b (row_of sets 1)

    other : (x : Bool) → (((x || false) && true) || false) ≡ (x || false)
    other true = refl
    other false = refl

    go : (r v : ℕ) → v < 512 → (t : Bool) → eqb r b ≡ t
        → (((contains u (512 * r + v) || (t && mem v (end_reads w b))) && not (t && defined w (ops w b) v)) || (t && read_first w [] (ops w b) v)) ≡ (contains u (512 * r + v) || (t && has (use_set w b) v))
    go r v h true q =
        rw (eqb-true r b q, z v h)
        (or_comm (mem v (end_reads w b) && not (defined w (ops w b) v)) (read_first w [] (ops w b) v) ∙ sym (read_after w (end_reads w b) (ops w b) v) ∙ use_test good b v l)
    go r v h false q = other (contains u (512 * r + v))

pub row_defined : {w : List ℕ} → WellFormed w → (b : ℕ) {sets : List ℕ} → b < blocks w → (defs : List ℕ) → RangeSets w (ops w b) sets
    → Adds defs (λ r v. eqb r b && has (def_set w b) v) (row_union defs b (row_of sets 1))
row_defined good b {sets = sets} l defs run = adds_as (λ r v h. ap (λ (t : Bool). eqb r b && t) (defined_is run v h ∙ def_test good b v l)) (adds_union defs b (row_of sets 1))
