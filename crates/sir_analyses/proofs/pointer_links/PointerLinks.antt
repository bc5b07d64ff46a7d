-- What the tables of links and of causes hold, step by step, and that it is what the definitions say.
use mathlib.Core.Path.{◌≡◌, refl, sym, ap, ◌∙◌}
use mathlib.Core.Logic.{⊎_elim}
use mathlib.Core.Bool.{Bool, true, false, ◌&&◌, ◌||◌, cond, and-false, or-false, or_comm}
use mathlib.Core.List.Memᴰ
use mathlib.Core.List.{List, [], ◌∷◌}
use mathlib.Core.Option.{some}
use Prim.Native.Nat.{ℕ, zero, suc, ◌+◌, ◌*◌, ◌/◌, ◌%◌, ◌≤◌, ◌<◌}
use native.Mathlib.Omega.{arith}
use lib.ListN.{length, get_or, take, replicate}
use lib.Seq.{take_all}
use lib.Dec.{eqb}
use borrow.Author.Tests.{eqb-true, eq-eqb}
use Rattle.plank_core.specs.Lists.{upto, any, mem, ◌∈◌}
use Rattle.plank_core.specs.laws.Lists.{none, same_tests, both_true, and_true_left, and_true_right, or_true_left, or_true_right, or_cases, any_out, any_mem, mem_in, in_mem, mem_elem, elem_mem, elem_less, elem_get_or, get_or_elem, get_or_mem, upto_mem, mem_upto}
use Rattle.plank_core.specs.inner.DenseIndexSet.{contains, added}
use Rattle.plank_core.specs.laws.DenseIndexSet.{contains_added, length_added}
use Rattle.sir_data.specs.Records.{blocks, operations, control, inputs, outputs, ops, successors, returned, code, ins, outs}
use Rattle.sir_data.specs.Codes.{derives, escaping}
use Rattle.sir_data.specs.inner.WellFormed.{WellFormed}
use Rattle.sir_analyses.specs.Order.{blocks_rpo}
use Rattle.sir_analyses.specs.Liveness.{Use, uses, positions}
use Rattle.sir_analyses.specs.Allocation.{next, escapes_by, escapes_at, returned_at, escapes, is_returned}
use Rattle.sir_analyses.specs.inner.Tables.{Adds}
use Rattle.sir_analyses.specs.inner.Pointers.{is_visited_op, derives_by, passes_by, used_by, PointerRows}
use Rattle.sir_analyses.proofs.Tables.{adds_as, adds_then, cleared_long, cleared_row}
use Rattle.sir_analyses.proofs.block_sets.BlockSets.{small}
use Rattle.sir_analyses.proofs.Positions.{positions_in, positions_out}
use Rattle.sir_analyses.proofs.Accepted.{listed_op}
use Rattle.sir_analyses.proofs.claims.marks.Marks.{Link, derive, pass, Used, by_op, by_condition, by_output, used, used_by_op, used_as_output, next_link, link_next}
use Rattle.plank_core.specs.laws.Prefixes.{any_more, any_next}

-- ---- numbers of a table, whatever their row

pub adds_number : (t : List ℕ) (n : ℕ) → Adds t (λ r i. eqb (512 * r + i) n) (added t n)
adds_number t n = record {
  long = length_added t n;
  same = λ r i l h. contains_added t n (512 * r + i) (omega arith) ∙ or_comm (eqb (512 * r + i) n) (contains t (512 * r + i));
}

-- ---- a test that one of a list passes, one after the other

module _ {t t' t'' : List ℕ} (p : ℕ → ℕ → ℕ → Bool) where
  pub adds_listed : (xs : List ℕ) (k : ℕ) → k < length xs → Adds t (λ r i. any (λ x. p x r i) (take k xs)) t' → Adds t' (p (get_or xs k 0)) t'' → Adds t (λ r i. any (λ x. p x r i) (take (k + 1) xs)) t''
  adds_listed xs k h a b = adds_as (λ r i l. any_next (λ x. p x r i) xs k h) (adds_then a b)

  pub adds_counted : (n : ℕ) → Adds t (λ r i. any (λ x. p x r i) (upto n)) t' → Adds t' (p n) t'' → Adds t (λ r i. any (λ x. p x r i) (upto (n + 1))) t''
  adds_counted n a b = adds_as (λ r i l. any_more (λ x. p x r i) n) (adds_then a b)

-- after the last of the list
pub adds_all : {t t' : List ℕ} (p : ℕ → ℕ → ℕ → Bool) (xs : List ℕ) (k : ℕ) → length xs ≤ k → Adds t (λ r i. any (λ x. p x r i) (take k xs)) t' → Adds t (λ r i. any (λ x. p x r i) xs) t'
adds_all p xs k h a = adds_as (λ r i l. ap (any (λ x. p x r i)) (take_all k xs h)) a

-- no number of a list passes a test that none passes
any_never : (p : ℕ → Bool) (xs : List ℕ) → ((x : ℕ) → p x ≡ false) → any p xs ≡ false
any_never p [] h = refl
any_never p (x ∷ xs) h = rw (h x) (any_never p xs h)

-- ---- escaping operands

-- is v at the place k of xs, and does it escape there?
abbrev pub escaping_at : ℕ → List ℕ → ℕ → ℕ → ℕ → Bool
escaping_at c xs k r v = escaping c k && (eqb r 0 && eqb v (get_or xs k 0))

pub escaping_at_all : (c : ℕ) (xs : List ℕ) (r v : ℕ) → any (λ k. escaping_at c xs k r v) (upto (length xs)) ≡ (eqb r 0 && any (escaping c) (positions v xs 0))
escaping_at_all c xs r v =
    same_tests (any (λ k. escaping_at c xs k r v) (upto (length xs))) (eqb r 0 && any (escaping c) (positions v xs 0))
    (λ t.
    let q = any_out (λ k. escaping_at c xs k r v) (upto (length xs)) t in
    let k = q.0 in
    let l : k < length xs = mem_upto k (length xs) q.1 in
    let x = and_true_left (escaping c k) (eqb r 0 && eqb v (get_or xs k 0)) q.2 in
    let y = and_true_right (escaping c k) (eqb r 0 && eqb v (get_or xs k 0)) q.2 in
    let e : v ≡ get_or xs k 0 = eqb-true v (get_or xs k 0) (and_true_right (eqb r 0) (eqb v (get_or xs k 0)) y) in
    let z : 0 + k ≡ k = omega arith in
    both_true (eqb r 0) (any (escaping c) (positions v xs 0)) (and_true_left (eqb r 0) (eqb v (get_or xs k 0)) y)
    (any_mem (escaping c) (positions_in k xs 0 (get_or_elem xs k 0 l ∙ ap some (sym e))) (ap (escaping c) z ∙ x)))
    (λ t.
    let q = any_out (escaping c) (positions v xs 0) (and_true_right (eqb r 0) (any (escaping c) (positions v xs 0)) t) in
    let p = positions_out v xs 0 q.1 in
    let z : q.0 ≡ p.0 = omega arith in
    any_mem (λ k. escaping_at c xs k r v) (upto_mem p.0 (length xs) (elem_less xs p.0 v p.2))
    (both_true (escaping c p.0) (eqb r 0 && eqb v (get_or xs p.0 0)) (ap (escaping c) (sym z) ∙ q.2)
    (both_true (eqb r 0) (eqb v (get_or xs p.0 0)) (and_true_left (eqb r 0) (any (escaping c) (positions v xs 0)) t) (eq-eqb v (get_or xs p.0 0) (sym (elem_get_or xs p.0 0 v p.2))))))

-- ---- edges

-- does the place k pass v on as u?
abbrev pub passed : List ℕ → List ℕ → ℕ → ℕ → ℕ → Bool
passed xs ys k v u = eqb v (get_or xs k 0) && eqb u (get_or ys k 0)

module _ {w : List ℕ} (good : WellFormed w) where
  pub edge_places : (b s k : ℕ) {xs ys : List ℕ} → xs ≡ outputs w b → ys ≡ inputs w s → b < blocks w → s ∈ successors w b → k < length xs → (k < length ys) × (get_or xs k 0 < 512) × (get_or ys k 0 < 512)
  edge_places b s k {xs} {ys} e f l m h =
      let i : k < length (outputs w b) = omega (arith, ap length e) in
      let j : k < length (inputs w s) = omega (arith, good.passed b s l m) in
      let x : get_or (outputs w b) k 0 < 512 = small good (good.in_range.output b (get_or (outputs w b) k 0) l (get_or_mem (outputs w b) k 0 i)) in
      let y : get_or (inputs w s) k 0 < 512 = small good (good.in_range.input s (get_or (inputs w s) k 0) (good.in_range.successor b s l m) (get_or_mem (inputs w s) k 0 j)) in
      rw (e, f) (j, x, y)

  pub read_places : (o k : ℕ) {xs : List ℕ} → xs ≡ ins w o → o < operations w → k < length xs → get_or xs k 0 < 512
  read_places o k {xs} e l h =
      let i : k < length (ins w o) = omega (arith, ap length e) in
      rw e (small good (good.in_range.read o (get_or (ins w o) k 0) l (get_or_mem (ins w o) k 0 i)))

-- ---- visited operations

pub visited_all : (w : List ℕ) (k : ℕ) {rpo t t' : List ℕ} → t ≡ replicate 16 0 → rpo ≡ blocks_rpo w → length rpo ≤ k → Adds t (λ r n. any (λ b. mem (512 * r + n) (ops w b)) (take k rpo)) t'
    → (length t' ≡ 16) × ((o : ℕ) → o < 1024 → contains t' o ≡ is_visited_op w o)
visited_all w k {rpo} {t} {t'} e f h a =
    let long : length t ≡ 16 = cleared_long t 16 e in (
      a.long ∙ long,
      λ o l.
          let n : 512 * (o / 512) + o % 512 ≡ o = omega arith in
          let s : contains t' o ≡ (contains t o || any (λ b. mem o (ops w b)) (take k rpo)) = rw n at (a.same (o / 512) (o % 512) (omega arith) (omega arith)) in
          let z : contains t o ≡ false = rw n at (cleared_row t 16 (o / 512) (o % 512) e) in
          s ∙ rw (z, take_all k rpo h, f),
    )

-- ---- what the definitions say

module _ (w : List ℕ) where
  visited_in_lem : (o : ℕ) → is_visited_op w o ≡ true → (b : ℕ) × (b ∈ blocks_rpo w) × (o ∈ ops w b)
  visited_in_lem o t = let q = any_out (λ b. mem o (ops w b)) (blocks_rpo w) t in (q.0, q.1, mem_in o (ops w q.0) q.2)

  in_visited : {b o : ℕ} → b ∈ blocks_rpo w → o ∈ ops w b → is_visited_op w o ≡ true
  in_visited {b} {o} mb mo = any_mem (λ b. mem o (ops w b)) mb (in_mem o mo)

  abbrev derived : ℕ → ℕ → ℕ → Bool
  derived v u o = is_visited_op w o && derives_by w o v u

  abbrev passed_on : ℕ → ℕ → ℕ → Bool
  passed_on v u b = any (λ s. passes_by w b s v u) (successors w b)

  derived_link : (v u o : ℕ) → derived v u o ≡ true → Link w v u
  derived_link v u o t =
      let m = visited_in_lem o (and_true_left (is_visited_op w o) (derives_by w o v u) t) in
      let d = and_true_right (is_visited_op w o) (derives_by w o v u) t in
      let e = and_true_right (derives (code w o)) (mem v (ins w o) && mem u (outs w o)) d in
      derive m.1 m.2 (and_true_left (derives (code w o)) (mem v (ins w o) && mem u (outs w o)) d)
      (mem_in v (ins w o) (and_true_left (mem v (ins w o)) (mem u (outs w o)) e))
      (mem_in u (outs w o) (and_true_right (mem v (ins w o)) (mem u (outs w o)) e))

  passed_link : (v u b : ℕ) → b ∈ blocks_rpo w → passed_on v u b ≡ true → Link w v u
  passed_link v u b mb t =
      let q = any_out (λ s. passes_by w b s v u) (successors w b) t in
      let s = q.0 in
      let p = any_out (λ k. passed (outputs w b) (inputs w s) k v u) (upto (length (outputs w b))) q.2 in
      let k = p.0 in
      let e : v ≡ get_or (outputs w b) k 0 = eqb-true v (get_or (outputs w b) k 0) (and_true_left (eqb v (get_or (outputs w b) k 0)) (eqb u (get_or (inputs w s) k 0)) p.2) in
      let f : u ≡ get_or (inputs w s) k 0 = eqb-true u (get_or (inputs w s) k 0) (and_true_right (eqb v (get_or (outputs w b) k 0)) (eqb u (get_or (inputs w s) k 0)) p.2) in
      pass k mb q.1 (get_or_elem (outputs w b) k 0 (mem_upto k (length (outputs w b)) p.1) ∙ ap some (sym e)) f

  -- an output is returned exactly if its block returns
  returned_out : (v b : ℕ) → v ∈ returned w b → (eqb (control w b) 1 ≡ true) × (v ∈ outputs w b)
  returned_out v b m = go (eqb (control w b) 1) refl m
    where
      go : (t : Bool) → eqb (control w b) 1 ≡ t → v ∈ cond t (outputs w b) [] → (eqb (control w b) 1 ≡ true) × (v ∈ outputs w b)
      go true e k = (e, k)
      go false e k = absurd (Memᴰ.not-nil k)

  pub return_test : (v : ℕ) → any (λ b. mem v (returned w b)) (blocks_rpo w) ≡ is_returned w v
  return_test v =
      same_tests (any (λ b. mem v (returned w b)) (blocks_rpo w)) (is_returned w v)
      (λ t.
      let q = any_out (λ b. mem v (returned w b)) (blocks_rpo w) t in
      let r = returned_out v q.0 (mem_in v (returned w q.0) q.2) in
      let k = mem_elem r.1 in
      any_mem (returned_at w) (used_as_output w k.0 q.1 k.1) r.0)
      (λ t. let q = any_out (returned_at w) (uses w v) t in by q.0 (used w v q.1) q.2)
    where
      by : (x : Use) → Used w v x → returned_at w x ≡ true → any (λ b. mem v (returned w b)) (blocks_rpo w) ≡ true
      by x (by_op mb mo mi e) t = none false (rw e at t) refl
      by x (by_condition mb mi e) t = none false (rw e at t) refl
      by x (by_output {b} k mb h e) t =
          let r : eqb (control w b) 1 ≡ true = rw e at t in
          any_mem (λ b. mem v (returned w b)) mb (rw r (in_mem v (elem_mem (outputs w b) k v h)))

  module _ (good : WellFormed w) where
    pub link_test : (v u : ℕ) → (any (derived v u) (upto (operations w)) || any (passed_on v u) (blocks_rpo w)) ≡ mem u (next w v)
    link_test v u =
        same_tests (any (derived v u) (upto (operations w)) || any (passed_on v u) (blocks_rpo w)) (mem u (next w v))
        (λ t.
        ⊎_elim
        (λ (h : any (derived v u) (upto (operations w)) ≡ true). let q = any_out (derived v u) (upto (operations w)) h in in_mem u (link_next w (derived_link v u q.0 q.2)))
        (λ (h : any (passed_on v u) (blocks_rpo w) ≡ true). let q = any_out (passed_on v u) (blocks_rpo w) h in in_mem u (link_next w (passed_link v u q.0 q.1 q.2)))
        (or_cases (any (derived v u) (upto (operations w))) (any (passed_on v u) (blocks_rpo w)) t))
        (λ t. by (next_link w (mem_in u (next w v) t)))
      where
        by : Link w v u → (any (derived v u) (upto (operations w)) || any (passed_on v u) (blocks_rpo w)) ≡ true
        by (derive {b} {o} mb mo d mi m) =
            or_true_left (any (derived v u) (upto (operations w))) (any (passed_on v u) (blocks_rpo w))
            (any_mem (derived v u) (upto_mem o (operations w) (listed_op w good mb mo))
            (both_true (is_visited_op w o) (derives_by w o v u) (in_visited mb mo) (both_true (derives (code w o)) (mem v (ins w o) && mem u (outs w o)) d (both_true (mem v (ins w o)) (mem u (outs w o)) (in_mem v mi) (in_mem u m)))))
        by (pass {b} {s} k mb ms e d) =
            or_true_right (any (derived v u) (upto (operations w))) (any (passed_on v u) (blocks_rpo w))
            (any_mem (passed_on v u) mb
            (any_mem (λ s. passes_by w b s v u) ms
            (any_mem (λ k. passed (outputs w b) (inputs w s) k v u) (upto_mem k (length (outputs w b)) (elem_less (outputs w b) k v e))
            (both_true (eqb v (get_or (outputs w b) k 0)) (eqb u (get_or (inputs w s) k 0)) (eq-eqb v (get_or (outputs w b) k 0) (sym (elem_get_or (outputs w b) k 0 v e))) (eq-eqb u (get_or (inputs w s) k 0) d)))))

    pub escape_test : (v : ℕ) → any (λ o. is_visited_op w o && escapes_by w o v) (upto (operations w)) ≡ escapes w v
    escape_test v =
        same_tests (any (λ o. is_visited_op w o && escapes_by w o v) (upto (operations w))) (escapes w v)
        (λ t.
        let q = any_out (λ o. is_visited_op w o && escapes_by w o v) (upto (operations w)) t in
        let o = q.0 in
        let m = visited_in_lem o (and_true_left (is_visited_op w o) (escapes_by w o v) q.2) in
        let s = and_true_right (is_visited_op w o) (escapes_by w o v) q.2 in
        let p = any_out (escaping (code w o)) (positions v (ins w o) 0) s in
        let r = positions_out v (ins w o) 0 p.1 in
        any_mem (escapes_at w v) (used_by_op w m.1 m.2 (elem_mem (ins w o) r.0 v r.2)) s)
        (λ t. let q = any_out (escapes_at w v) (uses w v) t in by q.0 (used w v q.1) q.2)
      where
        by : (x : Use) → Used w v x → escapes_at w v x ≡ true → any (λ o. is_visited_op w o && escapes_by w o v) (upto (operations w)) ≡ true
        by x (by_op {b} {o} mb mo mi e) t =
            any_mem (λ o. is_visited_op w o && escapes_by w o v) (upto_mem o (operations w) (listed_op w good mb mo)) (both_true (is_visited_op w o) (escapes_by w o v) (in_visited mb mo) (rw e at t))
        by x (by_condition mb mi e) t = none false (rw e at t) refl
        by x (by_output k mb h e) t = none false (rw e at t) refl

    cause_test : (r v : ℕ) → r < 2
        → (any (λ o. is_visited_op w o && (eqb r 0 && escapes_by w o v)) (upto (operations w)) || any (λ b. eqb r 1 && mem v (returned w b)) (blocks_rpo w)) ≡ used_by w r v
    cause_test zero v h =
        ap (λ (t : Bool). any (λ o. is_visited_op w o && escapes_by w o v) (upto (operations w)) || t) (any_never (λ b. false) (blocks_rpo w) (λ b. refl))
        ∙ or-false (any (λ o. is_visited_op w o && escapes_by w o v) (upto (operations w))) ∙ escape_test v
    cause_test (suc zero) v h =
        ap (λ (t : Bool). t || any (λ b. mem v (returned w b)) (blocks_rpo w)) (any_never (λ o. is_visited_op w o && false) (upto (operations w)) (λ o. and-false (is_visited_op w o)))
        ∙ return_test v
    cause_test (suc (suc r)) v h = absurd (omega arith)

    pub pointer_rows : {l l₁ l₂ h h₁ h₂ : List ℕ} → l ≡ replicate 4096 0 → h ≡ replicate 16 0
        → Adds l (λ v u. any (derived v u) (upto (operations w))) l₁ → Adds h (λ r v. any (λ o. is_visited_op w o && (eqb r 0 && escapes_by w o v)) (upto (operations w))) h₁
        → Adds l₁ (λ v u. any (passed_on v u) (blocks_rpo w)) l₂ → Adds h₁ (λ r v. any (λ b. eqb r 1 && mem v (returned w b)) (blocks_rpo w)) h₂
        → PointerRows w l₂ h₂
    pointer_rows {l} {l₁} {l₂} {h} {h₁} {h₂} e f a b p q =
        let x = adds_then a p in
        let y = adds_then b q in
        record {
          links_long = x.long ∙ cleared_long l 4096 e;
          causes_long = y.long ∙ cleared_long h 16 f;
          linked = λ v u i j. x.same v u (omega (arith, cleared_long l 4096 e)) j ∙ rw (cleared_row l 4096 v u e) (link_test v u);
          used = λ r v i j. y.same r v (omega (arith, cleared_long h 16 f)) j ∙ rw (cleared_row h 16 r v f) (cause_test r v i);
        }
