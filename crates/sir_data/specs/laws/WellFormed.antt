-- Facts on numbers and lists, from rules that do not apply.
use Rattle.std.specs.Prelude.{◌≡◌, ℕ, zero, suc, ◌+◌, ◌*◌, ◌<◌, ◌≤◌, Bool, true, false, cond, not, ◌&&◌, ◌||◌, ltb, List, [], ◌∷◌, ◌++◌, map, length, ◌==◌, nat_eq, nat_le, nat_lt}
use Rattle.std.proofs.Math.Path.{refl}
use Rattle.std.proofs.Common.{⊎_elim, arith}
use mathlib.Core.List.{Memᴰ}
use borrow.Author.Tests.{ltb-true, ltb-false, leb-true, eqb-true, eqb-false, ne_eqb, not-false}
use Rattle.plank_core.specs.Lists.{count, range, upto, all, distinct}
use Rattle.plank_core.specs.laws.Lists.{or_false_left, or_false_right, and_true_left, and_true_right, mem_count, mem_range, map_each, all_mem, all_upto}
use Rattle.sir_data.specs.Pages.{pages_for}
use Rattle.sir_data.specs.Records.{functions, blocks, operations, operand_words, case_targets, locals, init_function, main_plus_one, word_count, entry_block, block_word, op_word, operand, target, run, inputs, outputs, ops, control, field, optional, successors, code, ins, outs, extra}
use Rattle.sir_data.specs.Codes.{arity_ok, is_call, is_static_alloc}
use Rattle.sir_data.specs.Rules.{rule5, rule6, rule7, rule8, rule9, rule10, rule11, first, head_rules, field_rules, operand_rules, rules_of, record_rules, zero_from, block_fields_ok, op_fields_ok, range_ok, optional_below, control_ids_ok, block_ids_ok, op_ids_ok}
use Rattle.sir_data.specs.inner.WellFormed.{Sized, InRange, WellFormed}
use Rattle.sir_data.specs.laws.Rules.{first_left, first_right, kept}

-- ---- a rule's parts

abbrev pub Each : Bool → List Bool → Type 0
Each t [] = Unit {0}
Each t (x ∷ xs) = (x ≡ t) × Each t xs

abbrev pub ors : Bool → List Bool → Bool
ors a [] = a
ors a (b ∷ bs) = ors (a || b) bs

abbrev ands : Bool → List Bool → Bool
ands a [] = a
ands a (b ∷ bs) = ands (a && b) bs

pub ors_each : (a : Bool) (bs : List Bool) → ors a bs ≡ false → Each false (a ∷ bs)
ors_each a [] h = (h, tt)
ors_each a (b ∷ bs) h =
    let r = ors_each (a || b) bs h in
    (or_false_left a b r.0, (or_false_right a b r.0, r.1))

ands_each : (a : Bool) (bs : List Bool) → ands a bs ≡ true → Each true (a ∷ bs)
ands_each a [] h = (h, tt)
ands_each a (b ∷ bs) h =
    let r = ands_each (a && b) bs h in
    (and_true_left a b r.0, (and_true_right a b r.0, r.1))

-- ---- the tests of rule 8

optional_ok : (k n m : ℕ) → optional_below k n ≡ true → Memᴰ m (optional k) → m < n
optional_ok zero n m h i = absurd (mathlib.Core.List.Memᴰ.not-nil i)
optional_ok (suc k) n m h i = let l = ltb-true k n (and_true_left (nat_lt k n) true h) in let e = mathlib.Core.List.Memᴰ.eq_of_singleton i in omega arith

successor_ok : (t2 t3 t4 : Bool) (x0 x1 x2 x3 B L C s : ℕ) (t : ℕ → ℕ) → ((i : ℕ) → i < C → t i < B)
    → cond t2 (nat_lt x0 B) (cond t3 (nat_lt x0 L && nat_lt x1 B && nat_lt x2 B) (cond t4 (nat_lt x0 L && nat_le (x1 + x2) C && optional_below x3 B) true)) ≡ true
    → Memᴰ s (cond t2 (x0 ∷ []) (cond t3 (x2 ∷ x1 ∷ []) (cond t4 (map t (count x1 x2) ++ optional x3) []))) → s < B
successor_ok true t3 t4 x0 x1 x2 x3 B L C s t ts h m = let l = ltb-true x0 B h in let e = mathlib.Core.List.Memᴰ.eq_of_singleton m in omega arith
successor_ok false true t4 x0 x1 x2 x3 B L C s t ts h m =
    let p = ands_each (nat_lt x0 L) (nat_lt x1 B ∷ nat_lt x2 B ∷ []) h in
    let l1 = ltb-true x1 B p.1.0 in
    let l2 = ltb-true x2 B p.1.1.0 in
    ⊎_elim
    (λ (e : s ≡ x2). let z : s < B = omega arith in z)
    (λ (n : Memᴰ s (x1 ∷ [])). let e = mathlib.Core.List.Memᴰ.eq_of_singleton n in let z : s < B = omega arith in z)
    (mathlib.Core.List.Memᴰ.cases_cons m)
successor_ok false false true x0 x1 x2 x3 B L C s t ts h m =
    let p = ands_each (nat_lt x0 L) (nat_le (x1 + x2) C ∷ optional_below x3 B ∷ []) h in
    let l1 = leb-true (x1 + x2) C p.1.0 in
    ⊎_elim
    (map_each (λ (n : ℕ). n < B) t (count x1 x2) (λ i k. ts i (omega (arith, mem_count i x1 x2 k))) s)
    (optional_ok x3 B s p.1.1.0)
    (mathlib.Core.List.Memᴰ.append_cases (map t (count x1 x2)) m)
successor_ok false false false x0 x1 x2 x3 B L C s t ts h m = absurd (mathlib.Core.List.Memᴰ.not-nil m)

condition_ok : (t2 t3 t4 : Bool) (x0 x1 x2 x3 B L C v : ℕ)
    → cond t2 (nat_lt x0 B) (cond t3 (nat_lt x0 L && nat_lt x1 B && nat_lt x2 B) (cond t4 (nat_lt x0 L && nat_le (x1 + x2) C && optional_below x3 B) true)) ≡ true
    → (t2 ≡ true → (t3 || t4) ≡ false)
    → Memᴰ v (cond (t3 || t4) (x0 ∷ []) []) → v < L
condition_ok true t3 t4 x0 x1 x2 x3 B L C v h n m = absurd (mathlib.Core.List.Memᴰ.not-nil (rw (n refl) at m))
condition_ok false true t4 x0 x1 x2 x3 B L C v h n m =
    let p = ands_each (nat_lt x0 L) (nat_lt x1 B ∷ nat_lt x2 B ∷ []) h in
    let l = ltb-true x0 L p.0 in let e = mathlib.Core.List.Memᴰ.eq_of_singleton m in omega arith
condition_ok false false true x0 x1 x2 x3 B L C v h n m =
    let p = ands_each (nat_lt x0 L) (nat_le (x1 + x2) C ∷ optional_below x3 B ∷ []) h in
    let l = ltb-true x0 L p.0 in let e = mathlib.Core.List.Memᴰ.eq_of_singleton m in omega arith
condition_ok false false false x0 x1 x2 x3 B L C v h n m = absurd (mathlib.Core.List.Memᴰ.not-nil m)

callee_ok : (t : Bool) (x F f : ℕ) → (not t || nat_lt x F) ≡ true → Memᴰ f (cond t (x ∷ []) []) → f < F
callee_ok true x F f h m = let l = ltb-true x F h in let e = mathlib.Core.List.Memᴰ.eq_of_singleton m in omega arith
callee_ok false x F f h m = absurd (mathlib.Core.List.Memᴰ.not-nil m)

two_only : (c : ℕ) → (c == 2) ≡ true → (c == 3 || c == 4) ≡ false
two_only c e = rw (eqb-true c 2 e)

run_ok : (w : List ℕ) (s e v : ℕ) → ((i : ℕ) → i < operand_words w → operand w i < locals w) → range_ok s e (operand_words w) ≡ true
    → Memᴰ v (run w s e) → v < locals w
run_ok w s e v h r =
    let l = leb-true e (operand_words w) (and_true_right (nat_le s e) (nat_le e (operand_words w)) r) in
    map_each (λ (n : ℕ). n < locals w) (operand w) (range s e) (λ i k. h i (omega (arith, mem_range i s e k))) v

size_ok : (n m : ℕ) → n ≡ 126 * pages_for m → m ≤ n
size_ok n m e = omega arith

range_ok_lem : (s e n : ℕ) → range_ok s e n ≡ true → (s ≤ e) × (e ≤ n)
range_ok_lem s e n r = (leb-true s e (and_true_left (nat_le s e) (nat_le e n) r), leb-true e n (and_true_right (nat_le s e) (nat_le e n) r))

kind_ok : (c : ℕ) (x y z : Bool) → cond (c == 0 || c == 1) x (cond (c == 2) y (cond (c == 3) z (c == 4))) ≡ true → c ≤ 4
kind_ok zero x y z h = omega arith
kind_ok (suc zero) x y z h = omega arith
kind_ok (suc (suc zero)) x y z h = omega arith
kind_ok (suc (suc (suc zero))) x y z h = omega arith
kind_ok (suc (suc (suc (suc c)))) x y z h =
    let n : ℕ = suc (suc (suc (suc c))) in
    let e : n ≡ 4 = eqb-true n 4 (rw (ne_eqb n 0 (omega arith), ne_eqb n 1 (omega arith), ne_eqb n 2 (omega arith), ne_eqb n 3 (omega arith)) at h) in
    omega arith

-- the parts of rules 5 and 8 after their first, and of a block's and an operation's part of rule 8
abbrev limits : List ℕ → List Bool
limits w =
    nat_lt 256 (blocks w) ∷ nat_lt 1024 (operations w) ∷ nat_lt 4096 (operand_words w) ∷ nat_lt 512 (case_targets w) ∷ nat_lt 512 (locals w)
    ∷ (functions w == 0) ∷ (blocks w == 0) ∷ []

abbrev ids : List ℕ → List Bool
ids w =
    optional_below (main_plus_one w) (functions w) ∷ all (λ f. ltb (entry_block w f) (blocks w)) (upto (functions w))
    ∷ all (block_ids_ok w) (upto (blocks w)) ∷ all (op_ids_ok w) (upto (operations w))
    ∷ all (λ i. ltb (operand w i) (locals w)) (upto (operand_words w)) ∷ all (λ i. ltb (target w i) (blocks w)) (upto (case_targets w)) ∷ []

abbrev block_ids : List ℕ → ℕ → List Bool
block_ids w b =
    range_ok (block_word w b 2) (block_word w b 3) (operand_words w) ∷ range_ok (block_word w b 4) (block_word w b 5) (operations w)
    ∷ control_ids_ok w b ∷ []

abbrev op_ids : List ℕ → ℕ → List Bool
op_ids w o =
    range_ok (op_word w o 3) (op_word w o 4) (operand_words w) ∷ (not (is_call (code w o)) || nat_lt (extra w o 0) (functions w))
    ∷ (not (is_static_alloc (code w o)) || not (extra w o 1 == 4294967295)) ∷ []

-- ---- what each group of rules gives where none of it applies

-- the head, and as many words as it calls for
module _ (w : List ℕ) (head : first (head_rules w) ≡ 0) where
  five : Each false (nat_lt 64 (functions w) ∷ limits w)
  unfolding rule5
  five = ors_each (nat_lt 64 (functions w)) (limits w) (kept 5 (head_rules w) refl head)

  pub sized : word_count w ≤ length w → Sized w
  sized fits =
      record {
        functions_most = ltb-false _ _ five.0;
        blocks_most = ltb-false _ _ five.1.0;
        operations_most = ltb-false _ _ five.1.1.0;
        operands_most = ltb-false _ _ five.1.1.1.0;
        targets_most = ltb-false _ _ five.1.1.1.1.0;
        locals_most = ltb-false _ _ five.1.1.1.1.1.0;
        functions_some = let n = eqb-false (functions w) 0 five.1.1.1.1.1.1.0 in omega arith;
        blocks_some = let n = eqb-false (blocks w) 0 five.1.1.1.1.1.1.1.0 in omega arith;
        size = fits;
      }

-- the limits allow 14,665 words, which 117 pages hold
pub words_most : {w : List ℕ} → Sized w → word_count w ≤ 14665
words_most s = omega (arith, s.functions_most, s.blocks_most, s.operations_most, s.operands_most, s.targets_most)

-- the fit of pages
pub fits : (w : List ℕ) → rule6 w ≡ false → word_count w ≤ length w
unfolding rule6
fits w h = size_ok (length w) (word_count w) (eqb-true _ _ (not-false _ (or_false_left (not (length w == 126 * pages_for (word_count w))) _ h)))

switch_ok : (c x0 x1 x2 x3 B L C : ℕ)
    → cond (c == 2) (nat_lt x0 B) (cond (c == 3) (nat_lt x0 L && nat_lt x1 B && nat_lt x2 B) (cond (c == 4) (nat_lt x0 L && nat_le (x1 + x2) C && optional_below x3 B) true)) ≡ true
    → c ≡ 4 → x1 + x2 ≤ C
switch_ok c x0 x1 x2 x3 B L C h e =
    let g : (nat_lt x0 L && nat_le (x1 + x2) C && optional_below x3 B) ≡ true = rw e at h in
    leb-true (x1 + x2) C (ands_each (nat_lt x0 L) (nat_le (x1 + x2) C ∷ optional_below x3 B ∷ []) g).1.0

module _ (w : List ℕ) (fields : first (field_rules w) ≡ 0) where
  eight : Each true (nat_lt (init_function w) (functions w) ∷ ids w)
  unfolding rule8
  eight = ands_each (nat_lt (init_function w) (functions w)) (ids w) (not-false _ (kept 8 (field_rules w) refl fields))

  seven : Each true (all (block_fields_ok w) (upto (blocks w)) ∷ all (op_fields_ok w) (upto (operations w)) ∷ [])
  unfolding rule7
  seven = ands_each (all (block_fields_ok w) (upto (blocks w))) (all (op_fields_ok w) (upto (operations w)) ∷ []) (not-false _ (kept 7 (field_rules w) refl fields))

  block_ids_lem : (b : ℕ) → b < blocks w → Each true (range_ok (block_word w b 0) (block_word w b 1) (operand_words w) ∷ block_ids w b)
  block_ids_lem b l = ands_each (range_ok (block_word w b 0) (block_word w b 1) (operand_words w)) (block_ids w b) (all_upto (block_ids_ok w) (blocks w) eight.1.1.1.0 b l)

  op_ids_lem : (o : ℕ) → o < operations w → Each true (range_ok (op_word w o 1) (op_word w o 2) (operand_words w) ∷ op_ids w o)
  op_ids_lem o l = ands_each (range_ok (op_word w o 1) (op_word w o 2) (operand_words w)) (op_ids w o) (all_upto (op_ids_ok w) (operations w) eight.1.1.1.1.0 o l)

  operand_ok : (i : ℕ) → i < operand_words w → operand w i < locals w
  operand_ok i l = ltb-true _ _ (all_upto (λ j. ltb (operand w j) (locals w)) (operand_words w) eight.1.1.1.1.1.0 i l)

  target_ok : (i : ℕ) → i < case_targets w → target w i < blocks w
  target_ok i l = ltb-true _ _ (all_upto (λ j. ltb (target w j) (blocks w)) (case_targets w) eight.1.1.1.1.1.1.0 i l)

  op_ok : (b o : ℕ) → b < blocks w → Memᴰ o (ops w b) → o < operations w
  op_ok b o l m =
      let e = leb-true (block_word w b 5) (operations w) (and_true_right (nat_le (block_word w b 4) (block_word w b 5)) (nat_le (block_word w b 5) (operations w)) (block_ids_lem b l).1.1.0) in
      omega (arith, mem_range o (block_word w b 4) (block_word w b 5) m)

  successors_ok : (b s : ℕ) → b < blocks w → Memᴰ s (successors w b) → s < blocks w
  successors_ok b s l m =
      successor_ok (control w b == 2) (control w b == 3) (control w b == 4) (field w b 0) (field w b 1) (field w b 2) (field w b 3)
      (blocks w) (locals w) (case_targets w) s (target w) target_ok (block_ids_lem b l).1.1.1.0 m

  pub in_range : InRange w
  in_range =
      record {
        init = ltb-true _ _ eight.0;
        main = λ m e. optional_ok (main_plus_one w) (functions w) m eight.1.0 (rw e (mathlib.Core.List.Memᴰ.head refl));
        entry = λ f l. ltb-true _ _ (all_upto (λ g. ltb (entry_block w g) (blocks w)) (functions w) eight.1.1.0 f l);
        kind = λ b l. kind_ok (control w b) (zero_from w b 0) (zero_from w b 1) (zero_from w b 3) (all_upto (block_fields_ok w) (blocks w) seven.0 b l);
        code_most = λ o l. leb-true (code w o) 92 (and_true_left (nat_le (code w o) 92) _ (all_upto (op_fields_ok w) (operations w) seven.1.0 o l));
        operand_below = operand_ok;
        target_below = target_ok;
        inputs_range = λ b l. range_ok_lem (block_word w b 0) (block_word w b 1) (operand_words w) (block_ids_lem b l).0;
        outputs_range = λ b l. range_ok_lem (block_word w b 2) (block_word w b 3) (operand_words w) (block_ids_lem b l).1.0;
        ops_range = λ b l. range_ok_lem (block_word w b 4) (block_word w b 5) (operations w) (block_ids_lem b l).1.1.0;
        ins_range = λ o l. range_ok_lem (op_word w o 1) (op_word w o 2) (operand_words w) (op_ids_lem o l).0;
        outs_range = λ o l. range_ok_lem (op_word w o 3) (op_word w o 4) (operand_words w) (op_ids_lem o l).1.0;
        switch_range = λ b l e. switch_ok (control w b) (field w b 0) (field w b 1) (field w b 2) (field w b 3) (blocks w) (locals w) (case_targets w) (block_ids_lem b l).1.1.1.0 e;
        successor = successors_ok;
        op = op_ok;
        callee = λ o f l m. callee_ok (is_call (code w o)) (extra w o 0) (functions w) f (op_ids_lem o l).1.1.0 m;
        input = λ b v l m. run_ok w (block_word w b 0) (block_word w b 1) v operand_ok (block_ids_lem b l).0 m;
        output = λ b v l m. run_ok w (block_word w b 2) (block_word w b 3) v operand_ok (block_ids_lem b l).1.0 m;
        tested = λ b v l m. condition_ok (control w b == 2) (control w b == 3) (control w b == 4) (field w b 0) (field w b 1) (field w b 2) (field w b 3)
            (blocks w) (locals w) (case_targets w) v (block_ids_lem b l).1.1.1.0 (two_only (control w b)) m;
        read = λ o v l m. run_ok w (op_word w o 1) (op_word w o 2) v operand_ok (op_ids_lem o l).0 m;
        written = λ o v l m. run_ok w (op_word w o 3) (op_word w o 4) v operand_ok (op_ids_lem o l).1.0 m;
      }

-- all the facts, wherever no rule applies and the words are there
module _ (w : List ℕ) (unfit : Bool) (there : word_count w ≤ length w) (accepted : first (rules_of unfit w) ≡ 0) where
  abbrev behind : List (ℕ × Bool)
  behind = (6, unfit) ∷ field_rules w ++ operand_rules w

  pub formed : WellFormed w
  unfolding rule9 rule10 rule11
  formed =
      record {
        sized = sized w (first_left (head_rules w) behind accepted) there;
        in_range = in_range w (first_left (field_rules w) (operand_rules w) (first_right (head_rules w ++ ((6, unfit) ∷ [])) (field_rules w ++ operand_rules w) refl accepted));
        arity_ok_fact = λ o l. all_upto (λ p. arity_ok (code w p) (length (ins w p)) (length (outs w p))) (operations w) (not-false _ (kept 9 (rules_of unfit w) refl accepted)) o l;
        passed = λ b s l m. eqb-true _ _ (all_mem (λ t. nat_eq (length (outputs w b)) (length (inputs w t))) (successors w b)
            (all_upto (λ c. all (λ t. nat_eq (length (outputs w c)) (length (inputs w t))) (successors w c)) (blocks w) (not-false _ (kept 10 (rules_of unfit w) refl accepted)) b l) s m);
        inputs_once = λ b l. all_upto (λ c. distinct (inputs w c)) (blocks w) (not-false _ (kept 11 (rules_of unfit w) refl accepted)) b l;
      }

pub well_formed : (w : List ℕ) → first (record_rules w) ≡ 0 → WellFormed w
well_formed w h = formed w (rule6 w) (fits w (kept 6 (record_rules w) refl h)) h
