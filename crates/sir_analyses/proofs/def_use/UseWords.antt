-- The words of a local's uses, block by block and one by one: they are the answer, and how many there can be.
use mathlib.Core.Path.{◌≡◌, refl, sym, ap, ap₂, ◌∙◌}
use mathlib.Core.Bool.{Bool, true, false, ◌||◌, cond}
use mathlib.Core.List.{List, [], ◌∷◌, ◌++◌, map, append-nil}
use Prim.Native.Nat.{ℕ, suc, ◌+◌, ◌-◌, ◌*◌, ◌≤◌, ◌<◌}
use native.Mathlib.Numerals.{add-one}
use native.Mathlib.Omega.{arith}
use lib.ListN.{length, get_or, drop, length-append, drop_of_length-le}
use lib.Seq.{drop-cons}
use lib.Dec.{eqb}
use borrow.Author.Tests.{eq-eqb, ne_eqb, eqb-true, eqb-false}
use Rattle.std.specs.List.{count_by}
use Rattle.std.proofs.lemmas.List.Sums.{sum_by-cons}
use Rattle.plank_core.specs.Lists.{range, upto, bind, mem}
use Rattle.plank_core.specs.laws.Lists.{none}
use Rattle.plank_core.specs.laws.Loops.{range_next, range_none, range_all, length_count, length_map_count, bind_append, bind_same, bind_bind}
use Rattle.sir_data.specs.Records.{blocks, operations, operand, control, field, block_word, op_word, ops, ins, condition, outputs}
use Rattle.sir_data.specs.inner.WellFormed.{WellFormed}
use Rattle.sir_analyses.specs.Order.{blocks_rpo}
use Rattle.sir_analyses.specs.Liveness.{Use, positions, uses_in}
use Rattle.sir_analyses.specs.Answers.{uses_answer}
use Rattle.sir_analyses.proofs.claims.order.OrderProof.{blocks_below}
use Rattle.sir_analyses.proofs.claims.order.OrderLength.{blocks_most}
use Rattle.plank_core.specs.laws.Folds.{bind_most, bind_each, bind_long, bind_map}
use Rattle.sir_analyses.specs.inner.Uses.{InputCounts, repeated_uses, operation_uses, condition_uses, output_uses, block_uses, uses_of}
use Rattle.sir_analyses.proofs.Accepted.{ops_few}

-- ---- the places of a local in a list

pub places_counted : (v : ℕ) (xs : List ℕ) (k : ℕ) → count_by (λ x. eqb x v) xs ≡ length (positions v xs k)
places_counted v [] k = refl
places_counted v (x ∷ xs) k = sum_by-cons (λ y. cond (eqb y v) 1 0) x xs ∙ go (eqb x v) (places_counted v xs (suc k))
  where
    go : (t : Bool) → count_by (λ y. eqb y v) xs ≡ length (positions v xs (suc k)) → cond t 1 0 + count_by (λ y. eqb y v) xs ≡ length (cond t (k ∷ positions v xs (suc k)) (positions v xs (suc k)))
    go true h = omega (arith, h)
    go false h = omega (arith, h)

module _ (v : ℕ) (xs : List ℕ) (i : ℕ) where
  module _ (h : i < length xs) where
    next : positions v (drop i xs) i ≡ cond (eqb (get_or xs i 0) v) (i ∷ positions v (drop (i + 1) xs) (i + 1)) (positions v (drop (i + 1) xs) (i + 1))
    next = ap (λ (l : List ℕ). positions v l i) (drop-cons xs i 0 h) ∙ ap (λ (k : ℕ). cond (eqb (get_or xs i 0) v) (i ∷ positions v (drop k xs) k) (positions v (drop k xs) k)) (sym (add-one i))

    pub place_here : get_or xs i 0 ≡ v → positions v (drop i xs) i ≡ i ∷ positions v (drop (i + 1) xs) (i + 1)
    place_here e = next ∙ rw (eq-eqb (get_or xs i 0) v e)

    pub place_other : (get_or xs i 0 ≡ v → ⊥) → positions v (drop i xs) i ≡ positions v (drop (i + 1) xs) (i + 1)
    place_other e = next ∙ rw (ne_eqb (get_or xs i 0) v e)

  pub places_end : length xs ≤ i → positions v (drop i xs) i ≡ []
  places_end h = rw (drop_of_length-le xs {i = i} h)

pub places_most : (v : ℕ) (xs : List ℕ) (k : ℕ) → length (positions v xs k) ≤ length xs
places_most v [] k = omega arith
places_most v (x ∷ xs) k = go (eqb x v) (places_most v xs (suc k))
  where
    go : (t : Bool) → length (positions v xs (suc k)) ≤ length xs → length (cond t (k ∷ positions v xs (suc k)) (positions v xs (suc k))) ≤ suc (length xs)
    go true h = omega arith
    go false h = omega arith

-- ---- one use some times over

module _ (b o : ℕ) where
  abbrev pub same_left : ℕ → ℕ → List ℕ
  same_left i n = bind (range i n) (λ k. b ∷ 0 ∷ o ∷ [])

  pub same_start : (n : ℕ) → repeated_uses b o n ≡ same_left 0 n
  unfolding repeated_uses
  same_start n = ap (λ (l : List ℕ). bind l (λ k. b ∷ 0 ∷ o ∷ [])) (sym (range_all n))

  pub same_next : (i n : ℕ) → i < n → same_left i n ≡ (b ∷ 0 ∷ o ∷ []) ++ same_left (i + 1) n
  same_next i n h = ap (λ (l : List ℕ). bind l (λ k. b ∷ 0 ∷ o ∷ [])) (range_next i n h)

  pub same_end : (i n : ℕ) → n ≤ i → same_left i n ≡ []
  same_end i n h = rw (range_none i n h)

pub repeated_uses_length : (b o n : ℕ) → length (repeated_uses b o n) ≡ 3 * n
unfolding repeated_uses
repeated_uses_length b o n = bind_long (λ k. b ∷ 0 ∷ o ∷ []) 3 (upto n) (λ x. refl) ∙ ap (λ (k : ℕ). 3 * k) (length_count 0 n)

-- ---- a block's operations in turn

module _ (w counts : List ℕ) (b o last : ℕ) where
  abbrev pub operations_left : List ℕ
  operations_left = bind (range o last) (λ p. repeated_uses b p (get_or counts p 0))

  pub operation_next : o < last → operations_left ≡ repeated_uses b o (get_or counts o 0) ++ bind (range (o + 1) last) (λ p. repeated_uses b p (get_or counts p 0))
  operation_next h = ap (λ (l : List ℕ). bind l (λ p. repeated_uses b p (get_or counts p 0))) (range_next o last h)

  pub operation_end : last ≤ o → operations_left ≡ []
  operation_end h = rw (range_none o last h)

pub span_is : (w counts : List ℕ) (b s e : ℕ) → s ≡ block_word w b 4 → e ≡ block_word w b 5 → operations_left w counts b s e ≡ operation_uses w counts b
unfolding operation_uses
span_is w counts b s e p q = rw (p, q)

-- ---- a block's outputs in turn

abbrev pub outputs_left : List ℕ → ℕ → ℕ → ℕ → List ℕ
outputs_left w v b k = bind (positions v (drop k (outputs w b)) k) (λ k. b ∷ 2 ∷ k ∷ [])

module _ (w : List ℕ) (v b k : ℕ) where
  pub output_here : k < length (outputs w b) → get_or (outputs w b) k 0 ≡ v → outputs_left w v b k ≡ (b ∷ 2 ∷ k ∷ []) ++ outputs_left w v b (k + 1)
  output_here h e = ap (λ (l : List ℕ). bind l (λ k. b ∷ 2 ∷ k ∷ [])) (place_here v (outputs w b) k h e)

  pub output_other : k < length (outputs w b) → (get_or (outputs w b) k 0 ≡ v → ⊥) → outputs_left w v b k ≡ outputs_left w v b (k + 1)
  output_other h e = ap (λ (l : List ℕ). bind l (λ k. b ∷ 2 ∷ k ∷ [])) (place_other v (outputs w b) k h e)

  pub output_end : length (outputs w b) ≤ k → outputs_left w v b k ≡ []
  output_end h = ap (λ (l : List ℕ). bind l (λ k. b ∷ 2 ∷ k ∷ [])) (places_end v (outputs w b) k h)

  pub outputs_most : WellFormed w → b < blocks w → length (outputs w b) ≤ 4096
  outputs_most good l = let r = good.in_range.outputs_range b l in omega (arith, length_map_count (operand w) (block_word w b 2) (block_word w b 3 - block_word w b 2), good.sized.operands_most)

pub inputs_most : (w : List ℕ) → WellFormed w → (o : ℕ) → o < operations w → length (ins w o) ≤ 4096
inputs_most w good o l = let r = good.in_range.ins_range o l in omega (arith, length_map_count (operand w) (op_word w o 1) (op_word w o 2 - op_word w o 1), good.sized.operands_most)

-- ---- the condition

-- a list of at most one
single : (v : ℕ) (xs : List ℕ) (g : ℕ → List ℕ) → length xs ≤ 1 → (t : Bool) → mem v xs ≡ t → bind (positions v xs 0) g ≡ cond t (g 0) []
single v [] g l true e = none false e refl
single v [] g l false e = refl
single v (x ∷ []) g l t e = go (eqb x v) refl
  where
    go : (u : Bool) → eqb x v ≡ u → bind (positions v (x ∷ []) 0) g ≡ cond t (g 0) []
    go true q = let m : t ≡ true = sym e ∙ ap (λ (u : Bool). u || false) (eq-eqb v x (sym (eqb-true x v q))) in rw (q, m) (append-nil (g 0))
    go false q = let m : t ≡ false = sym e ∙ ap (λ (u : Bool). u || false) (ne_eqb v x (λ y. eqb-false x v q (sym y))) in rw (q, m)
single v (x ∷ y ∷ xs) g l t e = absurd (omega arith)

condition_one : (w : List ℕ) (b : ℕ) → length (condition w b) ≤ 1
condition_one w b = go (eqb (control w b) 3 || eqb (control w b) 4)
  where
    go : (t : Bool) → length (cond t (field w b 0 ∷ []) []) ≤ 1
    go true = omega arith
    go false = omega arith

module _ (w : List ℕ) (v b : ℕ) where
  pub no_condition_use : mem v (condition w b) ≡ false → condition_uses w v b ≡ []
  no_condition_use e = single v (condition w b) (λ k. b ∷ 1 ∷ 0 ∷ []) (condition_one w b) false e

-- ---- all of it is the answer

-- a fixed list, as often as a list is long
fixed : (c xs ys : List ℕ) → length xs ≡ length ys → bind xs (λ k. c) ≡ bind ys (λ k. c)
fixed c [] [] e = refl
fixed c [] (y ∷ ys) e = absurd (let z : 0 ≡ suc (length ys) = e in omega arith)
fixed c (x ∷ xs) [] e = absurd (let z : suc (length xs) ≡ 0 = e in omega arith)
fixed c (x ∷ xs) (y ∷ ys) e = ap (λ (l : List ℕ). c ++ l) (fixed c xs ys (omega arith))

-- the three words of a use
abbrev use_words : Use → List ℕ
use_words u = u.block ∷ u.kind ∷ u.place ∷ []

-- the words of the uses by block b's operations, each place of v among the inputs
abbrev pub operation_words : List ℕ → ℕ → ℕ → List ℕ
operation_words w v b = bind (ops w b) (λ o. bind (positions v (ins w o) 0) (λ k. b ∷ 0 ∷ o ∷ []))

-- the answer, block by block
pub answer_blocks : (w : List ℕ) (v : ℕ) → uses_answer w v ≡ bind (blocks_rpo w) (λ b. operation_words w v b ++ condition_uses w v b ++ output_uses w v b)
answer_blocks w v = bind_bind (uses_in w v) use_words (blocks_rpo w) ∙ bind_same (λ b. bind (uses_in w v b) use_words) (λ b. operation_words w v b ++ condition_uses w v b ++ output_uses w v b) (blocks_rpo w) one
  where
    one : (b : ℕ) → bind (uses_in w v b) use_words ≡ operation_words w v b ++ condition_uses w v b ++ output_uses w v b
    one b =
        let A : List Use = bind (ops w b) (λ o. map (λ k. record { block = b; kind = 0; place = o }) (positions v (ins w o) 0)) in
        let C : List Use = map (λ k. record { block = b; kind = 1; place = 0 }) (positions v (condition w b) 0) in
        let D : List Use = map (λ k. record { block = b; kind = 2; place = k }) (positions v (outputs w b) 0) in
        let a : bind A use_words ≡ operation_words w v b =
        bind_bind (λ o. map (λ k. record { block = b; kind = 0; place = o }) (positions v (ins w o) 0)) use_words (ops w b)
        ∙ bind_same (λ o. bind (map (λ k. record { block = b; kind = 0; place = o }) (positions v (ins w o) 0)) use_words) (λ o. bind (positions v (ins w o) 0) (λ k. b ∷ 0 ∷ o ∷ [])) (ops w b)
        (λ o. bind_map (λ k. record { block = b; kind = 0; place = o }) use_words (positions v (ins w o) 0)) in
        bind_append use_words (A ++ C) D
        ∙ ap₂ (λ x y. x ++ y) (bind_append use_words A C ∙ ap₂ (λ x y. x ++ y) a (bind_map (λ k. record { block = b; kind = 1; place = 0 }) use_words (positions v (condition w b) 0)))
        (bind_map (λ k. record { block = b; kind = 2; place = k }) use_words (positions v (outputs w b) 0))

module _ (w : List ℕ) (good : WellFormed w) (v : ℕ) {counts : List ℕ} (k : InputCounts w v counts) where
  operation_words_lem : (b : ℕ) → b < blocks w → operation_uses w counts b ≡ operation_words w v b
  unfolding operation_uses repeated_uses
  operation_words_lem b l =
      bind_each (λ o. bind (upto (get_or counts o 0)) (λ k. b ∷ 0 ∷ o ∷ [])) (λ o. bind (positions v (ins w o) 0) (λ k. b ∷ 0 ∷ o ∷ [])) (ops w b)
      (λ o m. fixed (b ∷ 0 ∷ o ∷ []) (upto (get_or counts o 0)) (positions v (ins w o) 0) (length_count 0 (get_or counts o 0) ∙ k.count_is o (good.in_range.op b o l m)))

  pub uses_are : uses_of w counts v ≡ uses_answer w v
  uses_are =
      bind_each (block_uses w counts v) (λ b. operation_words w v b ++ condition_uses w v b ++ output_uses w v b) (blocks_rpo w)
      (λ b m. ap (λ (l : List ℕ). l ++ condition_uses w v b ++ output_uses w v b) (operation_words_lem b (blocks_below w good b m)))
      ∙ sym (answer_blocks w v)

  -- ---- how long it can be

  same_most : (b o : ℕ) → o < operations w → length (repeated_uses b o (get_or counts o 0)) ≤ 12288
  same_most b o l = omega (arith, repeated_uses_length b o (get_or counts o 0), k.count_is o l, places_most v (ins w o) 0, inputs_most w good o l)

  block_most : (b : ℕ) → b < blocks w → length (block_uses w counts v b) ≤ 12595203
  unfolding operation_uses
  block_most b l =
      omega (
        arith,
        length-append (operation_uses w counts b ++ condition_uses w v b) (output_uses w v b),
        length-append (operation_uses w counts b) (condition_uses w v b),
        bind_most (λ o. repeated_uses b o (get_or counts o 0)) 12288 (ops w b) (λ o m. same_most b o (good.in_range.op b o l m)),
        ops_few w good b l,
        bind_long (λ k. b ∷ 1 ∷ 0 ∷ []) 3 (positions v (condition w b) 0) (λ x. refl),
        places_most v (condition w b) 0,
        condition_one w b,
        bind_long (λ k. b ∷ 2 ∷ k ∷ []) 3 (positions v (outputs w b) 0) (λ x. refl),
        places_most v (outputs w b) 0,
        outputs_most w v b 0 good l,
      )

  pub uses_most : length (uses_of w counts v) ≤ 12595203 * 256
  uses_most = omega (arith, bind_most (block_uses w counts v) 12595203 (blocks_rpo w) (λ b m. block_most b (blocks_below w good b m)), blocks_most w good, good.sized.blocks_most)
