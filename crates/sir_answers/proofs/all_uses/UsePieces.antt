-- The pieces of the pass over uses: those for a local are its uses, and how many there are, counted by operations.
use mathlib.Core.Path.{◌≡◌, refl, sym, ap, ap₂, ◌∙◌}
use mathlib.Core.Bool.{Bool, true, false, cond}
use mathlib.Core.List.{List, [], ◌∷◌, ◌++◌, map, append_assoc}
use Prim.Native.Nat.{ℕ, suc, ◌+◌, ◌*◌, ◌≤◌, ◌<◌}
use native.Mathlib.Omega.{arith}
use lib.ListN.{length, get_or, length-append, length-replicate}
use lib.Dec.{eqb}
use Rattle.plank_core.specs.Lists.{bind, upto, one_if, times, sum}
use Rattle.plank_core.specs.laws.Lists.{bind_out, one_if_most}
use Rattle.plank_core.specs.laws.Loops.{bind_bind, bind_same, map_append, sum_append, map_same, length_map_upto, get_or_map_upto}
use Rattle.sir_data.specs.Records.{blocks, operations, locals, ops, ins, condition, outputs}
use Rattle.sir_data.specs.inner.WellFormed.{WellFormed}
use Rattle.sir_analyses.specs.Order.{blocks_rpo}
use Rattle.sir_analyses.specs.Liveness.{positions}
use Rattle.sir_analyses.specs.Answers.{uses_answer}
use Rattle.sir_analyses.specs.inner.Uses.{InputCounts, condition_uses, output_uses}
use Rattle.sir_answers.specs.inner.Scatter.{Pieces, pieces_of, Below}
use Rattle.sir_answers.specs.inner.Pieces.{pieces_at, blanks, input_use_pieces, condition_pieces, output_pieces, end_pieces, block_use_pieces, use_pieces, one_pieces, OperationTimes, input_pieces}
use Rattle.sir_answers.specs.laws.Scatter.{pieces_append}
use Rattle.sir_analyses.proofs.claims.order.OrderProof.{blocks_below}
use Rattle.sir_analyses.proofs.claims.order.OrderLength.{blocks_most}
use Rattle.plank_core.specs.laws.Folds.{bind_most, bind_long}
use Rattle.plank_core.specs.laws.Distinct.{eqb_swap}
use Rattle.sir_analyses.proofs.def_use.UseWords.{operation_words, answer_blocks, uses_are, uses_most}
use Rattle.sir_answers.proofs.scatter.AllAnswers.{Small}
use Rattle.sir_answers.proofs.scatter.PieceLaws.{pieces_at_lem, below_at, below_append, below_bind, sum_times, pieces_bind}
use Rattle.sir_analyses.proofs.Accepted.{ops_few}

module _ (w : List ℕ) (v : ℕ) where
  operation_pieces_lem : (b : ℕ) → pieces_of v (input_use_pieces w b) ≡ operation_words w v b
  operation_pieces_lem b =
      pieces_bind v (λ o. pieces_at (λ k. b ∷ 0 ∷ o ∷ []) (ins w o) 0) (ops w b)
      ∙ bind_same (λ o. pieces_of v (pieces_at (λ k. b ∷ 0 ∷ o ∷ []) (ins w o) 0)) (λ o. bind (positions v (ins w o) 0) (λ k. b ∷ 0 ∷ o ∷ [])) (ops w b)
      (λ o. pieces_at_lem v (λ k. b ∷ 0 ∷ o ∷ []) (ins w o) 0)

  block_pieces_lem : (b : ℕ) → pieces_of v (block_use_pieces w b) ≡ operation_words w v b ++ condition_uses w v b ++ output_uses w v b
  block_pieces_lem b =
      pieces_append v (input_use_pieces w b) (end_pieces w b)
      ∙ ap₂ (λ x y. x ++ y) (operation_pieces_lem b)
      (pieces_append v (condition_pieces w b) (output_pieces w b)
      ∙ ap₂ (λ x y. x ++ y) (pieces_at_lem v (λ k. b ∷ 1 ∷ 0 ∷ []) (condition w b) 0) (pieces_at_lem v (λ k. b ∷ 2 ∷ k ∷ []) (outputs w b) 0))
      ∙ sym (append_assoc (operation_words w v b) (condition_uses w v b) (output_uses w v b))

  pub use_pieces_lem : pieces_of v (use_pieces w) ≡ uses_answer w v
  use_pieces_lem =
      pieces_bind v (block_use_pieces w) (blocks_rpo w)
      ∙ bind_same (λ b. pieces_of v (block_use_pieces w b)) (λ b. operation_words w v b ++ condition_uses w v b ++ output_uses w v b) (blocks_rpo w) block_pieces_lem
      ∙ sym (answer_blocks w v)

module _ (w : List ℕ) (good : WellFormed w) where
  -- every piece is for a local
  pub uses_below : Below (locals w) (use_pieces w)
  uses_below =
      below_bind (locals w) (block_use_pieces w) (blocks_rpo w)
      (λ b m.
      let l : b < blocks w = blocks_below w good b m in
      below_append (locals w) (input_use_pieces w b) (end_pieces w b)
      (below_bind (locals w) (λ o. pieces_at (λ k. b ∷ 0 ∷ o ∷ []) (ins w o) 0) (ops w b) (λ o n. below_at (locals w) (λ k. b ∷ 0 ∷ o ∷ []) (ins w o) 0 (λ v i. good.in_range.read o v (good.in_range.op b o l n) i)))
      (below_append (locals w) (condition_pieces w b) (output_pieces w b)
      (below_at (locals w) (λ k. b ∷ 1 ∷ 0 ∷ []) (condition w b) 0 (λ v i. good.in_range.tested b v l i))
      (below_at (locals w) (λ k. b ∷ 2 ∷ k ∷ []) (outputs w b) 0 (λ v i. good.in_range.output b v l i))))

  pub uses_small : Small (locals w) (uses_answer w)
  uses_small = record { ids = omega (arith, good.sized.locals_most); words = λ v l. omega (arith, ap length (uses_are w good v (counts v)), uses_most w good v (counts v)) }
    where
      often : ℕ → ℕ → ℕ
      often v o = length (positions v (ins w o) 0)

      counts : (v : ℕ) → InputCounts w v (map (often v) (upto 1024))
      counts v = record {
        wide = length_map_upto (often v) 1024;
        count_is = λ o l. get_or_map_upto (often v) 1024 o 0 (omega (arith, good.sized.operations_most));
      }

-- ---- counted by operations

-- the pieces of two kinds that take turns, counted apart
apart : (v : ℕ) (f g : ℕ → Pieces) (bs : List ℕ) → length (pieces_of v (bind bs (λ b. f b ++ g b))) ≡ length (pieces_of v (bind bs f)) + length (pieces_of v (bind bs g))
apart v f g [] = omega arith
apart v f g (b ∷ bs) =
    omega (
      arith,
      ap length (pieces_append v (f b ++ g b) (bind bs (λ b. f b ++ g b))),
      length-append (pieces_of v (f b ++ g b)) (pieces_of v (bind bs (λ b. f b ++ g b))),
      ap length (pieces_append v (f b) (g b)),
      length-append (pieces_of v (f b)) (pieces_of v (g b)),
      ap length (pieces_append v (f b) (bind bs f)),
      length-append (pieces_of v (f b)) (pieces_of v (bind bs f)),
      ap length (pieces_append v (g b) (bind bs g)),
      length-append (pieces_of v (g b)) (pieces_of v (bind bs g)),
      apart v f g bs,
    )

one_times : (o : ℕ) (xs : List ℕ) → length (pieces_of o (bind xs (λ x. (x, blanks 1) ∷ []))) ≡ times o xs
one_times o [] = refl
one_times o (x ∷ xs) = rw (eqb_swap x o) (go (eqb o x) (one_times o xs))
  where
    go : (t : Bool) → length (pieces_of o (bind xs (λ x. (x, blanks 1) ∷ []))) ≡ times o xs → length (cond t (blanks 1) [] ++ pieces_of o (bind xs (λ x. (x, blanks 1) ∷ []))) ≡ one_if t + times o xs
    go true h = ap suc h ∙ omega arith
    go false h = h ∙ omega arith

module _ (w : List ℕ) (v : ℕ) where
  -- how often an operation reads v
  abbrev reads : ℕ → ℕ
  reads o = length (positions v (ins w o) 0)

  -- as many words for each input of some operations
  pieces_sum : (c : ℕ → List ℕ) (n : ℕ → ℕ) → ((o : ℕ) → length (c o) ≡ n o) → (os : List ℕ) → length (pieces_of v (bind os (λ o. pieces_at (λ k. c o) (ins w o) 0))) ≡ sum (map (λ o. n o * reads o) os)
  pieces_sum c n h [] = refl
  pieces_sum c n h (o ∷ os) =
      let e : length (pieces_of v (pieces_at (λ k. c o) (ins w o) 0)) ≡ n o * reads o = ap length (pieces_at_lem v (λ k. c o) (ins w o) 0) ∙ bind_long (λ k. c o) (n o) (positions v (ins w o) 0) (λ k. h o) in
      ap length (pieces_append v (pieces_at (λ k. c o) (ins w o) 0) (bind os (λ o. pieces_at (λ k. c o) (ins w o) 0)))
      ∙ length-append (pieces_of v (pieces_at (λ k. c o) (ins w o) 0)) (pieces_of v (bind os (λ o. pieces_at (λ k. c o) (ins w o) 0)))
      ∙ ap₂ ◌+◌ e (pieces_sum c n h os)

  operations_sum : (bs : List ℕ) → length (pieces_of v (bind bs (input_use_pieces w))) ≡ sum (map (λ o. 3 * reads o) (bind bs (ops w)))
  operations_sum [] = refl
  operations_sum (b ∷ bs) =
      ap length (pieces_append v (input_use_pieces w b) (bind bs (input_use_pieces w)))
      ∙ length-append (pieces_of v (input_use_pieces w b)) (pieces_of v (bind bs (input_use_pieces w)))
      ∙ ap₂ ◌+◌ (pieces_sum (λ o. b ∷ 0 ∷ o ∷ []) (λ o. 3) (λ o. refl) (ops w b)) (operations_sum bs)
      ∙ sym (ap sum (map_append (λ o. 3 * reads o) (ops w b) (bind bs (ops w))) ∙ sum_append (map (λ o. 3 * reads o) (ops w b)) (map (λ o. 3 * reads o) (bind bs (ops w))))

-- how often an operation lies in a block of the order
ones_times : (w : List ℕ) (o : ℕ) → length (pieces_of o (bind (blocks_rpo w) (one_pieces w))) ≡ times o (bind (blocks_rpo w) (ops w))
ones_times w o = sym (ap (λ (ps : Pieces). length (pieces_of o ps)) (bind_bind (ops w) (λ x. (x, blanks 1) ∷ []) (blocks_rpo w))) ∙ one_times o (bind (blocks_rpo w) (ops w))

module _ (w : List ℕ) (good : WellFormed w) {often : List ℕ} (k : OperationTimes w often) (v : ℕ) where
  inputs_counted : length (pieces_of v (input_pieces w often)) ≡ length (pieces_of v (bind (blocks_rpo w) (input_use_pieces w)))
  inputs_counted =
      let os : List ℕ = bind (blocks_rpo w) (ops w) in
      pieces_sum w v (λ o. blanks (3 * get_or often o 0)) (λ o. 3 * get_or often o 0) (λ o. length-replicate (3 * get_or often o 0) 0) (upto (operations w))
      ∙ ap sum
      (map_same (λ o. 3 * get_or often o 0 * reads w v o) (λ o. times o os * (3 * reads w v o)) (operations w)
      (λ o l.
      let e : get_or often o 0 ≡ times o os = k.times_is o l ∙ ones_times w o in
      rw e (omega arith)))
      ∙ sum_times (λ o. 3 * reads w v o) os (operations w) (λ o m. let q = bind_out (ops w) (blocks_rpo w) m in good.in_range.op q.0 o (blocks_below w good q.0 q.1) q.2)
      ∙ sym (operations_sum w v (blocks_rpo w))

  -- the pieces by which uses are counted
  pub uses_counted : length (pieces_of v (input_pieces w often ++ bind (blocks_rpo w) (end_pieces w))) ≡ length (uses_answer w v)
  uses_counted =
      omega (
        arith,
        ap length (pieces_append v (input_pieces w often) (bind (blocks_rpo w) (end_pieces w))),
        length-append (pieces_of v (input_pieces w often)) (pieces_of v (bind (blocks_rpo w) (end_pieces w))),
        inputs_counted,
        apart v (input_use_pieces w) (end_pieces w) (blocks_rpo w),
        ap length (use_pieces_lem w v),
      )

times_most : (x : ℕ) (ys : List ℕ) → times x ys ≤ length ys
times_most x [] = omega arith
times_most x (y ∷ ys) = omega (arith, one_if_most (eqb x y), times_most x ys)

-- how often it can
pub ones_most : (w : List ℕ) → WellFormed w → (o : ℕ) → length (pieces_of o (bind (blocks_rpo w) (one_pieces w))) ≤ 1024 * 256
ones_most w good o =
    omega (
      arith,
      ones_times w o,
      times_most o (bind (blocks_rpo w) (ops w)),
      bind_most (ops w) 1024 (blocks_rpo w) (λ b m. ops_few w good b (blocks_below w good b m)),
      blocks_most w good,
      good.sized.blocks_most,
    )
