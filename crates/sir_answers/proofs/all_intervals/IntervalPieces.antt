-- The pieces of the pass over blocks and operations: those for a local are its intervals.
use mathlib.Core.Path.{◌≡◌, refl, sym, ap, ap₂, ◌∙◌}
use mathlib.Core.Logic.{⊎_elim}
use mathlib.Core.Bool.{Bool, true, false, ◌||◌, cond}
use mathlib.Core.List.Memᴰ
use mathlib.Core.List.{List, [], ◌∷◌, ◌++◌, foldr, reverse, reverse-append}
use Prim.Native.Nat.{ℕ, zero, suc, ◌+◌, ◌-◌, ◌*◌, ◌≤◌, ◌<◌}
use native.Mathlib.Numerals.{add-one}
use native.Mathlib.Omega.{arith}
use lib.ListN.{length, length-append}
use lib.Dec.{eqb}
use Rattle.plank_core.specs.Lists.{count, upto, range, bind, keep, mem, ◌∈◌}
use Rattle.plank_core.specs.laws.Lists.{split, map_each, bind_out, mem_range}
use Rattle.plank_core.specs.laws.Loops.{bind_snoc, bind_bind}
use Rattle.sir_data.specs.Records.{blocks, operations, locals, block_word, ops, ins, outs}
use Rattle.sir_data.specs.inner.WellFormed.{WellFormed}
use Rattle.sir_analyses.specs.Order.{blocks_rpo}
use Rattle.sir_analyses.specs.Liveness.{Set, has, exit_set, end_reads, end_open, Interval, Scan, closing, scan_op, block_intervals}
use Rattle.sir_analyses.specs.Answers.{interval_words, intervals_answer}
use Rattle.sir_analyses.specs.inner.Scanning.{open_before, closed_by}
use Rattle.sir_answers.specs.inner.Scatter.{Pieces, pieces_of, Below}
use Rattle.sir_answers.specs.inner.IntervalPieces.{interval_pieces, closed_pieces, open_end, operation_pieces, operations_pieces, start_pieces, block_pieces, local_pieces}
use Rattle.sir_answers.specs.laws.Scatter.{pieces_append}
use Rattle.sir_analyses.proofs.local_intervals.Scanning.{scan_open, scan_closed, words_append, closing_few}
use Rattle.sir_analyses.proofs.claims.order.OrderLength.{rpo_below, blocks_most}
use Rattle.plank_core.specs.laws.Folds.{bind_most, bind_each, bind_map}
use Rattle.sir_answers.proofs.scatter.PieceLaws.{below_append, below_bind, own_piece, pieces_bind, pieces_upto}
use Rattle.sir_answers.proofs.scatter.AllAnswers.{Small}
use Rattle.sir_analyses.proofs.claims.liveness.GenKill.{beyond}
use Rattle.sir_analyses.proofs.claims.liveness.LivenessProof.{exit_size}
use Rattle.sir_analyses.proofs.block_sets.BlockSets.{above, end_below}
use Rattle.sir_analyses.proofs.Accepted.{ops_few}

-- ---- the pieces for one id

-- of the intervals of one id, all or none
pub intervals_own : (v u : ℕ) (is : List Interval) → keep (own_piece v) (interval_pieces u is) ≡ cond (eqb u v) (interval_pieces u is) []
intervals_own v u [] = go (eqb u v)
  where
    go : (t : Bool) → [] ≡ cond t (interval_pieces u []) []
    go true = refl
    go false = refl
intervals_own v u (i ∷ is) = go (eqb u v) (intervals_own v u is)
  where
    go : (t : Bool) → keep (own_piece v) (interval_pieces u is) ≡ cond t (interval_pieces u is) []
        → cond t ((u, i.block ∷ i.from ∷ i.to ∷ []) ∷ keep (own_piece v) (interval_pieces u is)) (keep (own_piece v) (interval_pieces u is)) ≡ cond t (interval_pieces u (i ∷ is)) []
    go true e = ap (λ (l : Pieces). (u, i.block ∷ i.from ∷ i.to ∷ []) ∷ l) e
    go false e = e

own_words : (v : ℕ) (is : List Interval) → bind (interval_pieces v is) (λ p. p.1) ≡ interval_words is
own_words v is = bind_map (λ i. (v, i.block ∷ i.from ∷ i.to ∷ [])) (λ p. p.1) is

-- of the intervals of all ids below n, its own
intervals_upto : (v : ℕ) (f : ℕ → List Interval) (n : ℕ) → v < n → pieces_of v (bind (upto n) (λ u. interval_pieces u (f u))) ≡ interval_words (f v)
intervals_upto v f n h = pieces_upto v (λ u. interval_pieces u (f u)) (λ u. intervals_own v u (f u)) n h ∙ own_words v (f v)

-- ---- the operations of a block, backwards

module _ (w : List ℕ) (b v : ℕ) where
  -- the scan of one local from the block's end on
  abbrev scanned : List ℕ → Scan
  scanned os = foldr (scan_op w b v) (record { open' = end_open (has (exit_set w b) v || mem v (end_reads w b)); closed = [] }) os

  pub scanned_open : (os : List ℕ) → (scanned os).open' ≡ open_end w b v os
  unfolding open_end
  scanned_open [] = refl
  scanned_open (o ∷ os) = scan_open w b v o (scanned os) ∙ ap (open_before (mem v (outs w o)) (mem v (ins w o)) (o + 1)) (scanned_open os)

  module _ (h : v < 512) where
    operation_of : (o : ℕ) → pieces_of v (operation_pieces w b o) ≡ interval_words (closing b (o + 1) (closed_by (mem v (outs w o)) (open_end w b v (range (o + 1) (block_word w b 5)))))
    unfolding operation_pieces
    operation_of o = intervals_upto v (λ u. closing b (o + 1) (closed_by (mem u (outs w o)) (open_end w b u (range (o + 1) (block_word w b 5))))) 512 h

    run_of : (n s : ℕ) → s + n ≡ block_word w b 5 → pieces_of v (bind (reverse (count s n)) (operation_pieces w b)) ≡ interval_words (scanned (count s n)).closed
    run_of zero s e = refl
    run_of (suc n) s e =
        let os : List ℕ = count (suc s) n in
        let m : block_word w b 5 - (s + 1) ≡ n = omega arith in
        let l : count (s + 1) (block_word w b 5 - (s + 1)) ≡ os = ap₂ count (add-one s) m in
        let c : Scan = scanned os in
        ap (λ (xs : List ℕ). pieces_of v (bind xs (operation_pieces w b))) (reverse-append (s ∷ []) os)
        ∙ ap (pieces_of v) (bind_snoc (operation_pieces w b) (reverse os) s)
        ∙ pieces_append v (bind (reverse os) (operation_pieces w b)) (operation_pieces w b s)
        ∙ ap₂ (λ (xs ys : List ℕ). xs ++ ys)
        (run_of n (suc s) (omega arith))
        (operation_of s ∙ ap (λ (xs : List ℕ). interval_words (closing b (s + 1) (closed_by (mem v (outs w s)) (open_end w b v xs)))) l ∙ ap (λ (t : ℕ). interval_words (closing b (s + 1) (closed_by (mem v (outs w s)) t))) (sym (scanned_open os)))
        ∙ sym (words_append c.closed (closing b (s + 1) (closed_by (mem v (outs w s)) c.open')))
        ∙ ap interval_words (sym (scan_closed w b v s c))

    -- the intervals of v in block b
    pub block_of : block_word w b 4 ≤ block_word w b 5 → pieces_of v (block_pieces w b) ≡ interval_words (block_intervals w (exit_set w b) v b)
    unfolding start_pieces
    block_of l =
        let c : Scan = scanned (ops w b) in
        pieces_append v (operations_pieces w b) (start_pieces w b)
        ∙ ap₂ (λ (xs ys : List ℕ). xs ++ ys)
        (run_of (block_word w b 5 - block_word w b 4) (block_word w b 4) (omega arith))
        (intervals_upto v (λ u. closing b 0 (open_end w b u (ops w b))) 512 h ∙ ap (λ (t : ℕ). interval_words (closing b 0 t)) (sym (scanned_open (ops w b))))
        ∙ sym (words_append c.closed (closing b 0 c.open'))

-- ---- all blocks

module _ (w : List ℕ) (good : WellFormed w) where
  pub local_pieces_lem : (v : ℕ) → v < 512 → pieces_of v (local_pieces w) ≡ intervals_answer w v
  local_pieces_lem v h =
      pieces_bind v (block_pieces w) (blocks_rpo w)
      ∙ bind_each (λ b. pieces_of v (block_pieces w b)) (λ b. interval_words (block_intervals w (exit_set w b) v b)) (blocks_rpo w) (λ b m. block_of w b v h (good.in_range.ops_range b (rpo_below w good refl b m)).0)
      ∙ sym (bind_bind (λ b. block_intervals w (exit_set w b) v b) (λ i. i.block ∷ i.from ∷ i.to ∷ []) (blocks_rpo w))

-- ---- every piece is for a local

closing_none : (b from to : ℕ) → to ≡ 0 → closing b from to ≡ []
closing_none b from to e = rw e

-- the ids for which something is closed
pub closed_below : (n b from : ℕ) (ends : ℕ → ℕ) (vs : List ℕ) → ((v : ℕ) → v ∈ vs → n ≤ v → ends v ≡ 0) → Below n (closed_pieces b from ends vs)
closed_below n b from ends vs h p m =
    let o = bind_out (λ v. interval_pieces v (closing b from (ends v))) vs m in
    let v = o.0 in
    ⊎_elim
    (λ (l : v < n). map_each (λ q. q.0 < n) (λ i. (v, i.block ∷ i.from ∷ i.to ∷ [])) (closing b from (ends v)) (λ i k. l) p o.2)
    (λ (l : n ≤ v). absurd (Memᴰ.not-nil (rw (closing_none b from (ends v) (h v o.1 l)) at o.2)))
    (split v n)

module _ {w : List ℕ} (good : WellFormed w) {b : ℕ} (l : b < blocks w) where
  pub never_open : (v : ℕ) (os : List ℕ) → locals w ≤ v → ((o : ℕ) → o ∈ os → o < operations w) → open_end w b v os ≡ 0
  unfolding open_end
  never_open v [] h k = rw (beyond (exit_set w b) v (omega (arith, exit_size w good b l)), above good v (end_reads w b) h (λ x. end_below good b x l))
  never_open v (o ∷ os) h k =
      let m = k o (Memᴰ.head refl) in
      rw (above good v (outs w o) h (λ x. good.in_range.written o x m), above good v (ins w o) h (λ x. good.in_range.read o x m)) (never_open v os h (λ p n. k p (Memᴰ.tail n)))

  after_below : (o p : ℕ) → p ∈ range (o + 1) (block_word w b 5) → p < operations w
  after_below o p m = omega (arith, mem_range p (o + 1) (block_word w b 5) m, good.in_range.ops_range b l)

  pub operation_below : (o : ℕ) → Below (locals w) (operation_pieces w b o)
  unfolding operation_pieces
  operation_below o = closed_below (locals w) b (o + 1) (λ v. closed_by (mem v (outs w o)) (open_end w b v (range (o + 1) (block_word w b 5)))) (upto 512) (λ v m h. go (mem v (outs w o)) (never_open v (range (o + 1) (block_word w b 5)) h (after_below o)))
    where
      go : {t : ℕ} (g : Bool) → t ≡ 0 → closed_by g t ≡ 0
      go true e = e
      go false e = refl

  pub start_below : Below (locals w) (start_pieces w b)
  unfolding start_pieces
  start_below = closed_below (locals w) b 0 (λ v. open_end w b v (ops w b)) (upto 512) (λ v m h. never_open v (ops w b) h (λ o. good.in_range.op b o l))

  block_below : Below (locals w) (block_pieces w b)
  block_below = below_append (locals w) (operations_pieces w b) (start_pieces w b) (below_bind (locals w) (operation_pieces w b) (reverse (ops w b)) (λ o m. operation_below o)) start_below

pub local_below : {w : List ℕ} → WellFormed w → Below (locals w) (local_pieces w)
local_below {w} good = below_bind (locals w) (block_pieces w) (blocks_rpo w) (λ b m. block_below good (rpo_below w good refl b m))

-- ---- there are numbers for the length of each answer

scan_few : (w : List ℕ) (b v : ℕ) (c : Scan) (os : List ℕ) → length (interval_words (foldr (scan_op w b v) c os).closed) ≤ length (interval_words c.closed) + 3 * length os
scan_few w b v c [] = omega arith
scan_few w b v c (o ∷ os) =
    let d : Scan = foldr (scan_op w b v) c os in
    let to : ℕ = closed_by (mem v (outs w o)) d.open' in
    let e = ap (λ (is : List Interval). length (interval_words is)) (scan_closed w b v o d) ∙ ap length (words_append d.closed (closing b (o + 1) to)) ∙ length-append (interval_words d.closed) (interval_words (closing b (o + 1) to)) in
    omega (arith, e, scan_few w b v c os, closing_few b (o + 1) to)

block_few : (w : List ℕ) (exit : Set) (v b : ℕ) → length (interval_words (block_intervals w exit v b)) ≤ 3 * length (ops w b) + 3
block_few w exit v b =
    let c : Scan = record { open' = end_open (has exit v || mem v (end_reads w b)); closed = [] } in
    let d : Scan = foldr (scan_op w b v) c (ops w b) in
    let e = ap length (words_append d.closed (closing b 0 d.open')) ∙ length-append (interval_words d.closed) (interval_words (closing b 0 d.open')) in
    omega (arith, e, scan_few w b v c (ops w b), closing_few b 0 d.open')

pub intervals_few : {w : List ℕ} → WellFormed w → (v : ℕ) → length (intervals_answer w v) ≤ 787200
intervals_few {w} good v =
    let e : intervals_answer w v ≡ bind (blocks_rpo w) (λ b. interval_words (block_intervals w (exit_set w b) v b)) = bind_bind (λ b. block_intervals w (exit_set w b) v b) (λ i. i.block ∷ i.from ∷ i.to ∷ []) (blocks_rpo w) in
    let f = bind_most (λ b. interval_words (block_intervals w (exit_set w b) v b)) 3075 (blocks_rpo w)
    (λ b m. omega (arith, block_few w (exit_set w b) v b, ops_few w good b (rpo_below w good refl b m))) in
    omega (arith, ap length e, f, blocks_most w good, good.sized.blocks_most)

-- ---- what the machine of all answers asks

pub intervals_small : {w : List ℕ} → WellFormed w → Small (locals w) (intervals_answer w)
intervals_small {w} good = record { ids = omega (arith, good.sized.locals_most); words = λ v l. omega (arith, intervals_few good v) }

pub intervals_are : {w : List ℕ} → WellFormed w → (v : ℕ) → v < locals w → pieces_of v (local_pieces w) ≡ intervals_answer w v
intervals_are {w} good v l = local_pieces_lem w good v (omega (arith, good.sized.locals_most))
