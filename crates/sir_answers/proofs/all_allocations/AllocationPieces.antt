-- The pieces of the sweep over blocks and operations, and the heads: those for an allocation are its record.
use mathlib.Core.Path.{◌≡◌, refl, sym, ap, ap₂, ◌∙◌, subst}
use mathlib.Core.Logic.{◌≢◌}
use mathlib.Core.Bool.{Bool, true, false, not, ◌&&◌, cond, and-false}
use mathlib.Core.List.Memᴰ
use mathlib.Core.List.{List, [], ◌∷◌, ◌++◌, foldr, reverse, append-nil, append_assoc}
use Prim.Native.Nat.{ℕ, zero, suc, ◌+◌, ◌-◌, ◌*◌, ◌≤◌, ◌<◌}
use native.Mathlib.Numerals.{add-one}
use native.Mathlib.Omega.{arith}
use lib.ListN.{length, replicate, length-append, length-replicate}
use lib.Dec.{eqb, ltb}
use borrow.Author.Tests.{ne_eqb, lt-ltb, le-ltb}
use Rattle.plank_core.specs.Lists.{count, upto, range, bind, keep, ◌∈◌}
use Rattle.plank_core.specs.laws.Lists.{refuted, and_true_left, mem_upto, keep_out, keep_most, reverse_out}
use Rattle.plank_core.specs.laws.Loops.{length_count, upto_suc, range_none, keep_append, bind_bind, reverse_snoc, reverse_range}
use Rattle.sir_data.specs.Records.{blocks, locals, block_word, ops}
use Rattle.sir_data.specs.inner.WellFormed.{WellFormed}
use Rattle.sir_analyses.specs.Order.{is_visited}
use Rattle.sir_analyses.specs.Liveness.{Set, has, members, Interval, intervals, Scan, end_open, closing}
use Rattle.sir_analyses.specs.Allocation.{allocs, alloc_at, reach, marked, sort, merge, merged}
use Rattle.sir_analyses.specs.Flags.{flags_word}
use Rattle.sir_analyses.specs.Answers.{interval_words, allocation_answer}
use Rattle.sir_analyses.specs.inner.Sweep.{meet, nonempty, Sweep, sweep_end, sweep_op, sweep_block, sweep_from, note}
use Rattle.sir_answers.specs.inner.Scatter.{Pieces, pieces_of, Direction, backward, moved, number_at, Below, Fits, Scatters}
use Rattle.sir_analyses.specs.inner.Stages.{PointerStage}
use Rattle.sir_analyses.specs.inner.Discovery.{FlagsOf, Site, head_words}
use Rattle.sir_answers.specs.inner.IntervalPieces.{interval_pieces, closed_pieces}
use Rattle.sir_answers.specs.inner.AllocationPieces.{own_reach, swept_to, lives_at, swept_end, swept_by, swept_pieces, run_pieces, open_pieces, sweep_pieces, visited_pieces, head_of, head_pieces, record_pieces}
use Rattle.sir_answers.specs.laws.Scatter.{length_in_order, moved_none}
use Rattle.sir_analyses.proofs.SetLaws.{none_in}
use Rattle.plank_core.specs.laws.Folds.{bind_most, bind_each}
use Rattle.sir_answers.proofs.scatter.PieceLaws.{below_append, below_bind, back_append, back_bind, back_upto}
use Rattle.sir_analyses.proofs.claims.liveness.LivenessProof.{exit_size}
use Rattle.sir_analyses.proofs.claims.marks.Marks.{reach_length}
use Rattle.sir_analyses.proofs.claims.lifetimes.Scans.{live_in}
use Rattle.sir_analyses.proofs.local_intervals.Scanning.{closing_few}
use Rattle.sir_analyses.proofs.merged_intervals.SweepProof.{has_meet, nonempty_has, sweep_live, sweep_listed, sweep_merged}
use Rattle.sir_analyses.proofs.merged_intervals.MergedIntervals.{shut_words, note_words}
use Rattle.sir_analyses.proofs.allocation_answers.AllocationWords.{head_is, answer_long}
use Rattle.sir_analyses.proofs.allocation_liveness.PointerTables.{allocations_few}
use Rattle.sir_answers.proofs.scatter.AllAnswers.{Small, scatters_cursor}
use Rattle.sir_answers.proofs.all_intervals.IntervalPieces.{closed_below, intervals_own}
use Rattle.sir_analyses.proofs.Accepted.{ops_few}

-- ---- the pieces for one id, from the last to the first

-- of what is closed for all ids, that for v
closed_back : (v b from : ℕ) (ends : ℕ → ℕ) → v < 512 → pieces_of v (reverse (closed_pieces b from ends (upto 512))) ≡ interval_words (closing b from (ends v))
closed_back v b from ends h = back_upto v (λ u. interval_pieces u (closing b from (ends u))) (λ u. intervals_own v u (closing b from (ends u))) 512 h ∙ go (eqb (ends v) 0)
  where
    go : (t : Bool) → bind (reverse (interval_pieces v (cond t [] (record { block = b; from = from; to = ends v } ∷ [])))) (λ p. p.1) ≡ interval_words (cond t [] (record { block = b; from = from; to = ends v } ∷ []))
    go true = refl
    go false = refl

-- ---- a block

module _ (w : List ℕ) (b a : ℕ) (h : a < 512) where
  -- the intervals that the operations os close
  abbrev closed_to : List ℕ → List Interval
  closed_to os = (swept_to w b a os).spans.closed

  run_back : (n s : ℕ) → s + n ≡ block_word w b 5 → bind (count s n) (λ o. pieces_of a (reverse (swept_pieces w b o))) ≡ interval_words (closed_to (count s n))
  unfolding swept_to swept_pieces
  run_back zero s e = refl
  run_back (suc n) s e =
      let os : List ℕ = count (suc s) n in
      let m : block_word w b 5 - (s + 1) ≡ n = omega arith in
      let l : count (s + 1) (block_word w b 5 - (s + 1)) ≡ os = ap₂ count (add-one s) m in
      ap₂ (λ (xs ys : List ℕ). xs ++ ys)
      (closed_back a b (s + 1) (swept_by w b s (range (s + 1) (block_word w b 5))) h ∙ ap (λ (ps : List ℕ). interval_words (closing b (s + 1) (swept_by w b s ps a))) l)
      (run_back n (suc s) (omega arith))
      ∙ sym (note_words b s (lives_at w b a (s ∷ os)) (swept_to w b a os).spans)

  pub sweep_back : block_word w b 4 ≤ block_word w b 5 → pieces_of a (reverse (sweep_pieces w b)) ≡ interval_words (sweep_block w (own_reach w a) b [])
  unfolding swept_to open_pieces
  sweep_back l =
      back_append a (run_pieces w b) (open_pieces w b)
      ∙ ap₂ (λ (xs ys : List ℕ). xs ++ ys)
      (closed_back a b 0 (λ u. swept_end w b u (ops w b)) h)
      (back_bind a (swept_pieces w b) (ops w b) ∙ run_back (block_word w b 5 - block_word w b 4) (block_word w b 4) (omega arith))
      ∙ sym (shut_words b 0 (swept_to w b a (ops w b)).spans)

-- ---- with no locals nothing is open, and nothing is closed

module _ (w : List ℕ) (good : WellFormed w) (b : ℕ) (l : b < blocks w) where
  abbrev none : Set
  none = replicate (locals w) false

  -- the sweep with no locals
  abbrev idle : List ℕ → Sweep
  idle os = foldr (sweep_op w none b) (sweep_end w none b []) os

  never_live : (os : List ℕ) → nonempty (idle os).live ≡ false
  never_live os =
      ap nonempty (sweep_live w b none (length-replicate (locals w) false ∙ sym (exit_size w good b l)) os)
      ∙ refuted (nonempty (meet none (live_in w b os)))
      (λ t.
      let r = nonempty_has (meet none (live_in w b os)) t in
      let f : has none r.0 ≡ true = and_true_left (has none r.0) (has (live_in w b os) r.0) (sym (has_meet none (live_in w b os) r.0) ∙ r.1) in
      let z : ◌≡◌ {A = ℕ} 0 1 = cc (none_in (locals w) r.0) in
      omega arith)

  idle_open : (os : List ℕ) → (idle os).spans.open' ≡ 0
  idle_open [] = ap end_open (never_live [])
  idle_open (o ∷ os) = ap (λ (t : Bool). (note b o t (idle os).spans).open') (never_live (o ∷ os))

  idle_closed : (os : List ℕ) → (idle os).spans.closed ≡ []
  idle_closed [] = refl
  idle_closed (o ∷ os) = ap (λ (t : Bool). (note b o t (idle os).spans).closed) (never_live (o ∷ os)) ∙ ap₂ (λ (t : ℕ) (is : List Interval). closing b (suc o) t ++ is) (idle_open os) (idle_closed os)

  idle_block : sweep_block w none b [] ≡ []
  idle_block = ap₂ (λ (t : ℕ) (is : List Interval). closing b 0 t ++ is) (idle_open (ops w b)) (idle_closed (ops w b))

-- ---- the reach by which an allocation lives

pub own_unmarked : (w : List ℕ) (a : ℕ) → a < length (allocs w) → marked w a ≡ false → own_reach w a ≡ reach w (alloc_at w a)
unfolding own_reach
own_unmarked w a l u = rw (lt-ltb a (length (allocs w)) l, u)

pub own_marked : (w : List ℕ) (a : ℕ) → marked w a ≡ true → own_reach w a ≡ replicate (locals w) false
unfolding own_reach
own_marked w a m = rw (m, and-false)

pub own_unknown : (w : List ℕ) (a : ℕ) → length (allocs w) ≤ a → own_reach w a ≡ replicate (locals w) false
unfolding own_reach
own_unknown w a l = rw (le-ltb a (length (allocs w)) l)

pub own_length : (w : List ℕ) → WellFormed w → (a : ℕ) → length (own_reach w a) ≡ locals w
unfolding own_reach
own_length w good a = go (ltb a (length (allocs w)) && not (marked w a))
  where
    go : (t : Bool) → length (cond t (reach w (alloc_at w a)) (replicate (locals w) false)) ≡ locals w
    go true = reach_length w good a
    go false = length-replicate (locals w) false

module _ (w : List ℕ) (good : WellFormed w) where
  -- the visited blocks in their order
  abbrev visited_blocks : List ℕ
  visited_blocks = keep (is_visited w) (upto (blocks w))

  visited_below : (b : ℕ) → b ∈ visited_blocks → b < blocks w
  visited_below b m = mem_upto b (blocks w) (keep_out (is_visited w) (upto (blocks w)) m).0

  sweeps_merged : (a : ℕ) → a < length (allocs w) → sweep_from w (own_reach w a) (upto (blocks w)) ≡ merged w a
  sweeps_merged a l = go (marked w a) refl
    where
      idle_all : (bs : List ℕ) → ((b : ℕ) → b ∈ bs → b < blocks w) → bind bs (λ b. sweep_block w (replicate (locals w) false) b []) ≡ []
      idle_all [] h = refl
      idle_all (b ∷ bs) h = ap₂ (λ (xs ys : List Interval). xs ++ ys) (idle_block w good b (h b (Memᴰ.head refl))) (idle_all bs (λ x m. h x (Memᴰ.tail m)))

      go : (m : Bool) → marked w a ≡ m → sweep_from w (own_reach w a) (upto (blocks w)) ≡ merged w a
      go true e = ap (λ (r : Set). sweep_from w r (upto (blocks w))) (own_marked w a e) ∙ sweep_listed w (replicate (locals w) false) 0 (blocks w) ∙ idle_all visited_blocks visited_below ∙ sym (ap (λ (m : Bool). cond m [] (merge (sort (bind (members (reach w (alloc_at w a))) (intervals w))))) e)
      go false e = ap (λ (r : Set). sweep_from w r (upto (blocks w))) (own_unmarked w a l e) ∙ sweep_merged w good a e

  -- the words of a record's intervals, block by block
  merged_words : (a : ℕ) → a < length (allocs w) → interval_words (merged w a) ≡ bind visited_blocks (λ b. interval_words (sweep_block w (own_reach w a) b []))
  merged_words a l =
      ap interval_words (sym (sweeps_merged a l) ∙ sweep_listed w (own_reach w a) 0 (blocks w))
      ∙ bind_bind (λ b. sweep_block w (own_reach w a) b []) (λ i. i.block ∷ i.from ∷ i.to ∷ []) visited_blocks

  heads_back : (a : ℕ) → a < length (allocs w) → pieces_of a (reverse (head_pieces w)) ≡ head_of w a
  heads_back a l = back_upto a (λ u. (u, head_of w u) ∷ []) (λ u. refl) (length (allocs w)) l ∙ append-nil (head_of w a)

  visited_back : (a : ℕ) → a < length (allocs w) → a < 512 → pieces_of a (reverse (visited_pieces w)) ≡ interval_words (merged w a)
  visited_back a l h =
      back_bind a (sweep_pieces w) visited_blocks
      ∙ bind_each (λ b. pieces_of a (reverse (sweep_pieces w b))) (λ b. interval_words (sweep_block w (own_reach w a) b [])) visited_blocks (λ b m. sweep_back w b a h (good.in_range.ops_range b (visited_below b m)).0)
      ∙ sym (merged_words a l)

  -- the record of allocation a
  pub record_pieces_lem : (a : ℕ) → a < length (allocs w) → a < 512 → FlagsOf w a (flags_word w a) → pieces_of a (reverse (record_pieces w)) ≡ allocation_answer w a
  record_pieces_lem a l h f =
      back_append a (visited_pieces w) (head_pieces w)
      ∙ ap₂ (λ (xs ys : List ℕ). xs ++ ys) (heads_back a l) (visited_back a l h)
      ∙ head_is w good (record { known = l; block_is = refl; op_is = refl }) f refl

  -- ---- every piece is for an allocation

  unknown_open : (b a : ℕ) (os : List ℕ) → b < blocks w → length (allocs w) ≤ a → swept_end w b a os ≡ 0
  unfolding swept_to
  unknown_open b a os l h = ap (λ (r : Set). (foldr (sweep_op w r b) (sweep_end w r b []) os).spans.open') (own_unknown w a h) ∙ idle_open w good b l os

  pub swept_below : (b o : ℕ) → b < blocks w → Below (length (allocs w)) (swept_pieces w b o)
  unfolding swept_pieces
  swept_below b o l =
      let os : List ℕ = range (o + 1) (block_word w b 5) in
      closed_below (length (allocs w)) b (o + 1) (swept_by w b o os) (upto 512) (λ a m h. go a (lives_at w b a (o ∷ os)) (unknown_open b a os l h))
    where
      go : (a : ℕ) {t : ℕ} (x : Bool) → t ≡ 0 → cond x 0 t ≡ 0
      go a true e = refl
      go a false e = e

  pub open_below : (b : ℕ) → b < blocks w → Below (length (allocs w)) (open_pieces w b)
  unfolding open_pieces
  open_below b l = closed_below (length (allocs w)) b 0 (λ a. swept_end w b a (ops w b)) (upto 512) (λ a m h. unknown_open b a (ops w b) l h)

  pub records_below : Below (length (allocs w)) (record_pieces w)
  records_below =
      let n : ℕ = length (allocs w) in
      below_append n (visited_pieces w) (head_pieces w)
      (below_bind n (sweep_pieces w) (reverse visited_blocks) (λ b m.
      let l = visited_below b (reverse_out visited_blocks m) in
      below_append n (run_pieces w b) (open_pieces w b) (below_bind n (swept_pieces w b) (reverse (ops w b)) (λ o k. swept_below b o l)) (open_below b l)))
      (below_bind n (λ a. (a, head_of w a) ∷ []) (upto n) (λ a m p k. rw (Memᴰ.eq_of_singleton k) (mem_upto a n m)))

  -- ---- there are numbers for the length of each record

  closed_few : (b a : ℕ) (os : List ℕ) → length (interval_words (swept_to w b a os).spans.closed) ≤ 3 * length os
  unfolding swept_to
  closed_few b a [] = omega arith
  closed_few b a (o ∷ os) =
      let c : Scan = (swept_to w b a os).spans in
      let t : Bool = lives_at w b a (o ∷ os) in
      let e = ap length (note_words b o t c) ∙ length-append (interval_words (closing b (o + 1) (cond t 0 c.open'))) (interval_words c.closed) in
      omega (arith, e, closing_few b (o + 1) (cond t 0 c.open'), closed_few b a os)

  block_few : (b a : ℕ) → b < blocks w → length (interval_words (sweep_block w (own_reach w a) b [])) ≤ 3075
  unfolding swept_to
  block_few b a l =
      let c : Scan = (swept_to w b a (ops w b)).spans in
      let e = ap length (shut_words b 0 c) ∙ length-append (interval_words (closing b 0 c.open')) (interval_words c.closed) in
      omega (arith, e, closing_few b 0 c.open', closed_few b a (ops w b), ops_few w good b l)

  pub merged_few : (a : ℕ) → a < length (allocs w) → length (interval_words (merged w a)) ≤ 787200
  merged_few a l =
      omega (
        arith,
        ap length (merged_words a l),
        bind_most (λ b. interval_words (sweep_block w (own_reach w a) b [])) 3075 visited_blocks (λ b m. block_few b a (visited_below b m)),
        keep_most (is_visited w) (upto (blocks w)),
        length_count 0 (blocks w),
        good.sized.blocks_most,
      )

-- ---- the operations of a block, one after the other

module _ (w : List ℕ) (b : ℕ) where
  -- the pieces of the operations before o, then those of the start
  abbrev pub swept_left : ℕ → ℕ → Pieces
  swept_left s o = bind (reverse (range s o)) (swept_pieces w b) ++ open_pieces w b

  pub swept_next : (s o : ℕ) → s < o → swept_left s o ≡ swept_pieces w b (o - 1) ++ swept_left s (o - 1)
  swept_next s o h = ap (λ (l : List ℕ). bind l (swept_pieces w b) ++ open_pieces w b) (reverse_range s o h) ∙ append_assoc (swept_pieces w b (o - 1)) (bind (reverse (range s (o - 1))) (swept_pieces w b)) (open_pieces w b)

  pub swept_last : (s o : ℕ) → o ≤ s → swept_left s o ≡ open_pieces w b ++ []
  swept_last s o h = ap (λ (l : List ℕ). bind (reverse l) (swept_pieces w b) ++ open_pieces w b) (range_none s o h) ∙ sym (append-nil (open_pieces w b))

-- ---- the visited blocks, from the last to the first

module _ (w : List ℕ) where
  -- the pieces of those below b
  abbrev pub visited_to : ℕ → Pieces
  visited_to b = bind (reverse (keep (is_visited w) (upto b))) (sweep_pieces w)

  visited_last : (b : ℕ) → 0 < b → keep (is_visited w) (upto b) ≡ keep (is_visited w) (upto (b - 1)) ++ cond (is_visited w (b - 1)) ((b - 1) ∷ []) []
  visited_last b h =
      let e : b ≡ suc (b - 1) = omega arith in
      ap (λ (k : ℕ). keep (is_visited w) (upto k)) e ∙ ap (keep (is_visited w)) (upto_suc (b - 1)) ∙ keep_append (is_visited w) (upto (b - 1)) ((b - 1) ∷ [])

  pub visited_next : (b : ℕ) → 0 < b → is_visited w (b - 1) ≡ true → visited_to b ≡ sweep_pieces w (b - 1) ++ visited_to (b - 1)
  visited_next b h t =
      ap (λ (l : List ℕ). bind (reverse l) (sweep_pieces w)) (visited_last b h ∙ ap (λ (x : Bool). keep (is_visited w) (upto (b - 1)) ++ cond x ((b - 1) ∷ []) []) t)
      ∙ ap (λ (l : List ℕ). bind l (sweep_pieces w)) (reverse_snoc (keep (is_visited w) (upto (b - 1))) (b - 1))

  pub visited_skip : (b : ℕ) → 0 < b → is_visited w (b - 1) ≡ false → visited_to b ≡ visited_to (b - 1)
  visited_skip b h t =
      ap (λ (l : List ℕ). bind (reverse l) (sweep_pieces w)) (visited_last b h ∙ ap (λ (x : Bool). keep (is_visited w) (upto (b - 1)) ++ cond x ((b - 1) ∷ []) []) t ∙ append-nil (keep (is_visited w) (upto (b - 1))))

-- ---- the heads

pub head_same : {w : List ℕ} {a b o f n : ℕ} → Site w a b o → f ≡ flags_word w a → n ≡ length (merged w a) → head_words w b o f n ≡ head_of w a
head_same {w} {a} {b} {o} {f} {n} x m e =
    ap (λ (k : ℕ). head_words w k o f n) x.block_is
    ∙ ap (λ (k : ℕ). head_words w (alloc_at w a).block k f n) x.op_is
    ∙ ap₂ (head_words w (alloc_at w a).block (alloc_at w a).op) m e

-- a piece leaves the cursors of other ids
pub other_cursor : {d : Direction} {a : ℕ} {xs cursors out cursors' out' : List ℕ} (u : ℕ) → a ≢ u → u < length cursors → Scatters d ((a, xs) ∷ []) cursors out cursors' out' → number_at cursors' u ≡ number_at cursors u
other_cursor {d} {a} {xs} {cursors} u n h s =
    scatters_cursor u h s
    ∙ ap (λ (t : Bool). moved d (number_at cursors u) (length (cond t xs [] ++ []))) (ne_eqb a u n)
    ∙ moved_none d (number_at cursors u)

-- ---- what the machine of all answers asks

module _ {w pointers : List ℕ} (stage : PointerStage w pointers) where
  pub records_are : (a : ℕ) → a < length (allocs w) → pieces_of a (reverse (record_pieces w)) ≡ allocation_answer w a
  records_are a l = let f = stage.discovered.flags_are a l in record_pieces_lem w stage.well_formed a l (omega (arith, allocations_few stage)) (subst (FlagsOf w a) f.word f)

  pub records_small : Small (length (allocs w)) (allocation_answer w)
  records_small = record { ids = omega (arith, allocations_few stage); words = λ a l. omega (arith, answer_long w stage.well_formed (record { known = l; block_is = refl; op_is = refl }), merged_few w stage.well_formed a l) }

  pub records_counted : (a : ℕ) → a < length (allocs w) → length (pieces_of a (record_pieces w)) ≡ length (allocation_answer w a)
  records_counted a l = sym (length_in_order backward a (record_pieces w)) ∙ ap length (records_are a l)

  -- the cursors from before the intervals
  pub tops_are : {cursors out cursors' out' : List ℕ} (a : ℕ) → length cursors ≡ length (allocs w) → Fits backward (visited_pieces w) cursors → Scatters backward (visited_pieces w) cursors out cursors' out' → a < length cursors
      → number_at cursors a ≡ number_at cursors' a + length (interval_words (merged w a))
  tops_are a wide f s h =
      let e : length (pieces_of a (visited_pieces w)) ≡ length (interval_words (merged w a)) = sym (length_in_order backward a (visited_pieces w)) ∙ ap length (visited_back w stage.well_formed a (omega arith) (omega (arith, allocations_few stage))) in
      omega (arith, scatters_cursor a h s, e, f.inside a h)
