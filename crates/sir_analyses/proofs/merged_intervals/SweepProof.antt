-- The sweep gives the merged intervals.
use mathlib.Core.Path.{◌≡◌, refl, sym, ◌∙◌, ap}
use mathlib.Core.Logic.{◌↔◌, ◌⊎◌, inl, inr}
use mathlib.Core.Bool.{Bool, true, false, not, ◌&&◌, ◌||◌, cond, and_assoc, and-or_distrib_left, and-false}
use Prim.Native.Nat.{ℕ, zero, suc, ◌+◌, ◌-◌, ◌≤◌, ◌<◌}
use native.Mathlib.Omega.{arith}
use mathlib.Core.List.Memᴰ
use mathlib.Core.List.{List, [], ◌∷◌, ◌++◌, foldr, Memᴰ}
use lib.ListN.{length}
use lib.Seq.{ext_get_or}
use lib.Dec.{eqb}
use borrow.Author.Tests.{eqb-false, ne_eqb, not-true}
use Rattle.plank_core.specs.Lists.{bind, keep, mem, count, upto, ◌∈◌}
use Rattle.plank_core.specs.laws.Lists.{and_true_left, and_true_right, both_true, none, keep_mem, keep_out, bind_mem, bind_out, mem_keep, upto_mem}
use Rattle.sir_data.specs.Records.{blocks, ops, ins, outs, block_word}
use Rattle.sir_data.specs.inner.WellFormed.{WellFormed}
use Rattle.sir_analyses.specs.Order.{blocks_rpo, is_visited}
use Rattle.sir_analyses.specs.Liveness.{Set, has, add_all, remove_all, members, end_reads, exit_set, block_end, Interval, Scan, close, block_intervals, intervals}
use Rattle.sir_analyses.specs.Allocation.{alloc_at, reach, marked, merged}
use Rattle.sir_analyses.proofs.SetLaws.{has_less, members_in, members_out, has_add_all, has_remove_all, length_add_all, length_remove_all}
use Rattle.sir_analyses.proofs.claims.order.OrderProof.{blocks_seen, blocks_below}
use Rattle.sir_analyses.proofs.claims.liveness.GenKill.{length_through}
use Rattle.sir_analyses.proofs.claims.liveness.LivenessProof.{exit_size}
use Rattle.sir_analyses.proofs.claims.marks.Marks.{reach_length}
use Rattle.sir_analyses.proofs.claims.lifetimes.Merging.{Spans, nothing_spans, Normal, Apart, spans_in, put}
use Rattle.sir_analyses.proofs.claims.lifetimes.Scans.{piece, scan, live_in}
use Rattle.sir_analyses.proofs.claims.lifetimes.Lifetime.{pieces, merged_unique}
use Rattle.sir_analyses.specs.inner.Sweep.{meet, nonempty, live_at_end, live_before, shut, note, Sweep, sweep_end, sweep_op, sweep_block, sweep_from, sweep}
use Rattle.sir_analyses.proofs.merged_intervals.SweepSteps.{Ahead, end_ahead, Covers, inside, onwards, Step, Cell, step_ahead, step_out, step_old, step_new, start_out, start_old, start_new, close_covers, shut_covers, scan_step, note_step, note_open}

-- ---- the sets

pub has_meet : (r s : Set) (v : ℕ) → has (meet r s) v ≡ (has r v && has s v)
has_meet [] s v = refl
has_meet (x ∷ r) [] v = sym (and-false (has (x ∷ r) v))
has_meet (x ∷ r) (y ∷ s) zero = refl
has_meet (x ∷ r) (y ∷ s) (suc v) = has_meet r s v

pub length_meet : (r s : Set) → length r ≡ length s → length (meet r s) ≡ length r
length_meet [] s e = refl
length_meet (x ∷ r) [] e = absurd (omega arith)
length_meet (x ∷ r) (y ∷ s) e = ap suc (length_meet r s (omega arith))

-- the cut of the live set is had by the same operations on the cut
pub meet_add : (r s : Set) (vs : List ℕ) → length r ≡ length s → meet r (add_all s vs) ≡ add_all (meet r s) (keep (has r) vs)
meet_add r s vs e = ext_get_or false (meet r (add_all s vs)) (add_all (meet r s) (keep (has r) vs))
    (length_meet r (add_all s vs) (e ∙ sym (length_add_all s vs)) ∙ sym (length_add_all (meet r s) (keep (has r) vs) ∙ length_meet r s e))
    (λ v h. each v (omega (arith, length_meet r (add_all s vs) (e ∙ sym (length_add_all s vs)))))
  where
    each : (v : ℕ) → v < length r → has (meet r (add_all s vs)) v ≡ has (add_all (meet r s) (keep (has r) vs)) v
    each v h =
        let l : v < length (meet r s) = omega (arith, length_meet r s e) in
        rw (has_meet, has_add_all s vs v (omega arith), has_add_all (meet r s) (keep (has r) vs) v l, has_meet, mem_keep) (and-or_distrib_left (has r v) (has s v) (mem v vs))

pub meet_remove : (r s : Set) (vs : List ℕ) → length r ≡ length s → meet r (remove_all s vs) ≡ remove_all (meet r s) vs
meet_remove r s vs e = ext_get_or false (meet r (remove_all s vs)) (remove_all (meet r s) vs)
    (length_meet r (remove_all s vs) (e ∙ sym (length_remove_all s vs)) ∙ sym (length_remove_all (meet r s) vs ∙ length_meet r s e))
    (λ v h. each v (omega (arith, length_meet r (remove_all s vs) (e ∙ sym (length_remove_all s vs)))))
  where
    each : (v : ℕ) → v < length r → has (meet r (remove_all s vs)) v ≡ has (remove_all (meet r s) vs) v
    each v h =
        let l : v < length (meet r s) = omega (arith, length_meet r s e) in
        rw (has_meet, has_remove_all s vs v (omega arith), has_remove_all (meet r s) vs v l, has_meet) (sym (and_assoc (has r v) (has s v) (not (mem v vs))))

pub nonempty_has : (s : Set) → nonempty s ≡ true → (v : ℕ) × (has s v ≡ true)
nonempty_has [] t = none false t refl
nonempty_has (true ∷ s) t = (0, refl)
nonempty_has (false ∷ s) t = let r = nonempty_has s t in (suc r.0, r.1)

pub has_nonempty : (s : Set) (v : ℕ) → has s v ≡ true → nonempty s ≡ true
has_nonempty [] v t = none false t refl
has_nonempty (true ∷ s) v t = refl
has_nonempty (false ∷ s) zero t = none false t refl
has_nonempty (false ∷ s) (suc v) t = has_nonempty s v t

ended : (t : Bool) → not (eqb (cond t block_end 0) 0) ≡ t
ended true = refl
ended false = refl

not_zero : (n : ℕ) → ¬ (n ≡ 0) → not (eqb n 0) ≡ true
not_zero n h = ap not (ne_eqb n 0 h)

-- ---- a block

module _ (w : List ℕ) (b : ℕ) where
  abbrev live : List ℕ → Set
  live os = live_in w b os

  abbrev scanned : ℕ → List ℕ → Scan
  scanned v os = scan w b v os

  length_live : (os : List ℕ) → length (live os) ≡ length (exit_set w b)
  length_live os = length_through w (end_reads w b) os (exit_set w b)

  -- a local has an open end exactly where it is live
  pub scan_live : (v : ℕ) (os : List ℕ) → v < length (exit_set w b) → not (eqb (scanned v os).open' 0) ≡ has (live os) v
  scan_live v [] h = ended (has (exit_set w b) v || mem v (end_reads w b)) ∙ sym (has_add_all (exit_set w b) (end_reads w b) v h)
  scan_live v (o ∷ os) h =
      let l : v < length (live os) = rw (length_live os) h in
      let k : v < length (remove_all (live os) (outs w o)) = rw (length_remove_all (live os) (outs w o)) l in
      (scan_step b o (mem v (outs w o)) (mem v (ins w o)) (scanned v os)).1
      ∙ rw (scan_live v os h, has_add_all (remove_all (live os) (outs w o)) (ins w o) v k, has_remove_all (live os) (outs w o) v l)

  scan_steps : (v o : ℕ) (os : List ℕ) → Step b o (scanned v os) (scanned v (o ∷ os))
  scan_steps v o os = (scan_step b o (mem v (outs w o)) (mem v (ins w o)) (scanned v os)).0

  scan_ahead : (v k p : ℕ) → p + k ≤ block_end → Ahead p (scanned v (count p k))
  scan_ahead v zero p h = end_ahead p (has (exit_set w b) v || mem v (end_reads w b)) (omega arith)
  scan_ahead v (suc k) p h = step_ahead (scan_steps v p (count (suc p) k)) (scan_ahead v k (suc p) (omega arith))

  module _ (r : Set) (size : length r ≡ length (exit_set w b)) where
    abbrev state : List ℕ → Sweep
    state os = foldr (sweep_op w r b) (sweep_end w r b []) os

    -- the set of the sweep is the live set, cut down to r
    pub sweep_live : (os : List ℕ) → (state os).live ≡ meet r (live os)
    sweep_live [] = sym (meet_add r (exit_set w b) (end_reads w b) size)
    sweep_live (o ∷ os) =
        let l : length r ≡ length (live os) = size ∙ sym (length_live os) in
        ap (live_before w r o) (sweep_live os)
        ∙ sym (meet_add r (remove_all (live os) (outs w o)) (ins w o) (l ∙ sym (length_remove_all (live os) (outs w o))) ∙ ap (λ (s : Set). add_all s (keep (has r) (ins w o))) (meet_remove r (live os) (outs w o) l))

    sweep_steps : (o : ℕ) (os : List ℕ) → Step b o (state os).spans (state (o ∷ os)).spans
    sweep_steps o os = note_step b o (nonempty (live_before w r o (state os).live)) (state os).spans

    sweep_ahead : (k p : ℕ) → p + k ≤ block_end → Ahead p (state (count p k)).spans
    sweep_ahead zero p h = end_ahead p (nonempty (live_at_end w r b)) (omega arith)
    sweep_ahead (suc k) p h = step_ahead (sweep_steps p (count (suc p) k)) (sweep_ahead k (suc p) (omega arith))

    -- an interval is open exactly where the set is not empty
    pub sweep_open : (os : List ℕ) → not (eqb (state os).spans.open' 0) ≡ nonempty (state os).live
    sweep_open [] = ended (nonempty (live_at_end w r b))
    sweep_open (o ∷ os) = note_open b o (nonempty (live_before w r o (state os).live)) (state os).spans

    open_some : (os : List ℕ) → ¬ ((state os).spans.open' ≡ 0) → (v : ℕ) × (has r v ≡ true) × (¬ ((scanned v os).open' ≡ 0))
    open_some os h =
        let t : nonempty (meet r (live os)) ≡ true = ap nonempty (sym (sweep_live os)) ∙ sym (sweep_open os) ∙ not_zero (state os).spans.open' h in
        let x = nonempty_has (meet r (live os)) t in
        let y : (has r x.0 && has (live os) x.0) ≡ true = sym (has_meet r (live os) x.0) ∙ x.1 in
        let t : has r x.0 ≡ true = and_true_left (has r x.0) (has (live os) x.0) y in
        let l : x.0 < length (exit_set w b) = omega (arith, has_less r x.0 t, size) in
        (x.0, t, eqb-false (scanned x.0 os).open' 0 (not-true _ (scan_live x.0 os l ∙ and_true_right (has r x.0) (has (live os) x.0) y)))

    some_open : (os : List ℕ) (v : ℕ) → has r v ≡ true → ¬ ((scanned v os).open' ≡ 0) → ¬ ((state os).spans.open' ≡ 0)
    some_open os v t h =
        let l : v < length (exit_set w b) = omega (arith, has_less r v t, size) in
        let y : has (live os) v ≡ true = sym (scan_live v os l) ∙ not_zero (scanned v os).open' h in
        let x : has (meet r (live os)) v ≡ true = has_meet r (live os) v ∙ both_true (has r v) (has (live os) v) t y in
        eqb-false (state os).spans.open' 0 (not-true _ (sweep_open os ∙ ap nonempty (sweep_live os) ∙ has_nonempty (meet r (live os)) v x))

    module _ {d m n : ℕ} (le : n ≤ suc m) where
      end_out : (p : ℕ) → Covers b d m n p (state []).spans → (v : ℕ) × (has r v ≡ true) × Covers b d m n p (scanned v [])
      end_out p (inside s) = absurd (nothing_spans s)
      end_out p (onwards q h k l) = let x = open_some [] h in (x.0, x.1, onwards q x.2 k (go (nonempty (live_at_end w r b)) (has (exit_set w b) x.0 || mem x.0 (end_reads w b)) x.2 l))
        where
          go : (t u : Bool) → ¬ (cond u block_end 0 ≡ 0) → n ≤ cond t block_end 0 → n ≤ cond u block_end 0
          go true true h l = l
          go false true h l = omega arith
          go t false h l = absurd (h refl)

      end_in : (p v : ℕ) → has r v ≡ true → Covers b d m n p (scanned v []) → Covers b d m n p (state []).spans
      end_in p v t (inside s) = absurd (nothing_spans s)
      end_in p v t (onwards q h k l) = let x = some_open [] v t h in onwards q x k (go (nonempty (live_at_end w r b)) (has (exit_set w b) v || mem v (end_reads w b)) x l)
        where
          go : (t u : Bool) → ¬ (cond t block_end 0 ≡ 0) → n ≤ cond u block_end 0 → n ≤ cond t block_end 0
          go true true h l = l
          go true false h l = omega arith
          go false u h l = absurd (h refl)

      covers_out : (k p : ℕ) → p + k ≤ block_end → Covers b d m n p (state (count p k)).spans → (v : ℕ) × (has r v ≡ true) × Covers b d m n p (scanned v (count p k))
      covers_out zero p h c = end_out p c
      covers_out (suc k) p h c = go (covers_out k (suc p) (omega arith)) (step_out le (sweep_steps p (count (suc p) k)) c)
        where
          go : (Covers b d m n (suc p) (state (count (suc p) k)).spans → (v : ℕ) × (has r v ≡ true) × Covers b d m n (suc p) (scanned v (count (suc p) k)))
              → Covers b d m n (suc p) (state (count (suc p) k)).spans ⊎ (¬ ((state (count p (suc k))).spans.open' ≡ 0) × Cell b d m n p)
              → (v : ℕ) × (has r v ≡ true) × Covers b d m n p (scanned v (count p (suc k)))
          go f (inl x) = let y = f x in (y.0, y.1, step_old le (scan_steps y.0 p (count (suc p) k)) y.2)
          go f (inr x) = let y = open_some (count p (suc k)) x.0 in (y.0, y.1, step_new le (scan_steps y.0 p (count (suc p) k)) (scan_ahead y.0 k (suc p) (omega arith)) y.2 x.1)

      covers_in : (k p v : ℕ) → p + k ≤ block_end → has r v ≡ true → Covers b d m n p (scanned v (count p k)) → Covers b d m n p (state (count p k)).spans
      covers_in zero p v h t c = end_in p v t c
      covers_in (suc k) p v h t c = go (covers_in k (suc p) v (omega arith) t) (step_out le (scan_steps v p (count (suc p) k)) c)
        where
          go : (Covers b d m n (suc p) (scanned v (count (suc p) k)) → Covers b d m n (suc p) (state (count (suc p) k)).spans)
              → Covers b d m n (suc p) (scanned v (count (suc p) k)) ⊎ (¬ ((scanned v (count p (suc k))).open' ≡ 0) × Cell b d m n p)
              → Covers b d m n p (state (count p (suc k))).spans
          go f (inl x) = step_old le (sweep_steps p (count (suc p) k)) (f x)
          go f (inr x) = step_new le (sweep_steps p (count (suc p) k)) (sweep_ahead k (suc p) (omega arith)) (some_open (count p (suc k)) v t x.0) x.1

      -- the block's intervals cover what the intervals of all its locals of r cover
      block_out : (k p : ℕ) → p + k ≤ block_end → Spans d m n (shut b 0 (state (count p k)).spans).closed → (v : ℕ) × (has r v ≡ true) × Spans d m n (close b 0 (scanned v (count p k))).closed
      block_out k p h s = go (start_out {p = p} le ((shut_covers 0 (state (count p k)).spans).0 s))
        where
          go : Covers b d m n p (state (count p k)).spans ⊎ (¬ ((state (count p k)).spans.open' ≡ 0) × (b ≡ d) × (m < p)) → (v : ℕ) × (has r v ≡ true) × Spans d m n (close b 0 (scanned v (count p k))).closed
          go (inl x) = let y = covers_out k p h x in (y.0, y.1, (close_covers 0 (scanned y.0 (count p k))).1 (start_old le y.2))
          go (inr x) = let y = open_some (count p k) x.0 in (y.0, y.1, (close_covers 0 (scanned y.0 (count p k))).1 (start_new le (scan_ahead y.0 k p h) y.2 x.1 x.2))

      block_in : (k p v : ℕ) → p + k ≤ block_end → has r v ≡ true → Spans d m n (close b 0 (scanned v (count p k))).closed → Spans d m n (shut b 0 (state (count p k)).spans).closed
      block_in k p v h t s = (shut_covers 0 (state (count p k)).spans).1 (go (start_out {p = p} le ((close_covers 0 (scanned v (count p k))).0 s)))
        where
          go : Covers b d m n p (scanned v (count p k)) ⊎ (¬ ((scanned v (count p k)).open' ≡ 0) × (b ≡ d) × (m < p)) → Covers b d m n 0 (state (count p k)).spans
          go (inl x) = start_old le (covers_in k p v h t x)
          go (inr x) = start_new le (sweep_ahead k p h) (some_open (count p k) v t x.0) x.1 x.2

-- ---- the normal form

-- the closed intervals are in normal form, after p and after the open end
record Tidy (b p : ℕ) (c : Scan) : Type 0 where
  normal : Normal c.closed
  mine : (i : Interval) → Memᴰ i c.closed → (i.block ≡ b) × (p < i.from) × (c.open' < i.from)
  end : Ahead p c

note_tidy : {b o : ℕ} (t : Bool) (c : Scan) → Tidy b (suc o) c → Tidy b o (note b o t c)
note_tidy {b} {o} true c y = go (eqb c.open' 0) refl
  where
    go : (t : Bool) → eqb c.open' 0 ≡ t → Tidy b o (record { open' = cond t (suc o) c.open'; closed = c.closed })
    go true e = record { normal = y.normal; mine = λ i h. let k = y.mine i h in (k.0, omega arith, k.1); end = inr (omega arith) }
    go false e = record { normal = y.normal; mine = λ i h. let k = y.mine i h in (k.0, omega arith, k.2); end = later y.end }
      where
        later : Ahead (suc o) c → Ahead o c
        later (inl z) = inl z
        later (inr g) = inr (omega arith)
note_tidy {b} {o} false c y = go (eqb c.open' 0) refl
  where
    go : (t : Bool) → eqb c.open' 0 ≡ t → Tidy b o (record { open' = 0; closed = cond t [] (piece b (suc o) c.open' ∷ []) ++ c.closed })
    go true e = record { normal = y.normal; mine = λ i h. let k = y.mine i h in (k.0, omega arith, omega arith); end = inl refl }
    go false e = record { normal = put c.closed (proper y.end) (λ j h. let k = y.mine j h in Apart.gapped (sym k.0) k.2) y.normal; mine = ours; end = inl refl }
      where
        proper : Ahead (suc o) c → suc o ≤ c.open'
        proper (inl z) = absurd (eqb-false c.open' 0 e z)
        proper (inr g) = g

        ours : (i : Interval) → Memᴰ i (piece b (suc o) c.open' ∷ c.closed) → (i.block ≡ b) × (o < i.from) × (0 < i.from)
        ours i (Memᴰ.head q) = rw q (refl, omega arith, omega arith)
        ours i (Memᴰ.tail h) = let k = y.mine i h in (k.0, omega arith, omega arith)

-- the list is in normal form, and all of block b
record Own (b : ℕ) (is : List Interval) : Type 0 where
  normal : Normal is
  mine : (i : Interval) → Memᴰ i is → i.block ≡ b

shut_own : {b p : ℕ} (c : Scan) → Tidy b p c → Own b (shut b 0 c).closed
shut_own {b} {p} c y = go (eqb c.open' 0)
  where
    ours : (i : Interval) → Memᴰ i (piece b 0 c.open' ∷ c.closed) → i.block ≡ b
    ours i (Memᴰ.head q) = ap (λ (j : Interval). j.block) q
    ours i (Memᴰ.tail h) = (y.mine i h).0

    go : (t : Bool) → Own b (cond t [] (piece b 0 c.open' ∷ []) ++ c.closed)
    go true = record { normal = y.normal; mine = λ i h. (y.mine i h).0 }
    go false = record { normal = put c.closed (omega arith) (λ j h. let k = y.mine j h in Apart.gapped (sym k.0) k.2) y.normal; mine = ours }

sweep_tidy : (w : List ℕ) (r : Set) (b k p : ℕ) → p + k ≤ block_end → Tidy b p (foldr (sweep_op w r b) (sweep_end w r b []) (count p k)).spans
sweep_tidy w r b zero p h = record { normal = Normal.empty; mine = λ i m. absurd (Memᴰ.not-nil m); end = end_ahead p (nonempty (live_at_end w r b)) (omega arith) }
sweep_tidy w r b (suc k) p h =
    let c = foldr (sweep_op w r b) (sweep_end w r b []) (count (suc p) k) in
    note_tidy (nonempty (live_before w r p c.live)) c.spans (sweep_tidy w r b k (suc p) (omega arith))

append_normal : {is js : List Interval} → Normal is → Normal js → ((i j : Interval) → Memᴰ i is → Memᴰ j js → Apart i j) → Normal (is ++ js)
append_normal Normal.empty nj f = nj
append_normal {js = js} (Normal.one {i = i} h) nj f = put js h (λ j m. f i j (Memᴰ.head refl) m) nj
append_normal (Normal.next h a n) nj f = Normal.next h a (append_normal n nj (λ i j m k. f i j (Memᴰ.tail m) k))

-- lists of blocks that ascend
blocks_normal : (f : ℕ → Bool) (g : ℕ → List Interval) → ((b : ℕ) → f b ≡ true → Own b (g b)) → (s n : ℕ) → Normal (bind (keep f (count s n)) g) × ((i : Interval) → Memᴰ i (bind (keep f (count s n)) g) → s ≤ i.block)
blocks_normal f g own s zero = (Normal.empty, λ i m. absurd (Memᴰ.not-nil m))
blocks_normal f g own s (suc n) = go (f s) refl (blocks_normal f g own (suc s) n)
  where
    go : (t : Bool) → f s ≡ t → Normal (bind (keep f (count (suc s) n)) g) × ((i : Interval) → Memᴰ i (bind (keep f (count (suc s) n)) g) → suc s ≤ i.block)
        → Normal (bind (cond t (s ∷ keep f (count (suc s) n)) (keep f (count (suc s) n))) g) × ((i : Interval) → Memᴰ i (bind (cond t (s ∷ keep f (count (suc s) n)) (keep f (count (suc s) n))) g) → s ≤ i.block)
    go true e x =
        let o = own s e in
        (append_normal o.normal x.0 (λ i j m k. Apart.farther (omega (arith, o.mine i m, x.1 j k))), λ i m. low i (Memᴰ.append_cases (g s) m))
      where
        low : (i : Interval) → Memᴰ i (g s) ⊎ Memᴰ i (bind (keep f (count (suc s) n)) g) → s ≤ i.block
        low i (inl m) = omega (arith, (own s e).mine i m)
        low i (inr m) = omega (arith, x.1 i m)
    go false e x = (x.0, λ i m. omega (arith, x.1 i m))

-- ---- blocks one after the other

abbrev onto : List Interval → Scan → Scan
onto is c = record { open' = c.open'; closed = c.closed ++ is }

shut_onto : (b f : ℕ) (is : List Interval) (c : Scan) → shut b f (onto is c) ≡ onto is (shut b f c)
shut_onto b f is c = go (eqb c.open' 0)
  where
    go : (t : Bool) → record { open' = 0; closed = cond t [] (piece b f c.open' ∷ []) ++ (c.closed ++ is) } ≡ onto is (record { open' = 0; closed = cond t [] (piece b f c.open' ∷ []) ++ c.closed })
    go true = refl
    go false = refl

note_onto : (b o : ℕ) (is : List Interval) (t : Bool) (c : Scan) → note b o t (onto is c) ≡ onto is (note b o t c)
note_onto b o is true c = refl
note_onto b o is false c = shut_onto b (suc o) is c

module _ (w : List ℕ) (r : Set) where
  state_onto : (b : ℕ) (is : List Interval) (os : List ℕ) → foldr (sweep_op w r b) (sweep_end w r b is) os ≡ record { live = (foldr (sweep_op w r b) (sweep_end w r b []) os).live; spans = onto is (foldr (sweep_op w r b) (sweep_end w r b []) os).spans }
  state_onto b is [] = refl
  state_onto b is (o ∷ os) =
      let c = foldr (sweep_op w r b) (sweep_end w r b []) os in
      let s = live_before w r o c.live in
      ap (sweep_op w r b o) (state_onto b is os) ∙ ap (λ (x : Scan). record { live = s; spans = x }) (note_onto b o is (nonempty s) c.spans)

  -- a block's intervals go in front of those that there are
  pub block_onto : (b : ℕ) (is : List Interval) → sweep_block w r b is ≡ sweep_block w r b [] ++ is
  block_onto b is =
      ap (λ (c : Sweep). (shut b 0 c.spans).closed) (state_onto b is (ops w b))
      ∙ ap (λ (c : Scan). c.closed) (shut_onto b 0 is (foldr (sweep_op w r b) (sweep_end w r b []) (ops w b)).spans)

  abbrev listed : List Interval
  listed = bind (keep (is_visited w) (upto (blocks w))) (λ b. sweep_block w r b [])

  pub sweep_listed : (s n : ℕ) → sweep_from w r (count s n) ≡ bind (keep (is_visited w) (count s n)) (λ b. sweep_block w r b [])
  sweep_listed s zero = refl
  sweep_listed s (suc n) = go (is_visited w s) (sweep_listed (suc s) n)
    where
      go : (t : Bool) → sweep_from w r (count (suc s) n) ≡ bind (keep (is_visited w) (count (suc s) n)) (λ b. sweep_block w r b [])
          → cond t (sweep_block w r s (sweep_from w r (count (suc s) n))) (sweep_from w r (count (suc s) n)) ≡ bind (cond t (s ∷ keep (is_visited w) (count (suc s) n)) (keep (is_visited w) (count (suc s) n))) (λ b. sweep_block w r b [])
      go true e = block_onto s (sweep_from w r (count (suc s) n)) ∙ ap (λ (is : List Interval). sweep_block w r s [] ++ is) e
      go false e = e

-- ---- the whole

spans_out : {d m n : ℕ} {is : List Interval} → Spans d m n is → (i : Interval) × Memᴰ i is × (i.block ≡ d) × (i.from ≤ m) × (n ≤ i.to)
spans_out (Spans.first {i = i} p q r) = (i, Memᴰ.head refl, p, q, r)
spans_out (Spans.rest s) = let x = spans_out s in (x.0, Memᴰ.tail x.1, x.2, x.3, x.4)

spans_bind_out : {d m n : ℕ} (f : ℕ → List Interval) (xs : List ℕ) → Spans d m n (bind xs f) → (x : ℕ) × (x ∈ xs) × Spans d m n (f x)
spans_bind_out f xs s =
    let i = spans_out s in
    let x = bind_out f xs i.1 in
    (x.0, x.1, spans_in x.2 i.2 i.3 i.4)

spans_bind_in : {d m n x : ℕ} (f : ℕ → List Interval) {xs : List ℕ} → x ∈ xs → Spans d m n (f x) → Spans d m n (bind xs f)
spans_bind_in f k s = let i = spans_out s in spans_in (bind_mem f k i.1) i.2 i.3 i.4

module _ (w : List ℕ) (good : WellFormed w) where
  inside_block : {b : ℕ} → b ∈ blocks_rpo w → block_word w b 4 + (block_word w b 5 - block_word w b 4) ≤ block_end
  inside_block {b} mb = let k = good.in_range.ops_range b (blocks_below w good b mb) in omega (arith, good.sized.operations_most)

  module _ (a : ℕ) where
    abbrev r : Set
    r = reach w (alloc_at w a)

    size : {b : ℕ} → b ∈ blocks_rpo w → length r ≡ length (exit_set w b)
    size {b} mb = reach_length w good a ∙ sym (exit_size w good b (blocks_below w good b mb))

    sweep_normal : Normal (listed w r)
    sweep_normal = (blocks_normal (is_visited w) (λ b. sweep_block w r b []) own 0 (blocks w)).0
      where
        own : (b : ℕ) → is_visited w b ≡ true → Own b (sweep_block w r b [])
        own b t =
            let mb = (blocks_seen w b).1 t in
            shut_own (foldr (sweep_op w r b) (sweep_end w r b []) (ops w b)).spans (sweep_tidy w r b (block_word w b 5 - block_word w b 4) (block_word w b 4) (inside_block mb))

    sweep_spans : {d m n : ℕ} → n ≤ suc m → Spans d m n (listed w r) ↔ Spans d m n (pieces w a)
    sweep_spans {d} {m} {n} le = (out, back_in)
      where
        out : Spans d m n (listed w r) → Spans d m n (pieces w a)
        out s =
            let x = spans_bind_out (λ (b : ℕ). sweep_block w r b []) (keep (is_visited w) (upto (blocks w))) s in
            let k = keep_out (is_visited w) (upto (blocks w)) x.1 in
            let mb = (blocks_seen w x.0).1 k.1 in
            let y = block_out w x.0 r (size mb) le (block_word w x.0 5 - block_word w x.0 4) (block_word w x.0 4) (inside_block mb) x.2 in
            spans_bind_in (intervals w) (members_in r y.0 y.1) (spans_bind_in (λ (b : ℕ). block_intervals w (exit_set w b) y.0 b) mb y.2)

        back_in : Spans d m n (pieces w a) → Spans d m n (listed w r)
        back_in s =
            let x = spans_bind_out (intervals w) (members r) s in
            let y = spans_bind_out (λ (b : ℕ). block_intervals w (exit_set w b) x.0 b) (blocks_rpo w) x.2 in
            let mb = y.1 in
            let z = block_in w y.0 r (size mb) le (block_word w y.0 5 - block_word w y.0 4) (block_word w y.0 4) x.0 (inside_block mb) (members_out r x.1) y.2 in
            spans_bind_in (λ (b : ℕ). sweep_block w r b []) (keep_mem (is_visited w) (upto_mem y.0 (blocks w) (blocks_below w good y.0 mb)) ((blocks_seen w y.0).0 mb)) z

    -- the sweep of an unmarked allocation is its merged intervals
    pub sweep_merged : marked w a ≡ false → sweep w a ≡ merged w a
    sweep_merged u =
        sweep_listed w r 0 (blocks w)
        ∙ merged_unique w good a (listed w r) u sweep_normal (λ b n. sweep_spans (omega arith)) (λ b n. sweep_spans (omega arith))
