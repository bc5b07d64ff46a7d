-- The source's `compute_liveness` ends by itself, with the exit sets of the passes and the entry sets of the equations.
use mathlib.Core.Path.{◌≡◌, refl, sym, ap, ◌∙◌, subst, fun_ext}
use mathlib.Core.Logic.{⊎_elim, ◌⊎◌, inl, inr}
use mathlib.Core.Bool.{Bool, true, false, not, ◌||◌, cond, or-false}
use Prim.Native.Nat.{ℕ, zero, suc, ◌+◌, ◌*◌, ◌≤◌, ◌<◌}
use native.Mathlib.Omega.{arith}
use mathlib.Core.List.Memᴰ
use mathlib.Core.List.{List, [], ◌∷◌, map, reverse}
use lib.ListN.{length, get_or, set, length-set, get_or-eq_default}
use lib.Seq.{get_or-set_same, set-get_or, set-set}
use lib.Dec.{eqb}
use borrow.Author.Tests.{eqb-true, eq-eqb}
use Rattle.plank_core.specs.Lists.{foldl, mem, ◌∈◌}
use Rattle.plank_core.specs.laws.Lists.{or_true_left, or_cases, bool_or, none, refuted, no_members, reverse_mem, reverse_out, get_d_any, mem_in, in_mem}
use Rattle.sir_data.specs.Records.{blocks, locals, inputs, outputs}
use Rattle.sir_data.specs.inner.WellFormed.{WellFormed}
use Rattle.sir_analyses.specs.Order.{functions_rpo, function_blocks, blocks_rpo, is_visited, predecessors}
use Rattle.sir_analyses.specs.Liveness.{Set, has, add_all, members, entry_from, index_of, renamed, row_of, back, pass, same_rows, settle, no_exits, exit_set, entry_set}
use Rattle.sir_analyses.specs.SourceUses.{source_predecessors}
use Rattle.sir_analyses.specs.SourceLiveness.{Live, insert_exit, propagated, propagate_live, live_block, live_pass, live_loop, source_live}
use Rattle.sir_analyses.proofs.claims.order.OrderProof.{blocks_seen, blocks_below}
use Rattle.sir_analyses.proofs.Positions.{index_none}
use Rattle.sir_analyses.proofs.SetLaws.{has_less, members_out, card}
use Rattle.sir_analyses.proofs.claims.liveness.RowLaws.{Shape, total, total_le, same_rows_lem, empty_row, empty_shape, rows_self}
use Rattle.sir_analyses.proofs.claims.liveness.FlowLaws.{row_split, row_same, row_other}
use Rattle.sir_analyses.proofs.claims.liveness.GenKill.{entry_length}
use Rattle.sir_analyses.proofs.local_liveness.Sending.{predecessor_below, edge_length, rename_below}
use Rattle.sir_analyses.proofs.claims.source.Tables.{source_predecessors_row}
use Rattle.plank_core.specs.laws.Folds.{fold_as, reverse_bind}

-- ---- a new member counts one more

card_insert : (s : Set) (v : ℕ) → v < length s → has s v ≡ false → card (set s v true) ≡ suc (card s)
unfolding card
card_insert [] v l h = absurd (omega arith)
card_insert (true ∷ s) zero l h = none true refl h
card_insert (false ∷ s) zero l h = refl
card_insert (true ∷ s) (suc v) l h = ap suc (card_insert s v (omega arith) h)
card_insert (false ∷ s) (suc v) l h = card_insert s v (omega arith) h

total_set : (e : List Set) (p : ℕ) (r : Set) → p < length e → total (set e p r) + card (row_of e p) ≡ total e + card r
unfolding total
total_set [] p r l = absurd (omega arith)
total_set (s ∷ e) zero r l = omega arith
total_set (s ∷ e) (suc p) r l = omega (arith, total_set e p r (omega arith))

-- ---- inserting

-- what some locals give the exit of p
pub inserts_exits : (p : ℕ) (g : ℕ → ℕ) (vs : List ℕ) (s : Live) → p < length s.exits
    → (foldl (λ u v. insert_exit p u (g v)) s vs).exits ≡ set s.exits p (add_all (row_of s.exits p) (map g vs))
inserts_exits p g [] s l = sym (set-get_or s.exits p [])
inserts_exits p g (v ∷ vs) s l =
    let x = s.exits in
    let r = set (row_of x p) (g v) true in
    inserts_exits p g vs (insert_exit p s (g v)) (subst (λ (n : ℕ). p < n) (sym (length-set x p r)) l)
    ∙ set-set x p r (add_all (row_of (set x p r) p) (map g vs)) ∙ ap (λ (y : Set). set x p (add_all y (map g vs))) (get_or-set_same x p r [] l)

-- `changed` tells whether the exits have more members than e
abbrev Told : List Set → Live → Type 0
Told e s = ((s.changed ≡ false) × (s.exits ≡ e)) ⊎ ((s.changed ≡ true) × (total e < total s.exits))

module _ (B L : ℕ) where
  -- from the exits e on, with nothing changed yet, it came to s
  record From (e : List Set) (s : Live) : Type 0 where
    shape : Shape B L s.exits
    told : Told e s

  row_long : {x : List Set} (p : ℕ) → Shape B L x → p < B → length (row_of x p) ≡ L
  row_long p h l = h.wide p (subst (λ (n : ℕ). p < n) (sym h.tall) l)

  insert_shape : (x : List Set) (p v : ℕ) → p < B → Shape B L x → Shape B L (set x p (set (row_of x p) v true))
  insert_shape x p v l h =
      let r = set (row_of x p) v true in
      let low : p < length x = subst (λ (n : ℕ). p < n) (sym h.tall) l in
      record {
        tall = length-set x p r ∙ h.tall;
        wide = λ q k.
            row_split {C = length (row_of (set x p r) q) ≡ L} p q
            (λ e. ap length (row_same x p q r low e) ∙ length-set (row_of x p) v true ∙ row_long p h l)
            (λ n. ap length (row_other x p q r n) ∙ h.wide q (subst (λ (m : ℕ). q < m) (length-set x p r) k));
      }

  insert_from : (e : List Set) (p v : ℕ) (s : Live) → p < B → v < L → From e s → From e (insert_exit p s v)
  insert_from e p v s l h f = record { shape = insert_shape s.exits p v l f.shape; told = go (has (row_of s.exits p) v) refl f.told }
    where
      x : List Set
      x = s.exits

      r : Set
      r = set (row_of x p) v true

      same : has (row_of x p) v ≡ true → set x p r ≡ x
      same t = ap (λ (b : Bool). set x p (set (row_of x p) v b)) (sym t) ∙ ap (set x p) (set-get_or (row_of x p) v false) ∙ set-get_or x p []

      more : has (row_of x p) v ≡ false → total x < total (set x p r)
      more t =
          let a = card_insert (row_of x p) v (subst (λ (n : ℕ). v < n) (sym (row_long p f.shape l)) h) t in
          let b = total_set x p r (subst (λ (n : ℕ). p < n) (sym f.shape.tall) l) in
          omega arith

      go : (b : Bool) → has (row_of x p) v ≡ b → Told e s → (((s.changed || not b) ≡ false) × (set x p r ≡ e)) ⊎ (((s.changed || not b) ≡ true) × (total e < total (set x p r)))
      go true t (inl q) = inl (or-false s.changed ∙ q.0, same t ∙ q.1)
      go true t (inr q) = inr (or-false s.changed ∙ q.0, subst (λ (y : List Set). total e < total y) (sym (same t)) q.1)
      go false t (inl q) = let m = more t in inr (ap (λ (c : Bool). c || true) q.0, omega (arith, ap total q.1))
      go false t (inr q) = let m = more t in inr (ap (λ (c : Bool). c || true) q.0, omega (arith, q.1))

  -- s became t
  record Sent (e : List Set) (s t : Live) : Type 0 where
    from : From e t
    entries_kept : t.entries ≡ s.entries
    stays : s.changed ≡ true → t.changed ≡ true

  sent_none : (e : List Set) (s : Live) → From e s → Sent e s s
  sent_none e s f = record { from = f; entries_kept = refl; stays = λ t. t }

  sent_then : (e : List Set) (s t u : Live) → Sent e s t → Sent e t u → Sent e s u
  sent_then e s t u a b = record { from = b.from; entries_kept = b.entries_kept ∙ a.entries_kept; stays = λ c. b.stays (a.stays c) }

  -- some locals to one predecessor
  inserts_sent : (e : List Set) (p : ℕ) (g : ℕ → ℕ) (vs : List ℕ) (s : Live) → p < B → ((v : ℕ) → v ∈ vs → g v < L) → From e s → Sent e s (foldl (λ u v. insert_exit p u (g v)) s vs)
  inserts_sent e p g [] s l h f = sent_none e s f
  inserts_sent e p g (v ∷ vs) s l h f =
      let t = insert_exit p s (g v) in
      let k = insert_from e p (g v) s l (h v (Memᴰ.head refl)) f in
      sent_then e s t (foldl (λ u v. insert_exit p u (g v)) t vs)
      (record { from = k; entries_kept = refl; stays = λ c. or_true_left s.changed (not (has (row_of s.exits p) (g v))) c })
      (inserts_sent e p g vs t l (λ u m. h u (Memᴰ.tail m)) k)

  -- to all predecessors
  module _ (e : List Set) (g : ℕ → ℕ → ℕ) (vs : List ℕ) where
    abbrev one : Live → ℕ → Live
    one t p = foldl (λ u v. insert_exit p u (g p v)) t vs

    all_sent : (ps : List ℕ) (s : Live) → ((p : ℕ) → p ∈ ps → p < B) → ((p v : ℕ) → p ∈ ps → v ∈ vs → g p v < L) → From e s → Sent e s (foldl one s ps)
    all_sent [] s l h f = sent_none e s f
    all_sent (p ∷ ps) s l h f =
        let k = inserts_sent e p (g p) vs s (l p (Memᴰ.head refl)) (λ v m. h p v (Memᴰ.head refl) m) f in
        sent_then e s (one s p) (foldl one (one s p) ps) k (all_sent ps (one s p) (λ q m. l q (Memᴰ.tail m)) (λ q v m. h q v (Memᴰ.tail m)) k.from)

    all_exits : (ps : List ℕ) (s : Live) → ((p : ℕ) → p ∈ ps → p < length s.exits)
        → (foldl one s ps).exits ≡ foldl (λ x p. set x p (add_all (row_of x p) (map (g p) vs))) s.exits ps
    all_exits [] s l = refl
    all_exits (p ∷ ps) s l =
        let x = s.exits in
        let k : (one s p).exits ≡ set x p (add_all (row_of x p) (map (g p) vs)) = inserts_exits p (g p) vs s (l p (Memᴰ.head refl)) in
        all_exits ps (one s p) (λ q m. subst (λ (n : ℕ). q < n) (sym (ap length k ∙ length-set x p (add_all (row_of x p) (map (g p) vs)))) (l q (Memᴰ.tail m)))
        ∙ ap (λ (y : List Set). foldl (λ x p. set x p (add_all (row_of x p) (map (g p) vs))) y ps) k

-- ---- names across an edge

index_less : (v : ℕ) (xs : List ℕ) → mem v xs ≡ true → index_of v xs < length xs
index_less v [] t = none false t refl
index_less v (x ∷ xs) t = go (eqb x v) refl (index_less v xs)
  where
    go : (s : Bool) → eqb x v ≡ s → (mem v xs ≡ true → index_of v xs < length xs) → cond s 0 (suc (index_of v xs)) < suc (length xs)
    go true e f = omega arith
    go false e f = let k = f (⊎_elim (λ (q : eqb v x ≡ true). none (eqb x v) (eq-eqb x v (sym (eqb-true v x q))) e) (λ q. q) (or_cases (eqb v x) (mem v xs) t)) in omega arith

propagated_is : {w : List ℕ} → WellFormed w → (p b : ℕ) → p ∈ predecessors w b → (v : ℕ) → propagated w p b v ≡ renamed w p b v
propagated_is {w} good p b m v = go (mem v (inputs w b)) refl
  where
    go : (t : Bool) → mem v (inputs w b) ≡ t → cond t (get_or (outputs w p) (index_of v (inputs w b)) 0) v ≡ renamed w p b v
    go true e = get_d_any (outputs w p) (index_of v (inputs w b)) 0 v (omega (arith, index_less v (inputs w b) e, edge_length good p b m))
    go false e =
        let i : index_of v (inputs w b) ≡ length (inputs w b) = index_none v (inputs w b) (λ k. none (mem v (inputs w b)) (in_mem v k) e) in
        sym (get_or-eq_default (outputs w p) v {n = index_of v (inputs w b)} (omega (arith, edge_length good p b m)))

-- ---- a block, a pass, all of them

module _ (w : List ℕ) (good : WellFormed w) where
  abbrev Right : List Set → Live → Type 0
  Right = From (blocks w) (locals w)

  -- block b is done: s became t
  record BlockDone (e : List Set) (b : ℕ) (s t : Live) : Type 0 where
    from : Right e t
    exits_are : t.exits ≡ back w s.exits b
    entries_are : t.entries ≡ set s.entries b (entry_from w b (row_of s.exits b))
    stays : s.changed ≡ true → t.changed ≡ true

  block_done : (e : List Set) (b : ℕ) (s : Live) → b ∈ blocks_rpo w → length s.entries ≡ blocks w → Right e s → BlockDone e b s (live_block w s b)
  block_done e b s m tall f = record {
    from = sent.from;
    exits_are =
        all_exits (blocks w) (locals w) e (λ p v. propagated w p b v) vs (source_predecessors w b) t (λ p k. subst (λ (n : ℕ). p < n) (sym f.shape.tall) (low p (there p k)))
        ∙ ap (foldl (λ x p. set x p (add_all (row_of x p) (map (propagated w p b) vs))) s.exits) same
        ∙ fold_as (λ x p. set x p (add_all (row_of x p) (map (propagated w p b) vs))) (λ x p. set x p (add_all (row_of x p) (map (renamed w p b) vs))) (predecessors w b)
        (λ x p k. ap (λ (g : ℕ → ℕ). set x p (add_all (row_of x p) (map g vs))) (fun_ext (propagated_is good p b k))) s.exits
        ∙ ap (λ (y : Set). foldl (λ x p. set x p (add_all (row_of x p) (map (renamed w p b) (members y)))) s.exits (predecessors w b)) row;
    entries_are = sent.entries_kept;
    stays = sent.stays;
  }
    where
      entry : Set
      entry = entry_from w b (row_of s.exits b)

      t : Live
      t = record { entries = set s.entries b entry; exits = s.exits; changed = s.changed }

      vs : List ℕ
      vs = members (row_of (set s.entries b entry) b)

      here : b < blocks w
      here = blocks_below w good b m

      row : row_of (set s.entries b entry) b ≡ entry
      row = get_or-set_same s.entries b entry [] (subst (λ (n : ℕ). b < n) (sym tall) here)

      same : source_predecessors w b ≡ predecessors w b
      same = source_predecessors_row w b here

      there : (p : ℕ) → p ∈ source_predecessors w b → p ∈ predecessors w b
      there p k = subst (λ (ps : List ℕ). p ∈ ps) same k

      low : (p : ℕ) → p ∈ predecessors w b → p < blocks w
      low p k = predecessor_below good p b k

      small : (p v : ℕ) → p ∈ source_predecessors w b → v ∈ vs → propagated w p b v < locals w
      small p v k n =
          let l : v < length entry = has_less entry v (ap (λ (y : Set). has y v) (sym row) ∙ members_out (row_of (set s.entries b entry) b) n) in
          let h : length entry ≡ locals w = entry_length w b (row_of s.exits b) ∙ row_long (blocks w) (locals w) b f.shape here in
          subst (λ (u : ℕ). u < locals w) (sym (propagated_is good p b (there p k) v)) (rename_below good p b (there p k) (locals w) v here (omega arith) (omega arith))

      sent : Sent (blocks w) (locals w) e t (propagate_live w b t)
      sent = all_sent (blocks w) (locals w) e (λ p v. propagated w p b v) vs (source_predecessors w b) t (λ p k. low p (there p k)) small (record { shape = f.shape; told = f.told })

  -- blocks bs are done: s became t
  record Done (e : List Set) (bs : List ℕ) (s t : Live) : Type 0 where
    from : Right e t
    exits_are : t.exits ≡ foldl (back w) s.exits bs
    tall : length t.entries ≡ blocks w
    stays : s.changed ≡ true → t.changed ≡ true
    -- where nothing changed, the entry sets are those of the exits
    entered : t.changed ≡ false → (b : ℕ) → b ∈ bs → row_of t.entries b ≡ entry_from w b (row_of e b)
    others : (b : ℕ) → ¬ (b ∈ bs) → row_of t.entries b ≡ row_of s.entries b

  unchanged_exits : {e : List Set} {s : Live} → Right e s → s.changed ≡ false → s.exits ≡ e
  unchanged_exits {e} {s} f c = ⊎_elim (λ (q : (s.changed ≡ false) × (s.exits ≡ e)). q.1) (λ (q : (s.changed ≡ true) × (total e < total s.exits)). none s.changed q.0 c) f.told

  blocks_done : (e : List Set) (bs : List ℕ) (s : Live) → ((b : ℕ) → b ∈ bs → b ∈ blocks_rpo w) → length s.entries ≡ blocks w → Right e s → Done e bs s (foldl (live_block w) s bs)
  blocks_done e [] s h tall f = record { from = f; exits_are = refl; tall = tall; stays = λ c. c; entered = λ c b m. absurd (Memᴰ.not-nil m); others = λ b n. refl }
  blocks_done e (b ∷ bs) s h tall f = go (block_done e b s mb tall f) (blocks_done e bs (live_block w s b) (λ c m. h c (Memᴰ.tail m)))
    where
      mb : b ∈ blocks_rpo w
      mb = h b (Memᴰ.head refl)

      entry : Set
      entry = entry_from w b (row_of s.exits b)

      t : Live
      t = foldl (live_block w) (live_block w s b) bs

      go : BlockDone e b s (live_block w s b) → (length (live_block w s b).entries ≡ blocks w → Right e (live_block w s b) → Done e bs (live_block w s b) t) → Done e (b ∷ bs) s t
      go d rest =
          let r = rest (ap length d.entries_are ∙ length-set s.entries b entry ∙ tall) d.from in
          record {
            from = r.from;
            exits_are = r.exits_are ∙ ap (λ (x : List Set). foldl (back w) x bs) d.exits_are;
            tall = r.tall;
            stays = λ c. r.stays (d.stays c);
            entered = λ c a m.
                ⊎_elim
                (λ (i : mem a bs ≡ true). r.entered c a (mem_in a bs i))
                (λ (i : mem a bs ≡ false).
                let n : ¬ (a ∈ bs) = λ k. none (mem a bs) (in_mem a k) i in
                let q : a ≡ b = ⊎_elim (λ (q : a ≡ b). q) (λ (k : a ∈ bs). absurd (n k)) (Memᴰ.cases_cons m) in
                let u : s.exits ≡ e = unchanged_exits f (refuted s.changed (λ z. none t.changed (r.stays (d.stays z)) c)) in
                r.others a n ∙ ap (λ (x : List Set). row_of x a) d.entries_are
                ∙ row_same s.entries b a entry (subst (λ (k : ℕ). b < k) (sym tall) (blocks_below w good b mb)) q
                ∙ ap (λ (x : List Set). entry_from w b (row_of x b)) u ∙ ap (λ (k : ℕ). entry_from w k (row_of e k)) (sym q))
                (bool_or (mem a bs));
            others = λ a n.
                r.others a (λ k. n (Memᴰ.tail k)) ∙ ap (λ (x : List Set). row_of x a) d.entries_are
                ∙ row_other s.entries b a entry (λ q. n (Memᴰ.head q));
          }

  -- a pass begins with nothing changed
  abbrev begun : Live → Live
  begun s = record { entries = s.entries; exits = s.exits; changed = false }

  pass_done : (s : Live) → length s.entries ≡ blocks w → Shape (blocks w) (locals w) s.exits
      → Done s.exits (reverse (blocks_rpo w)) (begun s) (live_pass w s)
  pass_done s tall h =
      subst (λ (bs : List ℕ). Done s.exits (reverse (blocks_rpo w)) (begun s) (foldl (live_block w) (begun s) bs))
      (reverse_bind (function_blocks w) (functions_rpo w))
      (blocks_done s.exits (reverse (blocks_rpo w)) (begun s) (λ b m. reverse_out (blocks_rpo w) m) tall
      (record { shape = h; told = inl (refl, refl) }))

  -- how the `while` ends, from the exits that the passes have come to
  record Settles (n k : ℕ) (e : List Set) (t : Live) : Type 0 where
    ended : t.changed ≡ false
    exits_are : t.exits ≡ (settle n w k e).1
    entered : (b : ℕ) → b ∈ blocks_rpo w → row_of t.entries b ≡ entry_from w b (row_of t.exits b)
    others : (b : ℕ) → ¬ (b ∈ blocks_rpo w) → row_of t.entries b ≡ row_of (no_exits w) b

  loop_still : (n : ℕ) (s : Live) → s.changed ≡ false → live_loop n w s ≡ s
  loop_still zero s c = refl
  loop_still (suc n) s c = ap (λ (b : Bool). cond b (live_loop n w (live_pass w s)) s) c

  loop_again : (n : ℕ) (s : Live) → s.changed ≡ true → live_loop (suc n) w s ≡ live_loop n w (live_pass w s)
  loop_again n s c = ap (λ (b : Bool). cond b (live_loop n w (live_pass w s)) s) c

  loop_settles : (n k : ℕ) (s : Live) → s.changed ≡ true → length s.entries ≡ blocks w → Shape (blocks w) (locals w) s.exits → k ≤ total s.exits → blocks w * locals w < n + k
      → ((b : ℕ) → ¬ (b ∈ blocks_rpo w) → row_of s.entries b ≡ row_of (no_exits w) b) → Settles n k s.exits (live_loop n w s)
  loop_settles zero k s c tall h few fuel out =
      let q : total s.exits ≤ blocks w * locals w = subst (λ (x : ℕ). total s.exits ≤ x * locals w) h.tall (total_le (locals w) s.exits h.wide) in
      absurd (omega arith)
  loop_settles (suc n) k s c tall h few fuel out =
      subst (Settles (suc n) k s.exits) (sym (loop_again n s c)) (go (pass_done s tall h) (loop_settles n (suc k) (live_pass w s)))
    where
      next : Live
      next = live_pass w s

      e : List Set
      e = s.exits

      go : Done e (reverse (blocks_rpo w)) (begun s) next
          → (next.changed ≡ true → length next.entries ≡ blocks w → Shape (blocks w) (locals w) next.exits → suc k ≤ total next.exits → blocks w * locals w < n + suc k
          → ((b : ℕ) → ¬ (b ∈ blocks_rpo w) → row_of next.entries b ≡ row_of (no_exits w) b) → Settles n (suc k) next.exits (live_loop n w next))
          → Settles (suc n) k e (live_loop n w next)
      go d rest = ⊎_elim still again d.from.told
        where
          rest_out : (b : ℕ) → ¬ (b ∈ blocks_rpo w) → row_of next.entries b ≡ row_of (no_exits w) b
          rest_out b m = d.others b (λ i. m (reverse_out (blocks_rpo w) i)) ∙ out b m

          still : (next.changed ≡ false) × (next.exits ≡ e) → Settles (suc n) k e (live_loop n w next)
          still q =
              let same : pass w e ≡ e = sym d.exits_are ∙ q.1 in
              let last : same_rows (pass w e) e ≡ true = ap (λ (x : List Set). same_rows x e) same ∙ rows_self e in
              subst (Settles (suc n) k e) (sym (loop_still n next q.0))
              (record {
                ended = q.0;
                exits_are = q.1 ∙ sym (rw last);
                entered = λ b m. d.entered q.0 b (reverse_mem m) ∙ ap (λ (x : List Set). entry_from w b (row_of x b)) (sym q.1);
                others = rest_out;
              })

          again : (next.changed ≡ true) × (total e < total next.exits) → Settles (suc n) k e (live_loop n w next)
          again q =
              let r = rest q.0 d.tall d.from.shape (omega arith) (omega arith) rest_out in
              let more : same_rows (pass w e) e ≡ false = refuted (same_rows (pass w e) e) (λ t. let z = ap total (d.exits_are ∙ same_rows_lem e (pass w e) t) in omega arith) in
              record {
                ended = r.ended;
                exits_are = r.exits_are ∙ ap (λ (x : List Set). (settle n w (suc k) x).1) d.exits_are ∙ sym (rw more);
                entered = r.entered;
                others = r.others;
              }

  source_settles : Settles (blocks w * locals w + 1) 0 (no_exits w) (source_live w)
  source_settles =
      let s : Live = record { entries = no_exits w; exits = no_exits w; changed = true } in
      loop_settles (blocks w * locals w + 1) 0 s refl (empty_shape (blocks w) (locals w)).tall (empty_shape (blocks w) (locals w)) (omega arith) (omega arith) (λ b n. refl)

  -- the `while` ends by itself
  pub live_ends : (source_live w).changed ≡ false
  live_ends = source_settles.ended

  pub source_exits : (b : ℕ) → row_of (source_live w).exits b ≡ exit_set w b
  source_exits b = ap (λ (e : List Set). row_of e b) source_settles.exits_are

  pub source_entries : (b : ℕ) → members (row_of (source_live w).entries b) ≡ members (entry_set w b)
  source_entries b = go (is_visited w b) refl
    where
      go : (t : Bool) → is_visited w b ≡ t → members (row_of (source_live w).entries b) ≡ members (cond t (entry_from w b (exit_set w b)) [])
      go true e = ap members (source_settles.entered b ((blocks_seen w b).1 e) ∙ ap (entry_from w b) (source_exits b))
      go false e =
          let r : Set = row_of (no_exits w) b in
          ap members (source_settles.others b (λ m. none (is_visited w b) ((blocks_seen w b).0 m) e))
          ∙ no_members (members r) (λ v m. none (has r v) (members_out r m) (empty_row (blocks w) (locals w) b v))
