-- The source's `populate_intervals_from_local_liveness` gives an unmarked allocation the merged intervals of its reach.
use mathlib.Core.Path.{◌≡◌, refl, sym, ◌∙◌, ap, ap₂}
use mathlib.Core.Logic.{⊎_elim}
use mathlib.Core.Bool.{Bool, true, false, ◌||◌, cond}
use Prim.Native.Nat.{ℕ, zero, suc, ◌+◌, ◌-◌, ◌≤◌, ◌<◌}
use native.Mathlib.Omega.{arith}
use mathlib.Core.List.{List, [], ◌∷◌, ◌++◌, foldr, append-nil, Memᴰ}
use lib.ListN.{length, get_or, replicate}
use lib.Dec.{eqb}
use borrow.Author.Tests.{eqb-true, eqb-false, eq-eqb, ne_eqb}
use Rattle.plank_core.specs.Lists.{foldl, bind, keep, mem, upto, ◌∈◌}
use Rattle.plank_core.specs.laws.Lists.{mem_upto, bind_out, keep_out, keep_alike}
use Rattle.sir_data.specs.Records.{locals, ops, ins, outs}
use Rattle.sir_data.specs.inner.WellFormed.{WellFormed}
use Rattle.sir_analyses.specs.Order.{blocks_rpo}
use Rattle.sir_analyses.specs.Liveness.{has, members, end_reads, exit_set, Interval, block_end, Scan, end_open, closing, scan_op, block_intervals, intervals}
use Rattle.sir_analyses.specs.Allocation.{allocs, alloc_at, rule12, reach, marked, merge, sort, merged}
use Rattle.sir_analyses.specs.Propagation.{State}
use Rattle.sir_analyses.specs.SourceUses.{push}
use Rattle.sir_analyses.specs.SourceLiveness.{source_local_intervals}
use Rattle.sir_analyses.specs.Source.{source_state}
use Rattle.sir_analyses.specs.SourceIntervals.{merge_intervals, push_intervals, source_intervals}
use Rattle.sir_analyses.specs.inner.Scanning.{open_before, closed_by}
use Rattle.sir_analyses.proofs.local_intervals.Scanning.{scan_open, scan_closed}
use Rattle.plank_core.specs.laws.Folds.{bind_each, bind_kept, bind_none, bind_single}
use Rattle.sir_analyses.proofs.Accepted.{listed_op}
use Rattle.sir_analyses.proofs.claims.marks.Marks.{reach_length}
use Rattle.sir_analyses.proofs.claims.source.Tables.{list_of, Appends, appends_push, appends_all, appends_empty}
use Rattle.sir_analyses.proofs.claims.source.Liveness.{source_exits}
use Rattle.sir_analyses.proofs.claims.source.Scans.{source_local_intervals_lem}
use Rattle.sir_analyses.proofs.claims.source.Merging.{AllNumbered, merge_same}
use Rattle.sir_analyses.proofs.claims.source.Marks.{ended_reach, harmful, source_ends, source_marks}

-- ---- the numbers of starts and ends

closing_numbers : {i : Interval} (b from to : ℕ) → Memᴰ i (closing b from to) → (i.from ≡ from) × (i.to ≡ to)
closing_numbers {i} b from to m = go (eqb to 0) m
  where
    go : (t : Bool) → Memᴰ i (cond t [] (record { block = b; from = from; to = to } ∷ [])) → (i.from ≡ from) × (i.to ≡ to)
    go true k = absurd (mathlib.Core.List.Memᴰ.not-nil k)
    go false (mathlib.Core.List.Memᴰ.head e) = (ap (λ (j : Interval). j.from) e, ap (λ (j : Interval). j.to) e)
    go false (mathlib.Core.List.Memᴰ.tail k) = absurd (mathlib.Core.List.Memᴰ.not-nil k)

-- a scan whose open end and intervals are numbered
record ScanNumbered (c : Scan) : Type 0 where
  open_is : c.open' ≤ block_end
  closed_are : AllNumbered c.closed

open_below : (defined read : Bool) (here till : ℕ) → here ≤ block_end → till ≤ block_end → open_before defined read here till ≤ block_end
open_below true true here till h t = h
open_below true false here till h t = omega arith
open_below false true here till h t = go (eqb till 0)
  where
    go : (z : Bool) → cond z here till ≤ block_end
    go true = h
    go false = t
open_below false false here till h t = t

closed_below : (defined : Bool) (till : ℕ) → till ≤ block_end → closed_by defined till ≤ block_end
closed_below true till t = t
closed_below false till t = omega arith

appended : (b from to : ℕ) (is : List Interval) → from ≤ block_end → to ≤ block_end → AllNumbered is → AllNumbered (is ++ closing b from to)
appended b from to is f t h i m =
    ⊎_elim (h i) (λ (j : Memᴰ i (closing b from to)). let e = closing_numbers b from to j in omega arith) (mathlib.Core.List.Memᴰ.append_cases is m)

scan_numbered : (w : List ℕ) (b v : ℕ) (os : List ℕ) (c : Scan) → ((o : ℕ) → o ∈ os → o + 1 ≤ block_end) → ScanNumbered c → ScanNumbered (foldr (scan_op w b v) c os)
scan_numbered w b v [] c h k = k
scan_numbered w b v (o ∷ os) c h k =
    let d = foldr (scan_op w b v) c os in
    let l = h o (mathlib.Core.List.Memᴰ.head refl) in
    let r = scan_numbered w b v os c (λ p q. h p (mathlib.Core.List.Memᴰ.tail q)) k in
    record {
      open_is = rw (scan_open w b v o d) (open_below (mem v (outs w o)) (mem v (ins w o)) (o + 1) d.open' l r.open_is);
      closed_are =
          rw (scan_closed w b v o d)
          (appended b (o + 1) (closed_by (mem v (outs w o)) d.open') d.closed l (closed_below (mem v (outs w o)) d.open' r.open_is) r.closed_are);
    }

module _ (w : List ℕ) (good : WellFormed w) where
  block_numbered : (b v : ℕ) → b ∈ blocks_rpo w → AllNumbered (block_intervals w (exit_set w b) v b)
  block_numbered b v mb =
      let c : Scan = record { open' = end_open (has (exit_set w b) v || mem v (end_reads w b)); closed = [] } in
      let d = foldr (scan_op w b v) c (ops w b) in
      let r = scan_numbered w b v (ops w b) c (λ o n. let l = listed_op w good mb n in omega arith) (record { open_is = ends (has (exit_set w b) v || mem v (end_reads w b)); closed_are = λ k n. absurd (mathlib.Core.List.Memᴰ.not-nil n) }) in
      appended b 0 d.open' d.closed (omega arith) r.open_is r.closed_are
    where
      ends : (t : Bool) → end_open t ≤ block_end
      ends true = omega arith
      ends false = omega arith

  all_numbered : (vs : List ℕ) → AllNumbered (bind vs (intervals w))
  all_numbered vs i m =
      let x = bind_out (intervals w) vs m in
      let y = bind_out (λ b. block_intervals w (exit_set w b) x.0 b) (blocks_rpo w) x.2 in
      block_numbered y.0 x.0 y.1 i y.2

-- ---- what is pushed to allocation a

module _ (intervals_of : ℕ → List Interval) (s : State) (a : ℕ) where
  abbrev owner_of : ℕ → ℕ
  owner_of v = get_or s.owner v 0

  -- the intervals of a local with owner n, where a is unmarked and n is its number
  abbrev part : ℕ → List Interval → List Interval
  part n is = cond (eqb n (suc a)) (cond (has s.marks a) [] is) []

  abbrev pushes : ℕ → List (List Interval) → List Interval → List (List Interval)
  pushes n t is = cond (eqb n 0 || has s.marks (n - 1)) t (foldl (λ u i. push u (n - 1) i) t is)

  all_to : (c : ℕ) → Appends a (foldl (λ (u : List (List Interval)) (i : Interval). push u c i)) (λ is. bind is (λ i. cond (eqb c a) (i ∷ []) []))
  all_to c = appends_all a (appends_push a (λ i. c) (λ i. i))

  push_tall : (n : ℕ) (t : List (List Interval)) (is : List Interval) → length (pushes n t is) ≡ length t
  push_tall n t is = go (eqb n 0 || has s.marks (n - 1))
    where
      go : (on : Bool) → length (cond on t (foldl (λ u i. push u (n - 1) i) t is)) ≡ length t
      go true = refl
      go false = (all_to (n - 1)).tall t is

  push_list : (n : ℕ) (t : List (List Interval)) (is : List Interval) → a < length t → list_of (pushes n t is) a ≡ list_of t a ++ part n is
  push_list zero t is l = sym (append-nil (list_of t a)) ∙ ap (λ (b : Bool). list_of t a ++ cond b (cond (has s.marks a) [] is) []) (sym (ne_eqb 0 (suc a) (λ e. omega arith)))
  push_list (suc c) t is l =
      let one : suc c - 1 ≡ c = omega arith in
      ap (λ (b : Bool). list_of (cond (b || has s.marks (suc c - 1)) t (foldl (λ u i. push u (suc c - 1) i) t is)) a) (ne_eqb (suc c) 0 (λ e. omega arith))
      ∙ ap (λ (k : ℕ). list_of (cond (has s.marks k) t (foldl (λ u i. push u k i) t is)) a) one
      ∙ go (eqb c a) refl
    where
      go : (b : Bool) → eqb c a ≡ b → list_of (cond (has s.marks c) t (foldl (λ u i. push u c i) t is)) a ≡ list_of t a ++ part (suc c) is
      go true e =
          ap (λ (k : ℕ). list_of (cond (has s.marks k) t (foldl (λ u i. push u c i) t is)) a) (eqb-true c a e) ∙ mine (has s.marks a)
          ∙ ap (λ (b : Bool). list_of t a ++ cond b (cond (has s.marks a) [] is) []) (sym (eq-eqb (suc c) (suc a) (ap suc (eqb-true c a e))))
        where
          mine : (m : Bool) → list_of (cond m t (foldl (λ u i. push u c i) t is)) a ≡ list_of t a ++ cond m [] is
          mine true = sym (append-nil (list_of t a))
          mine false =
              (all_to c).list t is l ∙ ap (λ (b : Bool). list_of t a ++ bind is (λ i. cond b (i ∷ []) [])) e ∙ ap (λ (xs : List Interval). list_of t a ++ xs) (bind_single is)
      go false e =
          other (has s.marks c) ∙ sym (append-nil (list_of t a))
          ∙ ap (λ (b : Bool). list_of t a ++ cond b (cond (has s.marks a) [] is) []) (sym (ne_eqb (suc c) (suc a) (λ q. eqb-false c a e (omega arith))))
        where
          other : (m : Bool) → list_of (cond m t (foldl (λ u i. push u c i) t is)) a ≡ list_of t a
          other true = refl
          other false =
              (all_to c).list t is l ∙ ap (λ (b : Bool). list_of t a ++ bind is (λ i. cond b (i ∷ []) [])) e
              ∙ ap (λ (xs : List Interval). list_of t a ++ xs) (bind_none (λ i. []) is (λ i m. refl)) ∙ append-nil (list_of t a)

  pushes_append : Appends a (push_intervals intervals_of s) (λ v. part (owner_of v) (intervals_of v))
  pushes_append = record { tall = λ t v. push_tall (owner_of v) t (intervals_of v); list = λ t v l. push_list (owner_of v) t (intervals_of v) l }

  -- the intervals of the locals that a owns, where it is unmarked
  pub pushed_are : (n : ℕ) (vs : List ℕ) → a < n
      → list_of (foldl (push_intervals intervals_of s) (replicate n []) vs) a ≡ cond (has s.marks a) [] (bind (keep (λ v. eqb (owner_of v) (suc a)) vs) intervals_of)
  pushed_are n vs l = appends_empty a pushes_append n vs l ∙ go (has s.marks a)
    where
      go : (m : Bool) → bind vs (λ v. cond (eqb (owner_of v) (suc a)) (cond m [] (intervals_of v)) []) ≡ cond m [] (bind (keep (λ v. eqb (owner_of v) (suc a)) vs) intervals_of)
      go true = bind_none (λ v. cond (eqb (owner_of v) (suc a)) [] []) vs (λ v m. both (eqb (owner_of v) (suc a)))
        where
          both : (b : Bool) → cond {A = List Interval} b [] [] ≡ []
          both true = refl
          both false = refl
      go false = bind_kept (λ v. eqb (owner_of v) (suc a)) intervals_of vs

-- ---- merged

module _ (w : List ℕ) (good : WellFormed w) (twelve : rule12 w ≡ false) where
  pub reach_owned : (a v : ℕ) → a < length (allocs w) → marked w a ≡ false → has (reach w (alloc_at w a)) v ≡ eqb (get_or (source_state w).owner v 0) (suc a)
  reach_owned a v h free = let end = source_ends w good twelve in ended_reach w good (harmful w) (source_state w) end.1 end.2 a v h (source_marks w good twelve a h ∙ free)

  abbrev owned_by : ℕ → List ℕ
  owned_by a = keep (λ v. eqb (get_or (source_state w).owner v 0) (suc a)) (upto (locals w))

  owned_members : (a : ℕ) → a < length (allocs w) → marked w a ≡ false → owned_by a ≡ members (reach w (alloc_at w a))
  owned_members a h free =
      keep_alike (λ v. eqb (get_or (source_state w).owner v 0) (suc a)) (has (reach w (alloc_at w a))) (upto (locals w)) (λ v m. sym (reach_owned a v h free))
      ∙ ap (λ (n : ℕ). keep (has (reach w (alloc_at w a))) (upto n)) (sym (reach_length w good a))

  pub local_intervals : (v : ℕ) → v < locals w → source_local_intervals w v ≡ intervals w v
  local_intervals = source_local_intervals_lem w (source_exits w good)

  pub source_merged : (a : ℕ) → a < length (allocs w) → source_intervals w a ≡ merged w a
  source_merged a h =
      ap₂ (λ (m : Bool) (is : List Interval). cond m is (merge_intervals is)) mark (pushed_are (source_local_intervals w) (source_state w) a (length (allocs w)) (upto (locals w)) h ∙ ap (λ (m : Bool). cond m [] theirs) mark)
      ∙ go (marked w a) (owned_members a h)
    where
      mark : has (source_state w).marks a ≡ marked w a
      mark = source_marks w good twelve a h

      theirs : List Interval
      theirs = bind (owned_by a) (source_local_intervals w)

      ours : (vs : List ℕ) → owned_by a ≡ vs → merge_intervals theirs ≡ merge (sort (bind vs (intervals w)))
      ours vs e =
          ap merge_intervals
          (bind_each (source_local_intervals w) (intervals w) (owned_by a) (λ v m. local_intervals v (mem_upto v (locals w) (keep_out (λ u. eqb (get_or (source_state w).owner u 0) (suc a)) (upto (locals w)) m).0))
          ∙ ap (λ (xs : List ℕ). bind xs (intervals w)) e)
          ∙ merge_same (bind vs (intervals w)) (all_numbered w good vs)

      go : (m : Bool) → (m ≡ false → owned_by a ≡ members (reach w (alloc_at w a)))
          → cond m (cond m [] theirs) (merge_intervals (cond m [] theirs)) ≡ cond m [] (merge (sort (bind (members (reach w (alloc_at w a))) (intervals w))))
      go true f = refl
      go false f = ours (members (reach w (alloc_at w a))) (f refl)
