-- The claim on walks: the merged intervals of an unmarked allocation have every operation between it and a read.
use mathlib.Core.Path.{◌≡◌, refl, sym, ◌∙◌, ap}
use mathlib.Core.Logic.{◌↔◌, ◌⊎◌, inl, inr}
use mathlib.Core.Bool.{true, false}
use Prim.Native.Nat.{ℕ, suc, ◌+◌, ◌≤◌, ◌<◌}
use native.Mathlib.Omega.{arith}
use mathlib.Core.List.{List, [], ◌∷◌, map, Memᴰ}
use lib.ListN.{length, get_or, replicate, length-replicate, get_or-eq_default}
use Rattle.plank_core.specs.Lists.{bind, ◌∈◌, ◌∉◌}
use Rattle.plank_core.specs.laws.Lists.{bind_mem, bind_out, elem_get_or, elem_mem, elem_less}
use Rattle.sir_data.specs.Records.{blocks, locals, inputs, outputs, ops, successors, condition, returned, ins, outs}
use Rattle.sir_data.specs.inner.WellFormed.{WellFormed}
use Rattle.sir_analyses.specs.Order.{blocks_rpo}
use Rattle.sir_analyses.specs.Liveness.{Set, has, remove_all, members, end_reads, entry_from, renamed, index_of, exit_set, exit_from, block_end, Interval, block_intervals, intervals}
use Rattle.sir_analyses.specs.Allocation.{allocs, no_alloc, alloc_at, base, reach, marked, sort, merge, merged}
use Rattle.sir_analyses.specs.Claims.{Reached, itself, linked, met}
use Rattle.sir_analyses.specs.Walk.{Paired, Event, op, edge, steps, Executed, now, before, Walk, enter, step, follow, Gives, Holds, given, derived, kept, moved, stayed, Lies, here, there, Lifetimes}
use Rattle.sir_analyses.proofs.SetLaws.{has_less, members_in, length_remove_all, add_keeps, add_in, remove_keeps, gather_in}
use Rattle.sir_analyses.proofs.Positions.{index_at, index_none}
use Rattle.sir_analyses.proofs.claims.order.OrderProof.{blocks_visited, blocks_below, entry_listed, next_listed}
use Rattle.sir_analyses.proofs.claims.liveness.GenKill.{length_through}
use Rattle.sir_analyses.proofs.claims.liveness.LivenessProof.{live_solves, exit_size}
use Rattle.sir_analyses.proofs.Accepted.{one_out, returned_below, listed_op}
use Rattle.sir_analyses.proofs.claims.marks.Marks.{alloc_of, Link, derive, pass, link_carried, alloc_known, mark_rule}
use Rattle.sir_analyses.proofs.claims.lifetimes.Merging.{Point, Gap, Proper, Normal, merge_lies, merge_unique}
use Rattle.sir_analyses.proofs.claims.lifetimes.Scans.{Suffix, whole, behind, suffix_mem, suffix_ascends, Behind, piece, close_out, scan_emits, scan_out, Live, leaves, tests, reads, later, scan, live_in, live_end, ends_behind, ends_at, ops_ascend, grows, emitted}

pub executed_before : {τ : List Event} {u b o : ℕ} → Executed τ u b o → u < steps τ
executed_before (now e) = omega arith
executed_before (before {e = op b o} x) = omega (arith, executed_before x)
executed_before (before {e = edge b t} x) = executed_before x

-- the intervals of all locals that a reaches
abbrev pub pieces : List ℕ → ℕ → List Interval
pieces w a = bind (members (reach w (alloc_at w a))) (intervals w)

-- ---- the claims

module _ (w : List ℕ) (good : WellFormed w) where
  below : {b : ℕ} → b ∈ blocks_rpo w → b < blocks w
  below {b} mb = blocks_below w good b mb

  op_bound : {b o : ℕ} → b ∈ blocks_rpo w → o ∈ ops w b → o < block_end
  op_bound mb mo = omega (arith, listed_op w good mb mo, good.sized.operations_most)

  exit_is : {b : ℕ} → b ∈ blocks_rpo w → exit_set w b ≡ exit_from w (exit_set w) b
  exit_is {b} mb = (live_solves w good).exit b ((blocks_visited w good b).0 mb)

  abbrev entering : ℕ → ℕ → List ℕ
  entering b t = map (renamed w b t) (members (entry_from w t (exit_set w t)))

  exit_in : {b s u : ℕ} → b ∈ blocks_rpo w → s ∈ successors w b → u ∈ entering b s → u < locals w → has (exit_set w b) u ≡ true
  exit_in {b} {s} {u} mb ms m h = ap (λ (x : Set). has x u) (exit_is mb) ∙ gather_in (entering b) (replicate (locals w) false) ms m (rw length-replicate h)

  live_length : {b : ℕ} (os : List ℕ) → b ∈ blocks_rpo w → length (live_in w b os) ≡ locals w
  live_length {b} os mb = length_through w (end_reads w b) os (exit_set w b) ∙ exit_size w good b (below mb)

  -- what is live is in the set
  live_has : {b v : ℕ} {os : List ℕ} → b ∈ blocks_rpo w → Suffix (ops w b) os → Live w b os v → has (live_in w b os) v ≡ true
  live_has {b} {v} mb s (leaves t) = add_keeps (exit_set w b) (end_reads w b) v t
  live_has {b} {v} mb s (tests m) = add_in (exit_set w b) m (rw (exit_size w good b (below mb)) (go (mathlib.Core.List.Memᴰ.append_cases (condition w b) m)))
    where
      go : (v ∈ condition w b) ⊎ (v ∈ returned w b) → v < locals w
      go (inl k) = good.in_range.tested b v (below mb) k
      go (inr k) = returned_below w good b v (below mb) k
  live_has {b} {v} mb s (reads {o} {os = os} i) =
      add_in (remove_all (live_in w b os) (outs w o)) i
      (rw (length_remove_all, live_length os mb) (good.in_range.read o v (listed_op w good mb (suffix_mem s (mathlib.Core.List.Memᴰ.head refl))) i))
  live_has {b} {v} mb s (later {o} {os = os} n l) =
      add_keeps (remove_all (live_in w b os) (outs w o)) (ins w o) v (remove_keeps (live_in w b os) (outs w o) v n (live_has mb (behind s) l))

  live_less : {b v : ℕ} {os : List ℕ} → b ∈ blocks_rpo w → Suffix (ops w b) os → Live w b os v → v < locals w
  live_less {b} {v} {os} mb s l = omega (arith, has_less (live_in w b os) v (live_has mb s l), live_length os mb)

  -- what is live in a successor is live at the exit, under its name there
  passed_on : {b s u v : ℕ} → b ∈ blocks_rpo w → s ∈ successors w b → Live w s (ops w s) v → Paired (outputs w b) (inputs w s) u v → has (exit_set w b) u ≡ true
  passed_on {b} {s} {u} {v} mb ms l p =
      let ms' = next_listed w good mb ms in
      let i : index_of v (inputs w s) ≡ p.position = index_at v p.position (inputs w s) (good.inputs_once s (below ms')) p.right in
      let e : u ≡ renamed w b s v = sym (ap (λ (k : ℕ). get_or (outputs w b) k v) i ∙ elem_get_or (outputs w b) p.position v u p.left) in
      let m : v ∈ members (entry_from w s (exit_set w s)) = members_in (live_in w s (ops w s)) v (live_has ms' whole l) in
      exit_in mb ms (mathlib.Core.List.Memᴰ.cast e (mathlib.Core.List.Memᴰ.map (renamed w b s) m)) (good.in_range.output b u (below mb) (elem_mem (outputs w b) p.position u p.left))

  passed_by : {b s v : ℕ} → b ∈ blocks_rpo w → s ∈ successors w b → Live w s (ops w s) v → v ∉ inputs w s → has (exit_set w b) v ≡ true
  passed_by {b} {s} {v} mb ms l n =
      let ms' = next_listed w good mb ms in
      let i : index_of v (inputs w s) ≡ length (inputs w s) = index_none v (inputs w s) n in
      let d : get_or (outputs w b) (index_of v (inputs w s)) v ≡ v = get_or-eq_default (outputs w b) v {n = index_of v (inputs w s)} (omega (arith, good.passed b s (below mb) ms)) in
      let m : v ∈ members (entry_from w s (exit_set w s)) = members_in (live_in w s (ops w s)) v (live_has ms' whole l) in
      exit_in mb ms (mathlib.Core.List.Memᴰ.cast (sym d) (mathlib.Core.List.Memᴰ.map (renamed w b s) m)) (live_less ms' whole l)

  -- ---- walks

  pub walk_visited : {τ : List Event} {b : ℕ} {os : List ℕ} → Walk w τ b os → b ∈ blocks_rpo w
  walk_visited (enter m) = entry_listed w good m
  walk_visited (step k) = walk_visited k
  walk_visited (follow k m) = next_listed w good (walk_visited k) m

  pub walk_suffix : {τ : List Event} {b : ℕ} {os : List ℕ} → Walk w τ b os → Suffix (ops w b) os
  walk_suffix (enter m) = whole
  walk_suffix (step k) = behind (walk_suffix k)
  walk_suffix (follow k m) = whole

  gives_in : {b o : ℕ} (a : ℕ) → Gives w a b o → Memᴰ (alloc_of b o) (allocs w)
  gives_in {b} {o} a g = elem_mem (allocs w) a (alloc_of b o) g

  given_reached : {a b o v : ℕ} → Gives w a b o → v ∈ outs w o → Reached w a v
  given_reached {a} {b} {o} {v} g m =
      let k = alloc_known w (gives_in a g) in
      let e : alloc_at w a ≡ alloc_of b o = elem_get_or (allocs w) a no_alloc (alloc_of b o) g in
      itself (only (outs w o) (one_out w good (listed_op w good k.0 k.1) k.2) m ∙ sym (ap (base w) e))
    where
      only : (xs : List ℕ) → length xs ≡ 1 → v ∈ xs → v ≡ get_or xs 0 0
      only [] h q = elim q [ ]
      only (x ∷ []) h (mathlib.Core.List.Memᴰ.head q) = q
      only (x ∷ []) h (mathlib.Core.List.Memᴰ.tail q) = absurd (mathlib.Core.List.Memᴰ.not-nil q)
      only (x ∷ (y ∷ ys)) h q = absurd (omega arith)

  link_reached : {a u v : ℕ} → Reached w a u → Link w u v → Reached w a v
  link_reached r l = let k = link_carried w l in linked r k.1 k.2

  -- what a local holds on a walk is reached
  pub held_reached : {τ : List Event} {b : ℕ} {os : List ℕ} {v a n : ℕ} → Walk w τ b os → Holds w τ v a n → Reached w a v
  held_reached (enter _) h = elim h [ ]
  held_reached (step k) (given g m e) = given_reached g m
  held_reached (step k) (derived d mi mo h) = link_reached (held_reached k h) (derive (walk_visited k) (suffix_mem (walk_suffix k) (mathlib.Core.List.Memᴰ.head refl)) d mi mo)
  held_reached (step k) (kept n h) = held_reached k h
  held_reached (follow {s = s} k m) (moved {v = v} p h) = link_reached (held_reached k h) (pass p.position (walk_visited k) m p.left (sym (elem_get_or (inputs w s) p.position 0 v p.right)))
  held_reached (follow k m) (stayed n h) = held_reached k h

  pub held_alloc : {τ : List Event} {v a n : ℕ} → Holds w τ v a n → a < length (allocs w)
  held_alloc (given {a = a} {b = b} {o = o} g m e) = elem_less (allocs w) a (alloc_of b o) g
  held_alloc (derived d mi mo h) = held_alloc h
  held_alloc (kept n h) = held_alloc h
  held_alloc (moved p h) = held_alloc h
  held_alloc (stayed n h) = held_alloc h

  -- operation o of block b lies in an interval of a local that a reaches
  pub record Covered (a b o : ℕ) : Type 0 where
    pub carrier : ℕ
    pub reached : Reached w a carrier
    pub visited : b ∈ blocks_rpo w
    pub lo : ℕ
    pub hi : ℕ
    pub interval : Memᴰ (piece b lo hi) (block_intervals w (exit_set w b) carrier b)
    pub after : lo ≤ o + 1
    pub until : o + 1 ≤ hi

  up : {o n : ℕ} → Behind o n → ¬ (n ≡ 0) → o + 1 ≤ n
  up (inl e) n = absurd (n e)
  up (inr h) n = omega arith

  cover_before : {a b o v : ℕ} {os : List ℕ} → b ∈ blocks_rpo w → Suffix (ops w b) (o ∷ os) → Reached w a v → Live w b (o ∷ os) v → Covered a b o
  cover_before {a} {b} {o} {v} {os} mb s r l =
      let k = live_end w l in
      let t = emitted w b v s k in
      record { carrier = v; reached = r; visited = mb; lo = t.0; hi = (scan w b v (o ∷ os)).open'; interval = t.1; after = omega (arith, t.2 o (mathlib.Core.List.Memᴰ.head refl)); until = up (ends_at w b v o os (op_bound mb (suffix_mem s (mathlib.Core.List.Memᴰ.head refl))) (suffix_ascends s (ops_ascend w b))) k }

  cover_output : {a b o v : ℕ} {os : List ℕ} → b ∈ blocks_rpo w → Suffix (ops w b) (o ∷ os) → Reached w a v → v ∈ outs w o → Live w b os v → Covered a b o
  cover_output {a} {b} {o} {v} {os} mb s r m l =
      let k = live_end w l in
      record { carrier = v; reached = r; visited = mb; lo = suc o; hi = (scan w b v os).open'; interval = grows w b v s (scan_emits w b v o (scan w b v os) m k); after = omega arith; until = up (ends_behind w o b v os (op_bound mb (suffix_mem s (mathlib.Core.List.Memᴰ.head refl))) (suffix_ascends s (ops_ascend w b)).0) k }

  -- where a live local holds a pointer, every operation since is covered
  covered_since : {τ : List Event} {b : ℕ} {os : List ℕ} {v a n u c p : ℕ} → Walk w τ b os → Live w b os v → Holds w τ v a n → Executed τ u c p → n ≤ u → Covered a c p
  covered_since (enter _) l h _ le = elim h [ ]
  covered_since (step k) l (given g m e) (now x) le = cover_output (walk_visited k) (walk_suffix k) (given_reached g m) m l
  covered_since (step k) l (derived d mi mo h) (now x) le = cover_before (walk_visited k) (walk_suffix k) (held_reached k h) (reads mi)
  covered_since (step k) l (kept n h) (now x) le = cover_before (walk_visited k) (walk_suffix k) (held_reached k h) (later n l)
  covered_since (step k) l (given g m e) (before x) le = absurd (omega (arith, executed_before x))
  covered_since (step k) l (derived d mi mo h) (before x) le = covered_since k (reads mi) h x le
  covered_since (step k) l (kept n h) (before x) le = covered_since k (later n l) h x le
  covered_since (follow k m) l (moved p h) (before x) le = covered_since k (leaves (passed_on (walk_visited k) m l p)) h x le
  covered_since (follow k m) l (stayed n h) (before x) le = covered_since k (leaves (passed_by (walk_visited k) m l n)) h x le

  pub covered_read : {τ : List Event} {b o : ℕ} {os : List ℕ} {v a n u c p : ℕ} → Walk w τ b (o ∷ os) → v ∈ ins w o → Holds w τ v a n → Executed (op b o ∷ τ) u c p → n ≤ u → Covered a c p
  covered_read k i h (now x) le = cover_before (walk_visited k) (walk_suffix k) (held_reached k h) (reads i)
  covered_read k i h (before x) le = covered_since k (reads i) h x le

  pub covered_test : {τ : List Event} {b v a n u c p : ℕ} → Walk w τ b [] → v ∈ condition w b → Holds w τ v a n → Executed τ u c p → n ≤ u → Covered a c p
  covered_test {b = b} k i h x le = covered_since k (tests (mathlib.Core.List.Memᴰ.append_left (returned w b) i)) h x le

  -- ---- to the merged list

  member_lies : {b o lo hi : ℕ} {is : List Interval} → Memᴰ (piece b lo hi) is → lo ≤ o + 1 → o + 1 ≤ hi → Lies b o is
  member_lies {b} {o} (mathlib.Core.List.Memᴰ.head {x = i} e) p q = here {i = i} (ap (λ (j : Interval). j.block) (sym e)) (omega (arith, ap (λ (j : Interval). j.from) e)) (omega (arith, ap (λ (j : Interval). j.to) e))
  member_lies (mathlib.Core.List.Memᴰ.tail m) p q = there (member_lies m p q)

  covered_lies : {a b o : ℕ} → a < length (allocs w) → marked w a ≡ false → Covered a b o → Lies b o (merged w a)
  covered_lies {a} {b} {o} h n c =
      let v = c.carrier in
      let t : has (reach w (alloc_at w a)) v ≡ true = ((mark_rule w good).reach_exact a v h).1 c.reached in
      let i : Memᴰ (piece b c.lo c.hi) (intervals w v) = bind_mem (λ (b : ℕ). block_intervals w (exit_set w b) v b) c.visited c.interval in
      let l : Lies b o (merge (sort (pieces w a))) = (merge_lies (pieces w a)).1 (member_lies (bind_mem (intervals w) (members_in (reach w (alloc_at w a)) v t) i) c.after c.until) in
      rw n l

  pub lifetimes : Lifetimes w
  lifetimes = record {
    read = λ k i h n x le. covered_lies (held_alloc h) n (covered_read k i h x le);
    tested = λ k i h n x le. covered_lies (held_alloc h) n (covered_test k i h x le);
    mixed = λ {τ} {b} {v} {a} {n} {a'} {n'} {os} k h g d. (((mark_rule w good).mark_exact a (held_alloc h)).1 (met (held_reached k h) (held_alloc g) d (held_reached k g)), ((mark_rule w good).mark_exact a' (held_alloc g)).1 (met (held_reached k g) (held_alloc h) (λ e. d (sym e)) (held_reached k h)));
  }

  -- ---- the normal form of the merged intervals

  piece_proper : {i : Interval} {b o n : ℕ} → Behind o n → ¬ (n ≡ 0) → i ≡ piece b (suc o) n → i.from ≤ i.to
  piece_proper h n e = rw e (omega (arith, up h n))

  scan_proper : (b v : ℕ) {i : Interval} (os : List ℕ) → b ∈ blocks_rpo w → Suffix (ops w b) os → Memᴰ i (scan w b v os).closed → i.from ≤ i.to
  scan_proper b v [] mb s m = absurd (mathlib.Core.List.Memᴰ.not-nil m)
  scan_proper b v {i} (o ∷ os) mb s m = go (λ h. scan_proper b v os mb (behind s) h) (scan_out w b v o (scan w b v os) m)
    where
      go : (Memᴰ i (scan w b v os).closed → i.from ≤ i.to) → Memᴰ i (scan w b v os).closed ⊎ (¬ ((scan w b v os).open' ≡ 0) × (i ≡ piece b (suc o) (scan w b v os).open')) → i.from ≤ i.to
      go f (inl h) = f h
      go f (inr h) = piece_proper (ends_behind w o b v os (op_bound mb (suffix_mem s (mathlib.Core.List.Memᴰ.head refl))) (suffix_ascends s (ops_ascend w b)).0) h.0 h.1

  pub intervals_proper : (v : ℕ) → Proper (intervals w v)
  intervals_proper v i m =
      let r = bind_out (λ (b : ℕ). block_intervals w (exit_set w b) v b) (blocks_rpo w) m in
      go r.0 r.1 (close_out r.0 0 (scan w r.0 v (ops w r.0)) r.2)
    where
      go : (b : ℕ) → b ∈ blocks_rpo w → Memᴰ i (scan w b v (ops w b)).closed ⊎ (¬ ((scan w b v (ops w b)).open' ≡ 0) × (i ≡ piece b 0 (scan w b v (ops w b)).open')) → i.from ≤ i.to
      go b mb (inl h) = scan_proper b v (ops w b) mb whole h
      go b mb (inr h) = rw h.1 (omega arith)

  pub pieces_proper : (a : ℕ) → Proper (pieces w a)
  pieces_proper a i m = let r = bind_out (intervals w) (members (reach w (alloc_at w a))) m in intervals_proper r.0 i r.2

  -- what any other way of merging has to show
  pub merged_unique : (a : ℕ) (is : List Interval) → marked w a ≡ false → Normal is
      → ((b n : ℕ) → Point b n is ↔ Point b n (pieces w a)) → ((b n : ℕ) → Gap b n is ↔ Gap b n (pieces w a)) → is ≡ merged w a
  merged_unique a is u ni points gaps =
      rw u (merge_unique (pieces w a) is (pieces_proper a) ni points gaps)
