-- What is open at an operation and where two allocations cross: the list and the three words are what the claims say.
use mathlib.Core.Path.{◌≡◌, refl, sym, ◌∙◌, ap, subst}
use mathlib.Core.Logic.{◌↔◌, ◌⊎◌, inl, inr, ⊎_elim}
use mathlib.Core.Bool.{Bool, true, false, not, ◌&&◌, ◌||◌, cond, and_comm, or_comm}
use Prim.Native.Nat.{ℕ, zero, suc, ◌+◌, ◌≤◌, ◌<◌}
use native.Mathlib.Omega.{arith}
use mathlib.Core.List.{List, [], ◌∷◌, ◌++◌, map, Memᴰ}
use lib.ListN.{length, get_or}
use lib.Dec.{eqb, leb}
use borrow.Author.Tests.{eqb-true, eq-eqb, leb-true, le-leb, not-true}
use Rattle.plank_core.specs.Lists.{bind, keep, upto, count, any, ◌∈◌}
use Rattle.plank_core.specs.laws.Lists.{and_true_left, and_true_right, both_true, or_true_left, or_true_right, or_cases, or_false_left, or_false_right, none, keep_mem, keep_out, keep_alike, bind_mem, bind_out, mem_count, mem_upto, upto_mem, get_or_mem, no_members}
use Rattle.sir_data.specs.Records.{blocks, ops}
use Rattle.sir_data.specs.inner.WellFormed.{WellFormed}
use Rattle.sir_analyses.specs.Order.{blocks_rpo}
use Rattle.sir_analyses.specs.Liveness.{members, exit_set, Interval, block_intervals, intervals}
use Rattle.sir_analyses.specs.Allocation.{allocs, alloc_at, reach, marked, sort, merge, merged}
use Rattle.sir_analyses.specs.Claims.{Visited, block}
use Rattle.sir_analyses.specs.Walk.{Lies, here, there}
use Rattle.sir_analyses.specs.Open.{covers, lies, is_open, open_at, Place, place_of, places, is_common, first_of, crossing, Open, OpenRule, Common, Crosses, one_marked, other_marked, meeting, Tells, unnamed, named, apart, CrossingRule}
use Rattle.sir_analyses.proofs.claims.order.OrderProof.{blocks_visited}
use Rattle.sir_analyses.proofs.claims.lifetimes.Merging.{spans_in, spans_lies, merge_lies}
use Rattle.sir_analyses.proofs.claims.lifetimes.Scans.{Ascends, count_ascends, ops_ascend, piece, close_out, scan_out, scan}
use Rattle.sir_analyses.proofs.claims.lifetimes.Lifetime.{pieces}

-- ---- the test of an interval

pub lies_covered : {b o : ℕ} {is : List Interval} → Lies b o is → any (covers b o) is ≡ true
lies_covered {b} {o} (here {i = i} {is = is} p q r) =
    or_true_left (covers b o i) (any (covers b o) is)
    (both_true (eqb i.block b) (leb i.from (o + 1) && leb (o + 1) i.to) (eq-eqb i.block b p)
    (both_true (leb i.from (o + 1)) (leb (o + 1) i.to) (le-leb i.from (o + 1) q) (le-leb (o + 1) i.to r)))
lies_covered {b} {o} (there {i = i} {is = is} l) = or_true_right (covers b o i) (any (covers b o) is) (lies_covered l)

pub covered_lies : (b o : ℕ) (is : List Interval) → any (covers b o) is ≡ true → Lies b o is
covered_lies b o [] h = none false h refl
covered_lies b o (i ∷ is) h =
    ⊎_elim
    (λ (t : covers b o i ≡ true).
    let k : (leb i.from (o + 1) && leb (o + 1) i.to) ≡ true = and_true_right (eqb i.block b) (leb i.from (o + 1) && leb (o + 1) i.to) t in
    here (eqb-true i.block b (and_true_left (eqb i.block b) (leb i.from (o + 1) && leb (o + 1) i.to) t))
    (leb-true i.from (o + 1) (and_true_left (leb i.from (o + 1)) (leb (o + 1) i.to) k))
    (leb-true (o + 1) i.to (and_true_right (leb i.from (o + 1)) (leb (o + 1) i.to) k)))
    (λ (t : any (covers b o) is ≡ true). there (covered_lies b o is t))
    (or_cases (covers b o i) (any (covers b o) is) h)

-- ---- lists of intervals

pub lies_out : {b o : ℕ} {is : List Interval} → Lies b o is → (i : Interval) × Memᴰ i is × (i.block ≡ b) × (i.from ≤ o + 1) × (o + 1 ≤ i.to)
lies_out (here {i = i} p q r) = (i, mathlib.Core.List.Memᴰ.head refl, p, q, r)
lies_out (there l) = let x = lies_out l in (x.0, mathlib.Core.List.Memᴰ.tail x.1, x.2, x.3, x.4)

lies_in : {b o : ℕ} {i : Interval} {is : List Interval} → Memᴰ i is → i.block ≡ b → i.from ≤ o + 1 → o + 1 ≤ i.to → Lies b o is
lies_in m p q r = spans_lies (spans_in m p q r)

pub lies_bind_out : {b o : ℕ} (f : ℕ → List Interval) (xs : List ℕ) → Lies b o (bind xs f) → (x : ℕ) × (x ∈ xs) × Lies b o (f x)
lies_bind_out f xs l =
    let i = lies_out l in
    let x = bind_out f xs i.1 in
    (x.0, x.1, lies_in x.2 i.2 i.3 i.4)

pub lies_bind_in : {b o x : ℕ} (f : ℕ → List Interval) {xs : List ℕ} → x ∈ xs → Lies b o (f x) → Lies b o (bind xs f)
lies_bind_in f k l = let i = lies_out l in lies_in (bind_mem f k i.1) i.2 i.3 i.4

module _ (w : List ℕ) where
  scan_own : (b v : ℕ) {i : Interval} (os : List ℕ) → Memᴰ i (scan w b v os).closed → i.block ≡ b
  scan_own b v [] m = absurd (mathlib.Core.List.Memᴰ.not-nil m)
  scan_own b v {i} (o ∷ os) m = go (scan_own b v os) (scan_out w b v o (scan w b v os) m)
    where
      go : (Memᴰ i (scan w b v os).closed → i.block ≡ b) → Memᴰ i (scan w b v os).closed ⊎ (¬ ((scan w b v os).open' ≡ 0) × (i ≡ piece b (suc o) (scan w b v os).open')) → i.block ≡ b
      go f (inl h) = f h
      go f (inr h) = ap (λ (j : Interval). j.block) h.1

  -- the intervals of a block name that block
  block_own : (b v : ℕ) {i : Interval} → Memᴰ i (block_intervals w (exit_set w b) v b) → i.block ≡ b
  block_own b v {i} m = go (close_out b 0 (scan w b v (ops w b)) m)
    where
      go : Memᴰ i (scan w b v (ops w b)).closed ⊎ (¬ ((scan w b v (ops w b)).open' ≡ 0) × (i ≡ piece b 0 (scan w b v (ops w b)).open')) → i.block ≡ b
      go (inl h) = scan_own b v (ops w b) h
      go (inr h) = ap (λ (j : Interval). j.block) h.1

  -- so an operation lies in an interval of a local only by its own block, which is visited
  pub local_out : {b o : ℕ} (v : ℕ) → Lies b o (intervals w v) → (b ∈ blocks_rpo w) × Lies b o (block_intervals w (exit_set w b) v b)
  local_out {b} {o} v l =
      let x = lies_bind_out (λ (c : ℕ). block_intervals w (exit_set w c) v c) (blocks_rpo w) l in
      let i = lies_out x.2 in
      let e : x.0 ≡ b = sym (block_own x.0 v i.1) ∙ i.2 in
      subst (λ (c : ℕ). (c ∈ blocks_rpo w) × Lies b o (block_intervals w (exit_set w c) v c)) e (x.1, x.2)

  -- an unmarked allocation's merged intervals lie where those of a local in its reach do
  pub merged_out : {b o : ℕ} (a : ℕ) → marked w a ≡ false → Lies b o (merged w a) → (v : ℕ) × (v ∈ members (reach w (alloc_at w a))) × Lies b o (intervals w v)
  merged_out {b} {o} a u l =
      let k : Lies b o (merge (sort (pieces w a))) = rw u at l in
      lies_bind_out (intervals w) (members (reach w (alloc_at w a))) ((merge_lies (pieces w a)).0 k)

  pub merged_in : {b o v : ℕ} (a : ℕ) → marked w a ≡ false → v ∈ members (reach w (alloc_at w a)) → Lies b o (intervals w v) → Lies b o (merged w a)
  merged_in {b} {o} {v} a u m l =
      let k : Lies b o (merge (sort (pieces w a))) = (merge_lies (pieces w a)).1 (lies_bind_in (intervals w) m l) in
      rw u k

-- ---- lists that ascend

keep_ascends : (f : ℕ → Bool) (xs : List ℕ) → Ascends xs → Ascends (keep f xs)
keep_ascends f [] h = tt
keep_ascends f (x ∷ xs) h = go (f x) (keep_ascends f xs h.1)
  where
    go : (t : Bool) → Ascends (keep f xs) → Ascends (cond t (x ∷ keep f xs) (keep f xs))
    go true k = (λ p m. h.0 p (keep_out f xs m).0, k)
    go false k = k

ascends_places : (xs : List ℕ) → Ascends xs → (i j : ℕ) → i < j → j < length xs → get_or xs i 0 < get_or xs j 0
ascends_places [] h i j l k = absurd (omega arith)
ascends_places (x ∷ xs) h zero zero l k = absurd (omega arith)
ascends_places (x ∷ xs) h zero (suc j) l k = h.0 (get_or xs j 0) (get_or_mem xs j 0 (omega arith))
ascends_places (x ∷ xs) h (suc i) zero l k = absurd (omega arith)
ascends_places (x ∷ xs) h (suc i) (suc j) l k = ascends_places xs h.1 i j (omega arith) (omega arith)

-- ---- places in turn

-- p is at or before q: by block, then operation
abbrev NoLater : Place → Place → Type 0
NoLater p q = (p.block < q.block) ⊎ ((p.block ≡ q.block) × (p.op ≤ q.op))

-- each is at or before all after it
abbrev InTurn : List Place → Type 0
InTurn [] = Unit {0}
InTurn (p ∷ ps) = ((q : Place) → Memᴰ q ps → NoLater p q) × InTurn ps

turn_append : (ps qs : List Place) → InTurn ps → InTurn qs → ((p q : Place) → Memᴰ p ps → Memᴰ q qs → NoLater p q) → InTurn (ps ++ qs)
turn_append [] qs h k f = k
turn_append (p ∷ ps) qs h k f = (λ q m. go q (mathlib.Core.List.Memᴰ.append_cases ps m), turn_append ps qs h.1 k (λ x y m n. f x y (mathlib.Core.List.Memᴰ.tail m) n))
  where
    go : (q : Place) → Memᴰ q ps ⊎ Memᴰ q qs → NoLater p q
    go q (inl m) = h.0 q m
    go q (inr m) = f p q (mathlib.Core.List.Memᴰ.head refl) m

map_turn : (b : ℕ) (os : List ℕ) → Ascends os → InTurn (map (place_of b) os)
map_turn b [] h = tt
map_turn b (o ∷ os) h = (λ q m. go q (mathlib.Core.List.Memᴰ.of_map (place_of b) os m), map_turn b os h.1)
  where
    go : (q : Place) → (p : ℕ) × (p ∈ os) × (place_of b p ≡ q) → NoLater (place_of b o) q
    go q r = let l = h.0 r.0 r.1 in inr (ap (λ (x : Place). x.block) r.2, omega (arith, ap (λ (x : Place). x.op) r.2))

blocks_turn : (f : ℕ → List ℕ) → ((b : ℕ) → Ascends (f b)) → (s n : ℕ) → InTurn (bind (count s n) (λ b. map (place_of b) (f b)))
blocks_turn f h s zero = tt
blocks_turn f h s (suc n) = turn_append (map (place_of s) (f s)) (bind (count (suc s) n) (λ b. map (place_of b) (f b))) (map_turn s (f s) (h s)) (blocks_turn f h (suc s) n) later
  where
    later : (p q : Place) → Memᴰ p (map (place_of s) (f s)) → Memᴰ q (bind (count (suc s) n) (λ b. map (place_of b) (f b))) → NoLater p q
    later p q m k =
        let x = mathlib.Core.List.Memᴰ.of_map (place_of s) (f s) m in
        let y = bind_out (λ (b : ℕ). map (place_of b) (f b)) (count (suc s) n) k in
        let z = mathlib.Core.List.Memᴰ.of_map (place_of y.0) (f y.0) y.2 in
        inl (omega (arith, ap (λ (i : Place). i.block) x.2, ap (λ (i : Place). i.block) z.2, mem_count y.0 (suc s) n y.1))

-- the first that a test keeps comes before all others that pass it
pub keep_first : (f : Place → Bool) (ps : List Place) → InTurn ps → (x : Place) (xs : List Place) → keep f ps ≡ x ∷ xs → (q : Place) → Memᴰ q ps → f q ≡ true → NoLater x q
keep_first f [] h x xs e q m t = absurd (mathlib.Core.List.Memᴰ.not-nil m)
keep_first f (p ∷ ps) h x xs e q m t = go (f p) refl e m (keep_first f ps h.1)
  where
    same : x ≡ p → (q : Place) → (q ≡ p) ⊎ Memᴰ q ps → NoLater x q
    same d q (inl k) = inr (ap (λ (i : Place). i.block) (d ∙ sym k), omega (arith, ap (λ (i : Place). i.op) (d ∙ sym k)))
    same d q (inr k) = rw d (h.0 q k)

    either : Memᴰ q (p ∷ ps) → (q ≡ p) ⊎ Memᴰ q ps
    either (mathlib.Core.List.Memᴰ.head k) = inl k
    either (mathlib.Core.List.Memᴰ.tail k) = inr k

    go : (u : Bool) → f p ≡ u → cond u (p ∷ keep f ps) (keep f ps) ≡ x ∷ xs → Memᴰ q (p ∷ ps)
        → ((x : Place) (xs : List Place) → keep f ps ≡ x ∷ xs → (q : Place) → Memᴰ q ps → f q ≡ true → NoLater x q) → NoLater x q
    go true d e m r = let i : x ≡ p = cc in same i q (either m)
    go false d e (mathlib.Core.List.Memᴰ.head k) r = none (f q) t (ap f k ∙ d)
    go false d e (mathlib.Core.List.Memᴰ.tail k) r = r x xs e q k t

module _ (w : List ℕ) where
  pub places_out : (p : Place) → Memᴰ p (places w) → (p.block < blocks w) × (p.op ∈ ops w p.block)
  places_out p m =
      let r = bind_out (λ (b : ℕ). map (place_of b) (ops w b)) (upto (blocks w)) m in
      let k = mathlib.Core.List.Memᴰ.of_map (place_of r.0) (ops w r.0) r.2 in
      let l : r.0 < blocks w = mem_upto r.0 (blocks w) r.1 in
      subst (λ (q : Place). (q.block < blocks w) × (q.op ∈ ops w q.block)) k.2 (l, k.1)

  pub places_in : (b o : ℕ) → b < blocks w → o ∈ ops w b → Memᴰ (place_of b o) (places w)
  places_in b o l m = bind_mem (λ (b : ℕ). map (place_of b) (ops w b)) (upto_mem b (blocks w) l) (mathlib.Core.List.Memᴰ.map (place_of b) m)

  -- ---- open

  pub open_rule : WellFormed w → OpenRule w
  open_rule good = record {
    exact = λ b o a. (out b o a, back b o a);
    unvisited = λ b o n. no_members (open_at w b o) (λ a m. nothing b o a n (out b o a m));
    by_number = λ b o. ascends_places (open_at w b o) (keep_ascends (is_open w b o) (upto (length (allocs w))) (count_ascends 0 (length (allocs w))));
  }
    where
      out : (b o a : ℕ) → a ∈ open_at w b o → Open w b o a
      out b o a m =
          let k = keep_out (is_open w b o) (upto (length (allocs w))) m in
          record {
            below = mem_upto a (length (allocs w)) k.0;
            unmarked = not-true (marked w a) (and_true_left (not (marked w a)) (lies b o (merged w a)) k.1);
            over = covered_lies b o (merged w a) (and_true_right (not (marked w a)) (lies b o (merged w a)) k.1);
          }

      back : (b o a : ℕ) → Open w b o a → a ∈ open_at w b o
      back b o a h =
          keep_mem (is_open w b o) (upto_mem a (length (allocs w)) h.below)
          (both_true (not (marked w a)) (lies b o (merged w a)) (ap not h.unmarked) (lies_covered h.over))

      nothing : (b o a : ℕ) → ¬ Visited w (block b) → Open w b o a → ⊥
      nothing b o a n h = let x = merged_out w a h.unmarked h.over in n ((blocks_visited w good b).0 (local_out w x.0 x.2).0)

  -- ---- crossing

  pub common_test : {a c b o : ℕ} → Common w a c b o → is_common (merged w a) (merged w c) (place_of b o) ≡ true
  common_test {a} {c} {b} {o} h = both_true (lies b o (merged w a)) (lies b o (merged w c)) (lies_covered h.in_one) (lies_covered h.in_other)

  pub test_common : (a c : ℕ) (p : Place) → Memᴰ p (places w) → is_common (merged w a) (merged w c) p ≡ true → Common w a c p.block p.op
  test_common a c p m t =
      let k = places_out p m in
      record {
        block_known = k.0;
        held = k.1;
        in_one = covered_lies p.block p.op (merged w a) (and_true_left (lies p.block p.op (merged w a)) (lies p.block p.op (merged w c)) t);
        in_other = covered_lies p.block p.op (merged w c) (and_true_right (lies p.block p.op (merged w a)) (lies p.block p.op (merged w c)) t);
      }

  pub common_kept : {a c b o : ℕ} → Common w a c b o → Memᴰ (place_of b o) (keep (is_common (merged w a) (merged w c)) (places w))
  common_kept {a} {c} {b} {o} h = keep_mem (is_common (merged w a) (merged w c)) (places_in b o h.block_known h.held) (common_test h)

  tells_first : (a c : ℕ) → marked w a ≡ false → marked w c ≡ false → (ps : List Place) → keep (is_common (merged w a) (merged w c)) (places w) ≡ ps → Tells w a c (first_of ps)
  tells_first a c u v [] e = apart u v (λ b o h. mathlib.Core.List.Memᴰ.not-nil (rw e at (common_kept h)))
  tells_first a c u v (p ∷ ps) e =
      let m : Memᴰ p (keep (is_common (merged w a) (merged w c)) (places w)) = rw e (mathlib.Core.List.Memᴰ.head refl) in
      let k = keep_out (is_common (merged w a) (merged w c)) (places w) m in
      named u v
      (record {
        shared = test_common a c p k.0 k.1;
        none_before = λ d q h. keep_first (is_common (merged w a) (merged w c)) (places w) (blocks_turn (ops w) (ops_ascend w) 0 (blocks w)) p ps e (place_of d q) (places_in d q h.block_known h.held) (common_test h);
      })

  pub told : (a c : ℕ) → Tells w a c (crossing w a c)
  told a c = go (marked w a || marked w c) refl
    where
      go : (t : Bool) → (marked w a || marked w c) ≡ t → Tells w a c (cond t (1 ∷ 0 ∷ 0 ∷ []) (first_of (keep (is_common (merged w a) (merged w c)) (places w))))
      go true e = unnamed (or_cases (marked w a) (marked w c) e)
      go false e = tells_first a c (or_false_left (marked w a) (marked w c) e) (or_false_right (marked w a) (marked w c) e) (keep (is_common (merged w a) (merged w c)) (places w)) refl

  tells_crosses : {a c : ℕ} {xs : List ℕ} → Tells w a c xs → (get_or xs 0 0 ≡ 1) ↔ Crosses w a c
  tells_crosses {a} {c} (unnamed (inl u)) = (λ e. one_marked u, λ h. refl)
  tells_crosses {a} {c} (unnamed (inr u)) = (λ e. other_marked u, λ h. refl)
  tells_crosses {a} {c} (named u v k) = (λ e. meeting k.shared, λ h. refl)
  tells_crosses {a} {c} (apart u v f) = (λ e. absurd (omega arith), λ h. absurd (never h))
    where
      never : Crosses w a c → ⊥
      never (one_marked t) = none (marked w a) t u
      never (other_marked t) = none (marked w c) t v
      never (meeting {b} {o} k) = f b o k

  pub crossing_rule : CrossingRule w
  crossing_rule = record { told = told; exact = λ a c. tells_crosses (told a c); symmetric = swap }
    where
      swap : (a c : ℕ) → crossing w a c ≡ crossing w c a
      swap a c =
          rw (or_comm (marked w a) (marked w c), keep_alike (is_common (merged w a) (merged w c)) (is_common (merged w c) (merged w a)) (places w) (λ p m. and_comm (lies p.block p.op (merged w a)) (lies p.block p.op (merged w c))))
