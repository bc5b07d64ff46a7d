-- The order holds exactly what can be reached, each once: `OrderRule w` wherever no record rule is broken.
use mathlib.Core.Path.{◌≡◌, refl, sym, ap, ◌∙◌, subst}
use mathlib.Core.Logic.{◌↔◌, ⊎_elim, ◌⊎◌, inl, inr}
use mathlib.Core.Bool.{Bool, true, false, not}
use Prim.Native.Nat.{ℕ, zero, suc, ◌+◌, ◌≤◌, ◌<◌}
use native.Mathlib.Nat.{le_refl, le_trans}
use native.Mathlib.Omega.{arith}
use mathlib.Core.List.{List, [], ◌∷◌, map, Memᴰ}
use lib.Dec.{eqb}
use borrow.Author.Tests.{eqb-true, eq-eqb}
use Rattle.plank_core.specs.Lists.{bind, keep, mem, distinct, upto, one_if, ◌∈◌, times}
use Rattle.sir_data.specs.Records.{functions, blocks, init_function, main_plus_one, optional, entry_block, ops, successors, callees}
use Rattle.sir_analyses.specs.Order.{Visit, start, visited, functions_rpo, blocks_rpo, is_visited, predecessors}
use Rattle.sir_analyses.specs.Claims.{Item, function, block, Visited, init, main, entry, successor, callee, OrderRule}
use Rattle.plank_core.specs.laws.Lists.{or_cases, bool_or, none, refuted, no_members, map_each, bind_mem, bind_out, keep_mem, keep_out, upto_mem, one_if_most, one_if_some, times_reverse, mem_times, times_mem, times_distinct, split}
use Rattle.sir_data.specs.inner.WellFormed.{InRange, WellFormed}
use Rattle.sir_analyses.proofs.claims.order.OrderLaws.{seen, enter, finish, owner, kids, visit, visits, visits_functions, visit_zero, visit_new, visit_old, left, Grows, grows, all_grow, Ok, kids_each, kids_ok, enter_left, left_none, left_most, order_function, order_block}
use Rattle.sir_analyses.proofs.claims.order.OrderOnce.{spread, done, tally, all_tally, Owned, May, all_owned}
use Rattle.sir_analyses.proofs.claims.order.PredecessorLaws.{predecessor_times, predecessors_ascend}

one_if_open : (n : ℕ) (t : Bool) → n + one_if (not t) ≡ 1 → n ≡ one_if t
one_if_open n true h = omega arith
one_if_open n false h = omega arith

module _ (w : List ℕ) where
  -- ---- what is seen after an item is entered, and after it is finished

  enter_here : (x : Item) (v : Visit) → seen w (enter w x v) x ≡ true
  enter_here (function f) v = rw (eq-eqb f f refl)
  enter_here (block b) v = rw (eq-eqb b b refl)

  -- only the item itself is new
  enter_cases : (x y : Item) (v : Visit) → seen w (enter w x v) y ≡ true → (y ≡ x) ⊎ (seen w v y ≡ true)
  enter_cases (function f) (function g) v h = ⊎_elim (λ e. inl (ap function (eqb-true g f e))) inr (or_cases (eqb g f) (mem g v.seen_functions) h)
  enter_cases (function f) (block b) v h = inr h
  enter_cases (block b) (function f) v h = inr h
  enter_cases (block b) (block c) v h = ⊎_elim (λ e. inl (ap block (eqb-true c b e))) inr (or_cases (eqb c b) (mem c v.seen_blocks) h)

  finish_same : (o : ℕ) (x y : Item) (v : Visit) → seen w (finish w o x v) y ≡ seen w v y
  finish_same o (function f) (function g) v = refl
  finish_same o (function f) (block c) v = refl
  finish_same o (block b) (function g) v = refl
  finish_same o (block b) (block c) v = refl

  -- ---- only what is reached is seen

  kids_visited : (x : Item) → Visited w x → (y : Item) → Memᴰ y (kids w x) → Visited w y
  kids_visited (function f) p y m = subst (Visited w) (sym (mathlib.Core.List.Memᴰ.eq_of_singleton m)) (entry p)
  kids_visited (block b) p y m = kids_each w (Visited w) b (λ o g i k. callee p i k) (λ s k. successor p k) y m

  abbrev Sound : Visit → Type 0
  Sound v = (y : Item) → seen w v y ≡ true → Visited w y

  visits_sound : (n o : ℕ) → ((x : Item) (v : Visit) → Visited w x → Sound v → Sound (visit w n o x v))
      → (xs : List (Item)) → ((y : Item) → Memᴰ y xs → Visited w y) → (v : Visit) → Sound v → Sound (visits w n o xs v)
  visits_sound n o h [] p v s = s
  visits_sound n o h (x ∷ xs) p v s = visits_sound n o h xs (λ y m. p y (mathlib.Core.List.Memᴰ.tail m)) (visit w n o x v) (h x v (p x (mathlib.Core.List.Memᴰ.head refl)) s)

  sound : (n o : ℕ) (x : Item) (v : Visit) → Visited w x → Sound v → Sound (visit w n o x v)
  sound zero o x v p s = rw (visit_zero w o x v) s
  sound (suc n) o x v p s =
      ⊎_elim
      (λ (h : seen w v x ≡ true). rw (visit_old w (suc n) o x v h) s)
      (λ (h : seen w v x ≡ false). rw (visit_new w n o x v h) (λ y k.
      visits_sound n (owner w o x) (sound n (owner w o x)) (kids w x) (kids_visited x p) (enter w x v)
      (λ z e. ⊎_elim (λ (q : z ≡ x). subst (Visited w) (sym q) p) (s z) (enter_cases x z v e))
      y (sym (finish_same o x y _) ∙ k)))
      (bool_or (seen w v x))

  -- ---- all that is reached is seen

  module _ (h : InRange w) where
    -- what is new in v since u leads to what is seen in v
    abbrev Closed : Visit → Visit → Type 0
    Closed u v = (x y : Item) → seen w u x ≡ false → seen w v x ≡ true → Memᴰ y (kids w x) → seen w v y ≡ true

    visits_closed : (k o : ℕ) → ((x : Item) (v : Visit) → Ok w x → left w v ≤ k → (seen w (visit w k o x v) x ≡ true) × Closed v (visit w k o x v))
        → (xs : List (Item)) → ((y : Item) → Memᴰ y xs → Ok w y) → (v : Visit) → left w v ≤ k
        → ((y : Item) → Memᴰ y xs → seen w (visits w k o xs v) y ≡ true) × Closed v (visits w k o xs v)
    visits_closed k o e [] ok v l = ((λ y m. absurd (mathlib.Core.List.Memᴰ.not-nil m)), λ x y p q m. none (seen w v x) q p)
    visits_closed k o e (x ∷ xs) ok v l =
        let u : Visit = visit w k o x v in
        let one = e x v (ok x (mathlib.Core.List.Memᴰ.head refl)) l in
        let rest = visits_closed k o e xs (λ y m. ok y (mathlib.Core.List.Memᴰ.tail m)) u (le_trans (grows w k o x v).down l) in
        let stays : (y : Item) → seen w u y ≡ true → seen w (visits w k o xs u) y ≡ true = (all_grow w k o xs u).stays in (
          (λ y m. ⊎_elim (λ (q : y ≡ x). stays y (ap (seen w u) q ∙ one.0)) (rest.0 y) (mathlib.Core.List.Memᴰ.cases_cons m)),
          (λ z y p q m. ⊎_elim
              (λ (t : seen w u z ≡ true). stays y (one.1 z y p t m))
              (λ (t : seen w u z ≡ false). rest.1 z y t q m)
              (bool_or (seen w u z))),
        )

    -- u is what the visits of x's kids leave
    closed_new : (o : ℕ) (x : Item) (v u : Visit) → Grows w (enter w x v) u → ((y : Item) → Memᴰ y (kids w x) → seen w u y ≡ true)
        → Closed (enter w x v) u → (seen w (finish w o x u) x ≡ true) × Closed v (finish w o x u)
    closed_new o x v u g k c = (
      finish_same o x x u ∙ g.stays x (enter_here x v),
      (λ z y p q m. finish_same o x y u ∙ ⊎_elim
          (λ (t : seen w (enter w x v) z ≡ true). ⊎_elim
          (λ (e : z ≡ x). k y (subst (λ (a : Item). Memᴰ y (kids w a)) e m))
          (λ (t' : seen w v z ≡ true). none (seen w v z) t' p)
          (enter_cases x z v t))
          (λ (t : seen w (enter w x v) z ≡ false). c z y t (sym (finish_same o x z u) ∙ q) m)
          (bool_or (seen w (enter w x v) z))),
    )

    -- with fuel for what is left, a visit marks its item, and what it marks is closed
    closed : (k o : ℕ) (x : Item) (v : Visit) → Ok w x → left w v ≤ k → (seen w (visit w k o x v) x ≡ true) × Closed v (visit w k o x v)
    closed zero o x v ok l = rw (visit_zero w o x v) (left_none w x v ok l, λ z y p q m. none (seen w v z) q p)
    closed (suc k) o x v ok l =
        ⊎_elim
        (λ (e : seen w v x ≡ true). rw (visit_old w (suc k) o x v e) (e, λ z y p q m. none (seen w v z) q p))
        (λ (e : seen w v x ≡ false). rw (visit_new w k o x v e)
        (let r = visits_closed k (owner w o x) (closed k (owner w o x)) (kids w x) (kids_ok w h x ok) (enter w x v) (omega (arith, enter_left w x v ok e)) in
        closed_new o x v _ (all_grow w k (owner w o x) (kids w x) (enter w x v)) r.0 r.1))
        (bool_or (seen w v x))

  -- ---- the whole order

  abbrev pub roots : List ℕ
  roots = init_function w ∷ optional (main_plus_one w)

  pub whole : visited w ≡ visits w (functions w + blocks w) 0 (map function roots) start
  whole = visits_functions w (functions w + blocks w) 0 roots start

  nothing : (x : Item) → seen w start x ≡ false
  nothing (function f) = refl
  nothing (block b) = refl

  optional_root : (k m : ℕ) → Memᴰ m (optional k) → k ≡ suc m
  optional_root zero m i = absurd (mathlib.Core.List.Memᴰ.not-nil i)
  optional_root (suc k) m i = ap suc (sym (mathlib.Core.List.Memᴰ.eq_of_singleton i))

  roots_visited : (y : Item) → Memᴰ y (map function roots) → Visited w y
  roots_visited = map_each (Visited w) function roots (λ f m.
      ⊎_elim
      (λ (e : f ≡ init_function w). subst (λ (n : ℕ). Visited w (function n)) (sym e) init)
      (λ (t : Memᴰ f (optional (main_plus_one w))). main (optional_root (main_plus_one w) f t))
      (mathlib.Core.List.Memᴰ.cases_cons m))

  pub seen_visited : (x : Item) → seen w (visited w) x ≡ true → Visited w x
  seen_visited x h =
      visits_sound (functions w + blocks w) 0 (sound (functions w + blocks w) 0) (map function roots) roots_visited start
      (λ y k. none (seen w start y) k (nothing y)) x (ap (λ (v : Visit). seen w v x) (sym whole) ∙ h)

  module _ (h : InRange w) where
    pub visited_ok : {x : Item} → Visited w x → Ok w x
    visited_ok init = h.init
    visited_ok (main {m = m} e) = h.main m e
    visited_ok (entry {f = f} p) = h.entry f (visited_ok p)
    visited_ok (successor {b = b} {s = s} p m) = h.successor b s (visited_ok p) m
    visited_ok (callee {b = b} {o = o} {f = f} p i m) = h.callee o f (h.op b o (visited_ok p) i) m

    all_closed : ((y : Item) → Memᴰ y (map function roots) → seen w (visited w) y ≡ true) × Closed h start (visited w)
    all_closed =
        rw whole (visits_closed h (functions w + blocks w) 0 (closed h (functions w + blocks w) 0) (map function roots) (λ y m. visited_ok (roots_visited y m)) start (left_most w start))

    pub visited_seen : {x : Item} → Visited w x → seen w (visited w) x ≡ true
    visited_seen init = all_closed.0 (function (init_function w)) (mathlib.Core.List.Memᴰ.head refl)
    visited_seen (main {m = m} e) =
        let i : Memᴰ m (optional (main_plus_one w)) = rw e (mathlib.Core.List.Memᴰ.head refl) in
        all_closed.0 (function m) (mathlib.Core.List.Memᴰ.tail (mathlib.Core.List.Memᴰ.map function i))
    visited_seen (entry {f = f} p) = all_closed.1 (function f) (block (entry_block w f)) refl (visited_seen p) (mathlib.Core.List.Memᴰ.head refl)
    visited_seen (successor {b = b} {s = s} p m) =
        all_closed.1 (block b) (block s) refl (visited_seen p) (mathlib.Core.List.Memᴰ.append_right (map function (bind (ops w b) (callees w))) (mathlib.Core.List.Memᴰ.map block m))
    visited_seen (callee {b = b} {o = o} {f = f} p i m) =
        all_closed.1 (block b) (function f) refl (visited_seen p) (mathlib.Core.List.Memᴰ.append_left (map block (successors w b)) (mathlib.Core.List.Memᴰ.map function (bind_mem (callees w) i m)))

  -- ---- each once

  start_tally : (x : Item) → tally w start x ≡ 1
  start_tally (function f) = refl
  start_tally (block b) = refl

  -- an item is finished once if it is seen, and never if not
  pub finished_once : (x : Item) → done w (visited w) x ≡ one_if (seen w (visited w) x)
  finished_once x =
      one_if_open (done w (visited w) x) (seen w (visited w) x) (ap (λ (v : Visit). tally w v x) whole ∙ all_tally w (functions w + blocks w) 0 x (map function roots) start ∙ start_tally x)

  finished_owned : Owned w (visited w)
  finished_owned =
      rw whole (all_owned w (functions w + blocks w) 0 (map function roots) start (map_each (May w start 0) function roots (λ f m. tt)) (λ p m. absurd (mathlib.Core.List.Memᴰ.not-nil m)))

  pub functions_times : (f : ℕ) → times f (functions_rpo w) ≡ one_if (seen w (visited w) (function f))
  functions_times f = times_reverse f (visited w).finished_functions ∙ finished_once (function f)

  pub blocks_times : (b : ℕ) → times b (blocks_rpo w) ≡ one_if (is_visited w b)
  blocks_times b =
      spread b (visited w).finished (functions_rpo w) (λ p m. functions_times p.0 ∙ ap one_if (finished_owned p m))
      ∙ finished_once (block b)

  pub functions_seen : (f : ℕ) → f ∈ functions_rpo w ↔ (seen w (visited w) (function f) ≡ true)
  functions_seen f = (
    (λ m. one_if_some (seen w (visited w) (function f)) (rw (functions_times f) at (mem_times f m))),
    (λ h. times_mem f (functions_rpo w) (rw (functions_times f, h) (le_refl 1))),
  )

  pub blocks_seen : (b : ℕ) → b ∈ blocks_rpo w ↔ (is_visited w b ≡ true)
  blocks_seen b = (
    (λ m. one_if_some (is_visited w b) (rw (blocks_times b) at (mem_times b m))),
    (λ h. times_mem b (blocks_rpo w) (rw (blocks_times b, h) (le_refl 1))),
  )

  pub blocks_distinct : distinct (blocks_rpo w) ≡ true
  blocks_distinct = times_distinct (blocks_rpo w) (λ b. rw (blocks_times b) (one_if_most (is_visited w b)))

  pub functions_distinct : distinct (functions_rpo w) ≡ true
  functions_distinct = times_distinct (functions_rpo w) (λ f. rw (functions_times f) (one_if_most (seen w (visited w) (function f))))

  -- ---- predecessors

  -- the visited blocks that have b among their successors
  pub predecessors_in : (p b : ℕ) → is_visited w p ≡ true → p < blocks w → b ∈ successors w p → p ∈ predecessors w b
  predecessors_in p b t h m =
      bind_mem (λ q. map (λ s. q) (keep (λ s. eqb s b) (successors w q))) (keep_mem (is_visited w) (upto_mem p (blocks w) h) t)
      (mathlib.Core.List.Memᴰ.map (λ (s : ℕ). p) (keep_mem (λ s. eqb s b) m (eq-eqb b b refl)))

  pub predecessors_out : (p b : ℕ) → p ∈ predecessors w b → (is_visited w p ≡ true) × (b ∈ successors w p)
  predecessors_out p b m =
      let r = bind_out (λ q. map (λ s. q) (keep (λ s. eqb s b) (successors w q))) (keep (is_visited w) (upto (blocks w))) m in
      let i = mathlib.Core.List.Memᴰ.of_map (λ (s : ℕ). r.0) (keep (λ s. eqb s b) (successors w r.0)) r.2 in
      let k = keep_out (λ (s : ℕ). eqb s b) (successors w r.0) i.1 in
      let v = keep_out (is_visited w) (upto (blocks w)) r.1 in (
        ap (is_visited w) (sym i.2) ∙ v.1,
        subst (λ (x : ℕ). b ∈ successors w x) i.2 (mathlib.Core.List.Memᴰ.cast (sym (eqb-true i.0 b k.1)) k.0),
      )

  -- ---- blocks that are not visited

  pub not_visited : (b : ℕ) → ¬ Visited w (block b) → is_visited w b ≡ false
  not_visited b n = refuted (is_visited w b) (λ t. n (seen_visited (block b) t))

  alone : (b : ℕ) → ¬ Visited w (block b) → predecessors w b ≡ []
  alone b n = no_members (predecessors w b) (λ p m. let r = predecessors_out p b m in n (successor (seen_visited (block p) r.0) r.1))

-- ---- the claim

not_among : (p : ℕ) (xs : List ℕ) → ¬ (p ∈ xs) → times p xs ≡ 0
not_among p xs n = ⊎_elim (λ (l : 0 < times p xs). absurd (n (times_mem p xs l))) (λ (l : times p xs ≤ 0). omega arith) (split 0 (times p xs))

module _ (w : List ℕ) (good : WellFormed w) where
  pub blocks_visited : (b : ℕ) → b ∈ blocks_rpo w ↔ Visited w (block b)
  blocks_visited b = ((λ m. seen_visited w (block b) ((blocks_seen w b).0 m)), (λ p. (blocks_seen w b).1 (visited_seen w good.in_range p)))

  pub functions_visited : (f : ℕ) → f ∈ functions_rpo w ↔ Visited w (function f)
  functions_visited f = ((λ m. seen_visited w (function f) ((functions_seen w f).0 m)), (λ p. (functions_seen w f).1 (visited_seen w good.in_range p)))

  pub blocks_below : (b : ℕ) → b ∈ blocks_rpo w → b < blocks w
  blocks_below b m = visited_ok w good.in_range ((blocks_visited b).0 m)

  pub functions_below : (f : ℕ) → f ∈ functions_rpo w → f < functions w
  functions_below f m = visited_ok w good.in_range ((functions_visited f).0 m)

  -- where a listed function begins and what follows a listed block is listed
  pub entry_listed : {f : ℕ} → f ∈ functions_rpo w → entry_block w f ∈ blocks_rpo w
  entry_listed {f} m = (blocks_visited (entry_block w f)).1 (entry ((functions_visited f).0 m))

  pub next_listed : {b s : ℕ} → b ∈ blocks_rpo w → s ∈ successors w b → s ∈ blocks_rpo w
  next_listed {b} {s} m n = (blocks_visited s).1 (successor ((blocks_visited b).0 m) n)

  pub order_rule : OrderRule w
  order_rule = record {
    blocks_exact = blocks_visited;
    functions_exact = functions_visited;
    blocks_once = blocks_distinct w;
    functions_once = functions_distinct w;
    visit_function_fact = order_function w good.in_range;
    visit_block_fact = order_block w good.in_range;
    edges_exact = λ p b v. predecessor_times w p b (visited_seen w good.in_range v) (visited_ok w good.in_range v);
    edges_only = λ p b n. not_among p (predecessors w b) (λ m. n (seen_visited w (block p) (predecessors_out w p b m).0));
    edges_ascending = predecessors_ascend w;
    unvisited = alone w;
  }
