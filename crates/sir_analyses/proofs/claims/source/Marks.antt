-- The source's marks are those of the rule. What is said of a step, of the start and of the end holds whatever harms, and for every machine
-- that follows locals with a work list; only `drain` and `propagate` are the source's own.
use mathlib.Core.Path.{◌≡◌, refl, sym, ◌∙◌, ap, subst}
use mathlib.Core.Logic.{◌⊎◌, inl, inr, ◌↔◌}
use mathlib.Core.Bool.{Bool, true, false, ◌||◌}
use Prim.Native.Nat.{ℕ, zero, suc, ◌+◌, ◌≤◌, ◌<◌}
use native.Mathlib.Omega.{arith}
use mathlib.Core.List.Memᴰ
use mathlib.Core.List.{List, [], ◌∷◌, ◌++◌, map, Memᴰ}
use lib.ListN.{length, get_or, replicate, length-map, length-replicate, get_or-map}
use lib.Dec.{eqb}
use borrow.Author.Tests.{eqb-true, eq-eqb, not-false}
use Rattle.plank_core.specs.Lists.{foldl, bind, any, upto, count, distinct, ◌∈◌}
use Rattle.plank_core.specs.laws.Lists.{or_true_left, or_true_right, or_cases, none, same_tests, any_mem, bind_out, bind_mem, upto_mem, mem_upto, length_none, zero_at, distinct_places}
use Rattle.sir_data.specs.Records.{locals}
use Rattle.sir_data.specs.inner.WellFormed.{WellFormed}
use Rattle.sir_analyses.specs.Liveness.{Use, uses, Set, has}
use Rattle.sir_analyses.specs.Allocation.{allocs, no_alloc, alloc_at, base, rule12, carried, next, escapes_at, returned_at, escapes, is_returned, reach, marked, bases}
use Rattle.sir_analyses.specs.inner.Discovery.{zeros}
use Rattle.sir_analyses.specs.Propagation.{State, link_local, start}
use Rattle.sir_analyses.specs.Source.{follow_use, pop, drain, propagate, source_after, source_state, source_marked}
use Rattle.sir_analyses.specs.Claims.{Reached, itself, linked, Marked, escaped, returned, met as met-other}
use Rattle.sir_analyses.proofs.SetLaws.{none_in, add_in}
use Rattle.sir_analyses.proofs.claims.marks.Marks.{next_less, base_less, mark_rule}
use Rattle.sir_analyses.proofs.claims.source.Discovery.{after_same}
use Rattle.sir_analyses.proofs.claims.source.Steps.{follow, marks_at, follow_use_lem, zeros_most, bases_out, bases_in, Meets, same, each, Joined, meets_trans, joined_grow, base_of, start_length, MarkedBy, harmed, met, Done, Inv, Grown, grown_trans, grown_refl, remark, fold_step}
use Rattle.plank_core.specs.laws.Folds.{any_or}

-- one that is not marked meets only itself
alone : {marks : Set} {c d : ℕ} → Meets marks c d → has marks d ≡ false → c ≡ d
alone (same e) h = e
alone {marks} {d = d} (each p q) h = none (has marks d) q h

alone_first : {marks : Set} {c d : ℕ} → Meets marks c d → has marks c ≡ false → c ≡ d
alone_first (same e) h = e
alone_first {marks} {c} (each p q) h = none (has marks c) p h

-- `harms` tells which locals mark whoever reaches them
module _ (w : List ℕ) (harms : ℕ → Bool) where
  -- from I to s' the locals xs were joined to a; where harm is true a is marked
  pub record Step {a : ℕ} {s : State} {more : List ℕ} (I : Inv w harms a s more) (xs : List ℕ) (harm : Bool) (s' : State) : Type 0 where
    pub grown : Grown w harms I s'
    pub joins : (y : ℕ) → y ∈ xs → Joined grown.inv.root s'.marks a y
    pub marks : harm ≡ true → has s'.marks a ≡ true

  step_nil : {a : ℕ} {s : State} {more : List ℕ} (I : Inv w harms a s more) → Step I [] false s
  step_nil I = record { grown = grown_refl w harms I; joins = λ y m. absurd (Memᴰ.not-nil m); marks = λ t. none false t refl }

  step_trans : {a : ℕ} {s s' s'' : State} {more : List ℕ} {I : Inv w harms a s more} (xs ys : List ℕ) (p q : Bool) (P : Step I xs p s') → Step P.grown.inv ys q s'' → Step I (xs ++ ys) (p || q) s''
  step_trans {a} {s'' = s''} xs ys p q P Q = record { grown = grown_trans w harms P.grown Q.grown; joins = λ y m. go y (Memᴰ.append_cases xs m); marks = λ t. marking (or_cases p q t) }
    where
      go : (y : ℕ) → (y ∈ xs) ⊎ (y ∈ ys) → Joined Q.grown.inv.root s''.marks a y
      go y (inl m) = joined_grow Q.grown.roots Q.grown.marked_still (P.joins y m)
      go y (inr m) = Q.joins y m

      marking : (p ≡ true) ⊎ (q ≡ true) → has s''.marks a ≡ true
      marking (inl t) = Q.grown.marked_still a (P.marks t)
      marking (inr t) = Q.marks t

  -- ---- the work list

  -- the latest local is taken from it
  abbrev pub popped : {a l : ℕ} {s : State} {more vs : List ℕ} → Inv w harms a s more → s.work ≡ l ∷ vs → Inv w harms a (record { owner = s.owner; marks = s.marks; work = vs }) (l ∷ more)
  popped {a} {l} {s} {more} {vs} I e = record {
    root = I.root;
    owner_length = I.owner_length;
    marks_length = I.marks_length;
    unowned = I.unowned;
    owned = I.owned;
    bases_kept = I.bases_kept;
    done = λ x d q. pending x d (I.done x d q);
    sound = I.sound;
    mine = λ x m. I.mine x (rw e (Memᴰ.tail m));
  }
    where
      split_work : (x d : ℕ) → x ∈ (l ∷ vs) → (x ∈ vs) ⊎ ((x ∈ (l ∷ more)) ⊎ Done w harms I.root s.marks x d)
      split_work x d (Memᴰ.head k) = inr (inl (Memᴰ.head k))
      split_work x d (Memᴰ.tail k) = inl k

      pending : (x d : ℕ) → (x ∈ s.work) ⊎ ((x ∈ more) ⊎ Done w harms I.root s.marks x d) → (x ∈ vs) ⊎ ((x ∈ (l ∷ more)) ⊎ Done w harms I.root s.marks x d)
      pending x d (inl h) = split_work x d (rw e at h)
      pending x d (inr (inl h)) = inr (inl (Memᴰ.tail h))
      pending x d (inr (inr h)) = inr (inr h)

  finish : {a l : ℕ} {s : State} {more : List ℕ} (I : Inv w harms a s (l ∷ more)) → I.root l ≡ suc a → Done w harms I.root s.marks l a → Inv w harms a s more
  finish {a} {l} {s} {more} I e D = record {
    root = I.root;
    owner_length = I.owner_length;
    marks_length = I.marks_length;
    unowned = I.unowned;
    owned = I.owned;
    bases_kept = I.bases_kept;
    done = λ x d q. pending x d q (I.done x d q);
    sound = I.sound;
    mine = I.mine;
  }
    where
      pending : (x d : ℕ) → I.root x ≡ suc d → (x ∈ s.work) ⊎ ((x ∈ (l ∷ more)) ⊎ Done w harms I.root s.marks x d) → (x ∈ s.work) ⊎ ((x ∈ more) ⊎ Done w harms I.root s.marks x d)
      pending x d q (inl h) = inl h
      pending x d q (inr (inl (Memᴰ.head k))) =
          let z : I.root l ≡ suc d = rw k at q in
          let y : d ≡ a = omega arith in
          inr (inr (rw (k, y) D))
      pending x d q (inr (inl (Memᴰ.tail h))) = inr (inl h)
      pending x d q (inr (inr h)) = inr (inr h)

  -- a local that is followed to its end is done
  pub followed : {a l : ℕ} {s s' : State} {more vs xs : List ℕ} {harm : Bool} (I : Inv w harms a s more) (e : s.work ≡ l ∷ vs) → Step (popped I e) xs harm s'
      → ((y : ℕ) → y ∈ next w l → y ∈ xs) → harm ≡ harms l → Inv w harms a s' more
  followed {a} {l} I e S f h = finish S.grown.inv (S.grown.roots l a (I.mine l (rw e (Memᴰ.head refl))).0) (record { links = λ y m. S.joins y (f y m); marks_it = λ t. S.marks (h ∙ t) })

  -- the next allocation begins with its base
  pub begun : {b : ℕ} {s : State} {more : List ℕ} (a : ℕ) → Inv w harms b s (base_of w a ∷ more) → s.work ≡ [] → a < length (allocs w) → Inv w harms a (record { owner = s.owner; marks = s.marks; work = base_of w a ∷ [] }) more
  begun {b} {s} {more} a I e less = record {
    root = I.root;
    owner_length = I.owner_length;
    marks_length = I.marks_length;
    unowned = I.unowned;
    owned = I.owned;
    bases_kept = I.bases_kept;
    done = λ x d q. pending x d (I.done x d q);
    sound = I.sound;
    mine = λ x m. own x (Memᴰ.eq_of_singleton m);
  }
    where
      later : (x d : ℕ) → x ∈ (base_of w a ∷ more) → (x ∈ (base_of w a ∷ [])) ⊎ ((x ∈ more) ⊎ Done w harms I.root s.marks x d)
      later x d (Memᴰ.head k) = inl (Memᴰ.head k)
      later x d (Memᴰ.tail k) = inr (inl k)

      pending : (x d : ℕ) → (x ∈ s.work) ⊎ ((x ∈ (base_of w a ∷ more)) ⊎ Done w harms I.root s.marks x d) → (x ∈ (base_of w a ∷ [])) ⊎ ((x ∈ more) ⊎ Done w harms I.root s.marks x d)
      pending x d (inl h) = absurd (Memᴰ.not-nil {a = x} (rw e at h))
      pending x d (inr (inl h)) = later x d h
      pending x d (inr (inr h)) = inr (inr h)

      own : (x : ℕ) → x ≡ base_of w a → (I.root x ≡ suc a) × Reached w a x
      own x k = (rw k (I.bases_kept a less), itself k)

-- ---- the owners at first

-- what has an owner is its base
pub base_owned : (w : List ℕ) (x c : ℕ) → get_or (bases w) x 0 ≡ suc c → (c < length (allocs w)) × (x ≡ base_of w c)
base_owned w x c e = go (bases_out (base_of w) x c (replicate (locals w) 0) (upto (length (allocs w))) e)
  where
    go : (get_or (replicate (locals w) 0) x 0 ≡ suc c) ⊎ ((c ∈ upto (length (allocs w))) × (x ≡ base_of w c)) → (c < length (allocs w)) × (x ≡ base_of w c)
    go (inl h) = absurd (let z : suc c ≡ 0 = sym h ∙ zero_at (locals w) x in omega arith)
    go (inr h) = (mem_upto c (length (allocs w)) h.0, h.1)

pub base_once : (w : List ℕ) → rule12 w ≡ false → (i j : ℕ) → i < length (allocs w) → j < length (allocs w) → base_of w i ≡ base_of w j → i ≡ j
base_once w twelve i j h k e =
    let xs = map (base w) (allocs w) in
    let t : distinct xs ≡ true = not-false (distinct xs) twelve in
    let l : length xs ≡ length (allocs w) = length-map (allocs w) (base w) in
    distinct_places xs i j (base w no_alloc) t (rw l h) (rw l k) (get_or-map (base w) (allocs w) i no_alloc ∙ e ∙ sym (get_or-map (base w) (allocs w) j no_alloc))

pub owns_base : (w : List ℕ) → WellFormed w → rule12 w ≡ false → (k : ℕ) → k < length (allocs w) → get_or (bases w) (base_of w k) 0 ≡ suc k
owns_base w good twelve k h =
    bases_in (base_of w) (replicate (locals w) 0) (upto_mem k (length (allocs w)) h) (λ j m e. base_once w twelve j k (mem_upto j (length (allocs w)) m) h e) (rw length-replicate (base_less w good k h))

module _ (w : List ℕ) (good : WellFormed w) (harms : ℕ → Bool) where
  -- ---- one step

  -- some of what l carries is linked, and a mark is made only where l harms
  pub follow_step : {a l : ℕ} {s : State} {more : List ℕ} (I : Inv w harms a s more) → a < length (allocs w) → Reached w a l
      → (xs : List ℕ) → ((y : ℕ) → y ∈ xs → y ∈ next w l) → (harm : Bool) → (harm ≡ true → harms l ≡ true) → Step w harms I xs harm (follow xs harm a s)
  follow_step {a} {l} {s} {more} I less r xs f harm h = go harm h
    where
      reached : (y : ℕ) → y ∈ xs → (y < locals w) × Reached w a y
      reached y m = let b = bind_out (carried w) (uses w l) (f y m) in (next_less w good l y (f y m), linked r b.1 b.2)

      after : State
      after = foldl (link_local a) s xs

      step : (G : Grown w harms I after) × ((y : ℕ) → y ∈ xs → Joined G.inv.root after.marks a y)
      step = fold_step w harms xs s I less reached

      go : (t : Bool) → (t ≡ true → harms l ≡ true) → Step w harms I xs t (follow xs t a s)
      go true h =
          let M = remark w harms step.0.inv (a ∷ []) (λ d m. rw (Memᴰ.eq_of_singleton m) (harmed r (h refl))) in
          record {
            grown = grown_trans w harms step.0 M;
            joins = λ y k. joined_grow M.roots M.marked_still (step.1 y k);
            marks = λ t. add_in {v = a} after.marks {vs = a ∷ []} (Memᴰ.head refl) (omega (arith, step.0.inv.marks_length));
          }
      go false h = record { grown = step.0; joins = step.1; marks = λ t. none false t refl }

  -- ---- the start

  pub started : rule12 w ≡ false → Inv w harms 0 (start w) (map (base_of w) (upto (length (allocs w))))
  started twelve = record {
    root = λ x. get_or (bases w) x 0;
    owner_length = start_length w;
    marks_length = length-replicate (length (allocs w)) false;
    unowned = λ x e. e;
    owned = λ x c e. let h = base_owned w x c e in (record { one = c; is_root = e; meets = same refl }, itself h.1, h.0);
    bases_kept = owns_base w good twelve;
    done = λ x d e. let h = base_owned w x d e in inr (inl (Memᴰ.cast h.1 (Memᴰ.map (base_of w) (upto_mem d (length (allocs w)) h.0))));
    sound = λ d t. none (has (replicate (length (allocs w)) false) d) t (none_in (length (allocs w)) d);
    mine = λ x m. absurd (Memᴰ.not-nil m);
  }

  -- ---- the end: nothing is left to be followed

  module _ {last : ℕ} (s : State) (I : Inv w harms last s []) (e : s.work ≡ []) where
    all_done : (x d : ℕ) → I.root x ≡ suc d → Done w harms I.root s.marks x d
    all_done x d q = go (I.done x d q)
      where
        go : (x ∈ s.work) ⊎ ((x ∈ []) ⊎ Done w harms I.root s.marks x d) → Done w harms I.root s.marks x d
        go (inl h) = absurd (Memᴰ.not-nil {a = x} (rw e at h))
        go (inr (inl h)) = absurd (Memᴰ.not-nil h)
        go (inr (inr h)) = h

    reached_joined : {a v : ℕ} → a < length (allocs w) → Reached w a v → Joined I.root s.marks a v
    reached_joined {a} {v} h (itself q) = record { one = a; is_root = rw q (I.bases_kept a h); meets = same refl }
    reached_joined {a} {v} h (linked {u} {x = x} r mx mv) =
        let i = reached_joined h r in
        let j = (all_done u i.one i.is_root).links v (bind_mem (carried w) mx mv) in
        record { one = j.one; is_root = j.is_root; meets = meets_trans j.meets i.meets }

    second_marked : {marks : Set} {c d : ℕ} → Meets marks c d → has marks c ≡ true → has marks d ≡ true
    second_marked (same q) t = rw q at t
    second_marked (each p q) t = q

    first_marked : {marks : Set} {c d : ℕ} → Meets marks c d → ¬ (c ≡ d) → has marks c ≡ true
    first_marked (same q) f = absurd (f q)
    first_marked (each p q) f = p

    harm_marked : {a v : ℕ} → a < length (allocs w) → Reached w a v → harms v ≡ true → has s.marks a ≡ true
    harm_marked {a} {v} h r t =
        let j = reached_joined h r in
        second_marked j.meets ((all_done v j.one j.is_root).marks_it t)

    complete : (a : ℕ) → a < length (allocs w) → MarkedBy w harms a → has s.marks a ≡ true
    complete a h (harmed r t) = harm_marked h r t
    complete a h (met {v} {b} r l n q) = go (reached_joined h r) (reached_joined l q)
      where
        go : Joined I.root s.marks a v → Joined I.root s.marks b v → has s.marks a ≡ true
        go i j = both_ways i.meets (rw z at j.meets)
          where
            z : j.one ≡ i.one
            z = omega (arith, i.is_root, j.is_root)

            both_ways : Meets s.marks i.one a → Meets s.marks i.one b → has s.marks a ≡ true
            both_ways (each p k) y = k
            both_ways (same q) y = rw q at (first_marked y (λ d. n (sym q ∙ d)))

    -- the marks are those of harms and meetings
    pub ended_exact : (a : ℕ) → a < length (allocs w) → (has s.marks a ≡ true) ↔ MarkedBy w harms a
    ended_exact a h = (I.sound a, complete a h)

    -- an allocation that is not marked has what it reaches
    reached_owned : {a v : ℕ} → a < length (allocs w) → has s.marks a ≡ false → Reached w a v → get_or s.owner v 0 ≡ suc a
    reached_owned {a} {v} h free r = go (get_or s.owner v 0) refl
      where
        j : Joined I.root s.marks a v
        j = reached_joined h r

        root : I.root v ≡ suc a
        root = j.is_root ∙ ap suc (alone j.meets free)

        go : (k : ℕ) → get_or s.owner v 0 ≡ k → k ≡ suc a
        go zero q = sym (I.unowned v q) ∙ root
        go (suc c) q =
            let i = (I.owned v c q).0 in
            let z : i.one ≡ a = omega (arith, i.is_root, root) in
            ap suc (sym (alone_first (rw z at i.meets) free))

    pub ended_reach : (a v : ℕ) → a < length (allocs w) → has s.marks a ≡ false → has (reach w (alloc_at w a)) v ≡ eqb (get_or s.owner v 0) (suc a)
    ended_reach a v h free =
        let rule = (mark_rule w good).reach_exact a v h in
        same_tests (has (reach w (alloc_at w a)) v) (eqb (get_or s.owner v 0) (suc a))
        (λ t. eq-eqb (get_or s.owner v 0) (suc a) (reached_owned h free (rule.0 t)))
        (λ t. rule.1 (I.owned v a (eqb-true (get_or s.owner v 0) (suc a) t)).1)

-- ---- the source: escapes and returns harm

-- is v used in an escaping operand, or returned?
abbrev pub harmful : List ℕ → ℕ → Bool
harmful w v = escapes w v || is_returned w v

module _ (w : List ℕ) (good : WellFormed w) where
  -- some use of v marks where v harms
  all_marks : (v : ℕ) → any (marks_at w v) (uses w v) ≡ harmful w v
  all_marks v = any_or (escapes_at w v) (returned_at w) (uses w v)

  by_marked : {a : ℕ} → MarkedBy w (harmful w) a → Marked w a
  by_marked {a} (harmed {v} r t) = go (or_cases (escapes w v) (is_returned w v) t)
    where
      go : (escapes w v ≡ true) ⊎ (is_returned w v ≡ true) → Marked w a
      go (inl h) = escaped r h
      go (inr h) = returned r h
  by_marked (met r l n q) = met-other r l n q

  marked_by : {a : ℕ} → Marked w a → MarkedBy w (harmful w) a
  marked_by (escaped {v} r t) = harmed r (or_true_left (escapes w v) (is_returned w v) t)
  marked_by (returned {v} r t) = harmed r (or_true_right (escapes w v) (is_returned w v) t)
  marked_by (met-other r l n q) = met r l n q

  -- the marks are those of the rule
  ended_marks : {last : ℕ} (s : State) → Inv w (harmful w) last s [] → s.work ≡ [] → (a : ℕ) → a < length (allocs w) → has s.marks a ≡ marked w a
  ended_marks s I e a h =
      let rule = (mark_rule w good).mark_exact a h in
      let exact = ended_exact w good (harmful w) s I e a h in
      same_tests (has s.marks a) (marked w a) (λ t. rule.1 (by_marked (exact.0 t))) (λ t. exact.1 (marked_by (rule.0 t)))

  uses_step : {a l : ℕ} {more : List ℕ} (xs : List Use) (s : State) (I : Inv w (harmful w) a s more) → a < length (allocs w) → Reached w a l → ((x : Use) → Memᴰ x xs → Memᴰ x (uses w l))
      → Step w (harmful w) I (bind xs (carried w)) (any (marks_at w l) xs) (foldl (follow_use w a l) s xs)
  uses_step [] s I less r f = step_nil w (harmful w) I
  uses_step {a} {l} {more} (x ∷ xs) s I less r f =
      let m = f x (Memᴰ.head refl) in
      let Q = follow_step w good (harmful w) I less r (carried w x) (λ y k. bind_mem (carried w) m k) (marks_at w l x) (λ t. sym (all_marks l) ∙ any_mem (marks_at w l) m t) in
      let P : Step w (harmful w) I (carried w x) (marks_at w l x) (follow_use w a l s x) = subst (Step w (harmful w) I (carried w x) (marks_at w l x)) (sym (follow_use_lem w a l s x)) Q in
      step_trans w (harmful w) (carried w x) (bind xs (carried w)) (marks_at w l x) (any (marks_at w l) xs) P (uses_step xs (follow_use w a l s x) P.grown.inv less r (λ y k. f y (Memᴰ.tail k)))

  drain_step : {a : ℕ} {more : List ℕ} (m : ℕ) (s : State) → Inv w (harmful w) a s more → a < length (allocs w) → zeros s.owner + length s.work ≤ m → Inv w (harmful w) a (drain (uses w) m w a s) more × ((drain (uses w) m w a s).work ≡ [])
  drain_step zero s I less h = (I, length_none s.work (omega arith))
  drain_step {a} {more} (suc m) s I less h = go s.work refl (drain_step m)
    where
      go : (vs : List ℕ) → s.work ≡ vs → ((t : State) → Inv w (harmful w) a t more → a < length (allocs w) → zeros t.owner + length t.work ≤ m → Inv w (harmful w) a (drain (uses w) m w a t) more × ((drain (uses w) m w a t).work ≡ []))
          → Inv w (harmful w) a (pop (λ v t. drain (uses w) m w a (foldl (follow_use w a v) t (uses w v))) vs s) more × ((pop (λ v t. drain (uses w) m w a (foldl (follow_use w a v) t (uses w v))) vs s).work ≡ [])
      go [] e f = (I, e)
      go (v ∷ vs) e f =
          let t : State = record { owner = s.owner; marks = s.marks; work = vs } in
          let S = uses_step (uses w v) t (popped w (harmful w) I e) less (I.mine v (rw e (Memᴰ.head refl))).1 (λ x k. k) in
          f (foldl (follow_use w a v) t (uses w v)) (followed w (harmful w) I e S (λ y k. k) (all_marks v)) less (omega (arith, S.grown.cost, ap length e))

  -- allocations k to j have their turns; the bases of the other m are still to be followed
  phases : {b : ℕ} (k n r j m : ℕ) (s : State) → Inv w (harmful w) b s (map (base_of w) (count k r)) → s.work ≡ [] → k + r ≡ length (allocs w) → k + n ≡ j → n + m ≡ r
      → (a : ℕ) × Inv w (harmful w) a (foldl (propagate (uses w) w) s (count k n)) (map (base_of w) (count j m)) × ((foldl (propagate (uses w) w) s (count k n)).work ≡ [])
  phases {b} k zero r j m s I e h p q =
      let y : j ≡ k = omega arith in
      let z : m ≡ r = omega arith in
      rw (y, z) (b, I, e)
  phases {b} k (suc n) zero j m s I e h p q = absurd (omega arith)
  phases {b} k (suc n) (suc r) j m s I e h p q =
      let less : k < length (allocs w) = omega arith in
      let d = drain_step (suc (locals w)) (record { owner = s.owner; marks = s.marks; work = base_of w k ∷ [] }) (begun w (harmful w) k I e less) less (omega (arith, zeros_most s.owner, I.owner_length)) in
      phases (suc k) n r j m (propagate (uses w) w s k) d.0 d.1 (omega arith) (omega arith) (omega arith)

  -- nothing is left of the work list
  pub source_after_lem : rule12 w ≡ false → (n m : ℕ) → n + m ≡ length (allocs w) → (a : ℕ) × Inv w (harmful w) a (source_after w n) (map (base_of w) (count n m)) × ((source_after w n).work ≡ [])
  source_after_lem twelve n m h =
      subst (λ (s : State). (a : ℕ) × Inv w (harmful w) a s (map (base_of w) (count n m)) × (s.work ≡ [])) (sym (after_same w good n))
      (phases 0 n (length (allocs w)) n m (start w) (started w good (harmful w) twelve) refl (omega arith) (omega arith) h)

  pub source_ends : rule12 w ≡ false → (a : ℕ) × Inv w (harmful w) a (source_state w) [] × ((source_state w).work ≡ [])
  source_ends twelve = source_after_lem twelve (length (allocs w)) 0 (omega arith)

  -- the source's marks are the marks
  pub source_marks : rule12 w ≡ false → (a : ℕ) → a < length (allocs w) → source_marked w a ≡ marked w a
  source_marks twelve = let end = source_ends twelve in ended_marks (source_state w) end.1 end.2
