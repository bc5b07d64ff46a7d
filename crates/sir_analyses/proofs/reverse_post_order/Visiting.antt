-- What the arrays of a visit hold, step by step.
use mathlib.Core.Path.{◌≡◌, refl, sym, ap, ap₂, ◌∙◌, subst}
use mathlib.Core.Bool.{Bool, true, false, ◌||◌}
use mathlib.Core.List.Memᴰ
use mathlib.Core.List.{List, [], ◌∷◌, ◌++◌, append-nil}
use Prim.Native.Nat.{ℕ, suc, ◌+◌, ◌-◌, ◌/◌, ◌%◌, ◌≤◌, ◌<◌}
use native.Mathlib.Nat.{le_refl, le_trans}
use native.Mathlib.Omega.{arith}
use native.Mathlib.Numerals.{add-one}
use lib.ListN.{length, get_or, take, drop, replicate}
use lib.Seq.{drop-cons}
use lib.Dec.{eqb, leb}
use borrow.Author.Tests.{eqb-true, eqb-false, eq-eqb, ne_eqb, le-leb, lt-leb}
use Rattle.plank_core.specs.Lists.{range, foldl, bind, mem}
use Rattle.plank_core.specs.laws.Lists.{get_or_mem}
use Rattle.plank_core.specs.laws.Loops.{range_next, range_none, bind_snoc}
use Rattle.plank_core.specs.inner.DenseIndexSet.{contains, added}
use Rattle.plank_core.specs.laws.DenseIndexSet.{contains_added, contains_cleared, length_added}
use Rattle.sir_data.specs.Records.{functions, blocks, operations, init_function, main_plus_one, entry_block, ops, successors, callees}
use Rattle.sir_data.specs.inner.WellFormed.{WellFormed}
use Rattle.sir_analyses.specs.Order.{Visit, start, see_function, see_block, finish_function, finish_block, visit_function, visit_block}
use Rattle.sir_analyses.specs.inner.Visiting.{block_key, keyed_block, keyed_function, Shows, unseen, Held, VisitStep, VisitedAll}
use Rattle.sir_analyses.proofs.claims.order.OrderLaws.{missing_same, missing_one, missing_most, order_function, order_block}

-- ---- numbers of row 1

eqb_shift : (i k : ℕ) → eqb (512 + i) (512 + k) ≡ eqb i k
eqb_shift i k = by (eqb i k) refl
  where
    by : (t : Bool) → eqb i k ≡ t → eqb (512 + i) (512 + k) ≡ eqb i k
    by true e = let q : i ≡ k = eqb-true i k e in eq-eqb (512 + i) (512 + k) (omega arith) ∙ sym e
    by false e = let q : i ≡ k → ⊥ = eqb-false i k e in ne_eqb (512 + i) (512 + k) (λ (h : 512 + i ≡ 512 + k). q (omega arith)) ∙ sym e

-- ---- a number is added to the table

module _ (seen seen₁ : List ℕ) (k : ℕ) (wide : length seen ≡ 16) (e : seen₁ ≡ added seen k) where
  put : (x : ℕ) → x < 1024 → contains seen₁ x ≡ (eqb x k || contains seen x)
  put x l = rw e (contains_added seen k x (omega arith))

  put_length : length seen₁ ≡ 16
  put_length = ap length e ∙ length_added seen k ∙ wide

  -- another number stays as it was
  other : (x : ℕ) → x < 1024 → (x ≡ k → ⊥) → contains seen₁ x ≡ contains seen x
  other x l ne = put x l ∙ rw (ne_eqb x k ne)

  -- so does each, where it was there
  again : contains seen k ≡ true → (x : ℕ) → x < 1024 → contains seen₁ x ≡ contains seen x
  again t x l = put x l ∙ by (eqb x k) refl
    where
      by : (u : Bool) → eqb x k ≡ u → (u || contains seen x) ≡ contains seen x
      by true q = sym (ap (contains seen) (eqb-true x k q) ∙ t)
      by false q = refl

-- the arrays show the same where the table has the same numbers
same_shown : {seen seen₁ postorder : List ℕ} {n : ℕ} {v : Visit} → ((x : ℕ) → x < 1024 → contains seen₁ x ≡ contains seen x) → Shows seen postorder n v → Shows seen₁ postorder n v
same_shown h s = record {
  functions_seen = λ f l. s.functions_seen f l ∙ sym (h f (omega arith));
  blocks_seen = λ b l. s.blocks_seen b l ∙ sym (h (512 + b) (omega arith));
  blocks_finished = s.blocks_finished;
  functions_finished = s.functions_finished;
}

-- an item is entered: `see` is what that does to a visit
pub record Entered (w : List ℕ) (see : Visit → Visit) (seen postorder : List ℕ) (n : ℕ) (seen₁ : List ℕ) : Type 0 where
  pub before : Held w seen postorder n
  pub shown : (v : Visit) → Shows seen postorder n v → Shows seen₁ postorder n (see v)
  pub fewer : unseen w seen₁ + 1 ≡ unseen w seen
  pub held : Held w seen₁ postorder n

abbrev fuel : List ℕ → ℕ
fuel w = functions w + blocks w

same_unseen : {w : List ℕ} → WellFormed w → (seen seen₁ : List ℕ) → ((x : ℕ) → x < 1024 → contains seen₁ x ≡ contains seen x) → unseen w seen₁ ≡ unseen w seen
unfolding unseen
same_unseen {w} ok seen seen₁ h =
    ap₂ (λ x y. x + y)
    (missing_same (functions w) (contains seen) (contains seen₁) (λ i l. h i (omega arith)))
    (missing_same (blocks w) (λ b. contains seen (512 + b)) (λ b. contains seen₁ (512 + b)) (λ i l. h (512 + i) (omega arith)))

module _ {w : List ℕ} (ok : WellFormed w) {seen postorder : List ℕ} {n : ℕ} {seen₁ : List ℕ} (held : Held w seen postorder n) where
  -- already seen: nothing changes
  skipped : (k : ℕ) (step : Visit → Visit) → seen₁ ≡ added seen k → contains seen k ≡ true → ((v : Visit) → Shows seen postorder n v → step v ≡ v) → VisitStep w step seen postorder n seen₁ postorder n
  skipped k step e t h =
      let g = again seen seen₁ k held.wide e t in
      record {
        same = λ v s. subst (λ (u : Visit). Shows seen₁ postorder n u) (sym (h v s)) (same_shown g s);
        held = record { wide = put_length seen seen₁ k held.wide e; long = held.long; room = omega (arith, same_unseen ok seen seen₁ g, held.room) };
        less = omega (arith, same_unseen ok seen seen₁ g);
        down = omega (arith, same_unseen ok seen seen₁ g);
      }

  pub skip_function : (f : ℕ) → f < functions w → seen₁ ≡ added seen f → contains seen f ≡ true → VisitStep w (visit_function (fuel w) w f) seen postorder n seen₁ postorder n
  skip_function f l e t =
      skipped f (visit_function (fuel w) w f) e t (λ v s.
      let m : mem f v.seen_functions ≡ true = s.functions_seen f (omega (arith, ok.sized.functions_most)) ∙ t in
      order_function w ok.in_range f v l ∙ rw m)

  pub skip_block : (f b : ℕ) → b < blocks w → seen₁ ≡ added seen (512 + b) → contains seen (512 + b) ≡ true → VisitStep w (visit_block (fuel w) w f b) seen postorder n seen₁ postorder n
  skip_block f b l e t =
      skipped (512 + b) (visit_block (fuel w) w f b) e t (λ v s.
      let m : mem b v.seen_blocks ≡ true = s.blocks_seen b (omega (arith, ok.sized.blocks_most)) ∙ t in
      order_block w ok.in_range f b v l ∙ rw m)

  pub enter_function : (f : ℕ) → f < functions w → seen₁ ≡ added seen f → contains seen f ≡ false → Entered w (λ v. see_function v f) seen postorder n seen₁
  unfolding unseen
  enter_function f l e t =
      let g = put seen seen₁ f held.wide e in
      let o = other seen seen₁ f held.wide e in
      let fewer : unseen w seen₁ + 1 ≡ unseen w seen =
      (let a = missing_one (functions w) f (contains seen) (contains seen₁) l t (λ i h. g i (omega arith)) in
      let b = missing_same (blocks w) (λ b. contains seen (512 + b)) (λ b. contains seen₁ (512 + b)) (λ i h. o (512 + i) (omega arith) (omega arith)) in
      omega arith) in
      record {
        before = held;
        shown = λ v r. record {
          functions_seen = λ i h. ap (λ x. eqb i f || x) (r.functions_seen i h) ∙ sym (g i (omega arith));
          blocks_seen = λ b h. r.blocks_seen b h ∙ sym (o (512 + b) (omega arith) (omega arith));
          blocks_finished = r.blocks_finished;
          functions_finished = r.functions_finished;
        };
        fewer = fewer;
        held = record { wide = put_length seen seen₁ f held.wide e; long = held.long; room = omega (arith, fewer, held.room) };
      }

  pub enter_block : (b : ℕ) → b < blocks w → seen₁ ≡ added seen (512 + b) → contains seen (512 + b) ≡ false → Entered w (λ v. see_block v b) seen postorder n seen₁
  unfolding unseen
  enter_block b l e t =
      let g = put seen seen₁ (512 + b) held.wide e in
      let o = other seen seen₁ (512 + b) held.wide e in
      let fewer : unseen w seen₁ + 1 ≡ unseen w seen =
      (let a = missing_same (functions w) (contains seen) (contains seen₁) (λ i h. o i (omega arith) (omega arith)) in
      let c = missing_one (blocks w) b (λ i. contains seen (512 + i)) (λ i. contains seen₁ (512 + i)) l t (λ i h. g (512 + i) (omega arith) ∙ ap (λ x. x || contains seen (512 + i)) (eqb_shift i b)) in
      omega arith) in
      record {
        before = held;
        shown = λ v r. record {
          functions_seen = λ i h. r.functions_seen i h ∙ sym (o i (omega arith) (omega arith));
          blocks_seen = λ i h. ap (λ x. eqb i b || x) (r.blocks_seen i h) ∙ sym (g (512 + i) (omega arith) ∙ ap (λ x. x || contains seen (512 + i)) (eqb_shift i b));
          blocks_finished = r.blocks_finished;
          functions_finished = r.functions_finished;
        };
        fewer = fewer;
        held = record { wide = put_length seen seen₁ (512 + b) held.wide e; long = held.long; room = omega (arith, fewer, held.room) };
      }

-- ---- an item is finished: its key is written after the others

module _ {seen postorder postorder₁ : List ℕ} {m r : ℕ} {u : Visit} (s : Shows seen postorder m u) where
  finish_function_lem : (f : ℕ) → f < 256 → take r postorder₁ ≡ take m postorder ++ (f ∷ []) → Shows seen postorder₁ r (finish_function u f)
  finish_function_lem f l e =
      let q : leb 256 f ≡ false = lt-leb 256 f l in
      record {
        functions_seen = s.functions_seen;
        blocks_seen = s.blocks_seen;
        blocks_finished = s.blocks_finished ∙ sym (ap (λ k. bind k keyed_block) e ∙ bind_snoc keyed_block (take m postorder) f ∙ rw q (append-nil (bind (take m postorder) keyed_block)));
        functions_finished = ap (λ l. l ++ (f ∷ [])) s.functions_finished ∙ sym (ap (λ k. bind k keyed_function) e ∙ bind_snoc keyed_function (take m postorder) f ∙ rw q);
      }

  finish_block_lem : (f b : ℕ) → b < 256 → take r postorder₁ ≡ take m postorder ++ (block_key f b ∷ []) → Shows seen postorder₁ r (finish_block u f b)
  finish_block_lem f b l e =
      let q : leb 256 (block_key f b) ≡ true = le-leb 256 (block_key f b) (omega arith) in
      let d : block_key f b / 256 - 1 ≡ f = omega arith in
      let z : block_key f b % 256 ≡ b = omega arith in
      record {
        functions_seen = s.functions_seen;
        blocks_seen = s.blocks_seen;
        blocks_finished = ap (λ l. l ++ ((f, b) ∷ [])) s.blocks_finished ∙ sym (ap (λ k. bind k keyed_block) e ∙ bind_snoc keyed_block (take m postorder) (block_key f b) ∙ rw (q, d, z));
        functions_finished = s.functions_finished ∙ sym (ap (λ k. bind k keyed_function) e ∙ bind_snoc keyed_function (take m postorder) (block_key f b) ∙ rw q (append-nil (bind (take m postorder) keyed_function)));
      }

-- ---- one step after another

pub then : {w : List ℕ} {step next : Visit → Visit} {seen postorder : List ℕ} {n : ℕ} {seen₁ postorder₁ : List ℕ} {n₁ : ℕ} {seen₂ postorder₂ : List ℕ} {n₂ : ℕ}
    → VisitStep w step seen postorder n seen₁ postorder₁ n₁ → VisitStep w next seen₁ postorder₁ n₁ seen₂ postorder₂ n₂ → VisitStep w (λ v. next (step v)) seen postorder n seen₂ postorder₂ n₂
then {step = step} a b = record {
  same = λ v s. b.same (step v) (a.same v s);
  held = b.held;
  less = le_trans b.less a.less;
  down = le_trans b.down a.down;
}

-- some of a list are visited, the rest are left
pub record Going (w : List ℕ) (step : ℕ → Visit → Visit) (full : List ℕ) (seen₀ postorder₀ : List ℕ) (m₀ : ℕ) (rest : List ℕ) (seen postorder : List ℕ) (m : ℕ) : Type 0 where
  pub same : (v : Visit) → Shows seen₀ postorder₀ m₀ v → (u : Visit) × Shows seen postorder m u × (foldl (λ u x. step x u) u rest ≡ foldl (λ u x. step x u) v full)
  pub held : Held w seen postorder m
  pub less : m + unseen w seen ≤ m₀ + unseen w seen₀
  pub down : unseen w seen ≤ unseen w seen₀

module _ {w : List ℕ} {step : ℕ → Visit → Visit} {full seen₀ postorder₀ : List ℕ} {m₀ : ℕ} where
  pub going_none : Held w seen₀ postorder₀ m₀ → Going w step full seen₀ postorder₀ m₀ full seen₀ postorder₀ m₀
  going_none held = record { same = λ v s. (v, s, refl); held = held; less = le_refl _; down = le_refl _ }

  module _ {seen postorder : List ℕ} {m : ℕ} where
    pub going_as : {rest rest' : List ℕ} → rest ≡ rest' → Going w step full seen₀ postorder₀ m₀ rest seen postorder m → Going w step full seen₀ postorder₀ m₀ rest' seen postorder m
    going_as e g = subst (λ (l : List ℕ). Going w step full seen₀ postorder₀ m₀ l seen postorder m) e g

    pub going_more : {x : ℕ} {rest seen₁ postorder₁ : List ℕ} {m₁ : ℕ} → Going w step full seen₀ postorder₀ m₀ (x ∷ rest) seen postorder m
        → VisitStep w (step x) seen postorder m seen₁ postorder₁ m₁ → Going w step full seen₀ postorder₀ m₀ rest seen₁ postorder₁ m₁
    going_more {x} g a = record {
      same = λ v s. let q = g.same v s in (step x q.0, a.same q.0 q.1, q.2);
      held = a.held;
      less = le_trans a.less g.less;
      down = le_trans a.down g.down;
    }

    pub going_all : {rest : List ℕ} → rest ≡ [] → Going w step full seen₀ postorder₀ m₀ rest seen postorder m → VisitStep w (λ v. foldl (λ u x. step x u) v full) seen₀ postorder₀ m₀ seen postorder m
    going_all e g = record {
      same = λ v s. let q = g.same v s in
          subst (λ (u : Visit). Shows seen postorder m u) (ap (λ (l : List ℕ). foldl (λ u x. step x u) q.0 l) (sym e) ∙ q.2) q.1;
      held = g.held;
      less = g.less;
      down = g.down;
    }

-- ---- an item's whole visit: entered, all that it leads to visited, its key written

module _ {w : List ℕ} (ok : WellFormed w) {see step : Visit → Visit} {seen postorder : List ℕ} {n : ℕ} {seen₁ seen₂ postorder₂ : List ℕ} {m : ℕ} where
  -- there is room for the key
  pub fits : Entered w see seen postorder n seen₁ → VisitStep w step seen₁ postorder n seen₂ postorder₂ m → m < 320
  fits k a = let s = ok.sized in omega (arith, k.fewer, k.before.room, a.less)

  finished : {postorder₃ : List ℕ} {r : ℕ} (finish : Visit → Visit) (whole : Visit → Visit) → Entered w see seen postorder n seen₁ → VisitStep w step seen₁ postorder n seen₂ postorder₂ m
      → r ≡ m + 1 → length postorder₃ ≡ 320
      → ((u : Visit) → Shows seen₂ postorder₂ m u → Shows seen₂ postorder₃ r (finish u))
      → ((v : Visit) → Shows seen postorder n v → whole v ≡ finish (step (see v)))
      → VisitStep w whole seen postorder n seen₂ postorder₃ r
  finished {postorder₃} {r} finish whole k a e long f h = record {
    same = λ v s. subst (λ (u : Visit). Shows seen₂ postorder₃ r u) (sym (h v s)) (f (step (see v)) (a.same (see v) (k.shown v s)));
    held = record { wide = a.held.wide; long = long; room = omega (arith, e, k.fewer, k.before.room, a.less) };
    less = omega (arith, e, k.fewer, a.less);
    down = omega (arith, k.fewer, a.down);
  }

module _ {w : List ℕ} (ok : WellFormed w) {seen postorder : List ℕ} {n : ℕ} {seen₁ seen₂ postorder₂ : List ℕ} {m : ℕ} {postorder₃ : List ℕ} {r : ℕ} where
  pub done_function : (f : ℕ) → f < functions w → contains seen f ≡ false → Entered w (λ v. see_function v f) seen postorder n seen₁
      → VisitStep w (visit_block (fuel w) w f (entry_block w f)) seen₁ postorder n seen₂ postorder₂ m
      → r ≡ m + 1 → length postorder₃ ≡ 320 → take r postorder₃ ≡ take m postorder₂ ++ (f ∷ [])
      → VisitStep w (visit_function (fuel w) w f) seen postorder n seen₂ postorder₃ r
  done_function f l t k a e long p =
      finished ok (λ u. finish_function u f) (visit_function (fuel w) w f) k a e long
      (λ u s. finish_function_lem s f (omega (arith, ok.sized.functions_most)) p)
      (λ v s. let q : mem f v.seen_functions ≡ false = s.functions_seen f (omega (arith, ok.sized.functions_most)) ∙ t in order_function w ok.in_range f v l ∙ rw q)

  pub done_block : (f b : ℕ) → b < blocks w → contains seen (512 + b) ≡ false → Entered w (λ v. see_block v b) seen postorder n seen₁
      → VisitStep w (λ v. foldl (λ u s. visit_block (fuel w) w f s u) (foldl (λ u g. visit_function (fuel w) w g u) v (bind (ops w b) (callees w))) (successors w b)) seen₁ postorder n seen₂ postorder₂ m
      → r ≡ m + 1 → length postorder₃ ≡ 320 → take r postorder₃ ≡ take m postorder₂ ++ (block_key f b ∷ [])
      → VisitStep w (visit_block (fuel w) w f b) seen postorder n seen₂ postorder₃ r
  done_block f b l t k a e long p =
      finished ok (λ u. finish_block u f b) (visit_block (fuel w) w f b) k a e long
      (λ u s. finish_block_lem s f b (omega (arith, ok.sized.blocks_most)) p)
      (λ v s. let q : mem b v.seen_blocks ≡ false = s.blocks_seen b (omega (arith, ok.sized.blocks_most)) ∙ t in order_block w ok.in_range f b v l ∙ rw q)

-- ---- what a block calls, operation by operation

module _ (w : List ℕ) (o last : ℕ) where
  pub calls_end : last ≤ o → bind (range o last) (callees w) ≡ []
  calls_end h = rw (range_none o last h)

  module _ (less : o < last) where
    pub calls_skip : [] ≡ callees w o → bind (range o last) (callees w) ≡ bind (range (o + 1) last) (callees w)
    calls_skip e = ap (λ l. bind l (callees w)) (range_next o last less) ∙ ap (λ l. l ++ bind (range (o + 1) last) (callees w)) (sym e)

    pub calls_call : (g : ℕ) → g ∷ [] ≡ callees w o → bind (range o last) (callees w) ≡ g ∷ bind (range (o + 1) last) (callees w)
    calls_call g e = ap (λ l. bind l (callees w)) (range_next o last less) ∙ ap (λ l. l ++ bind (range (o + 1) last) (callees w)) (sym e)

pub callee_below : {w : List ℕ} → WellFormed w → (o g : ℕ) → o < operations w → g ∷ [] ≡ callees w o → g < functions w
callee_below {w} ok o g l e = ok.in_range.callee o g l (rw (← e) (Memᴰ.head refl))

pub successor_next : (w : List ℕ) (b i : ℕ) → i < length (successors w b) → drop i (successors w b) ≡ get_or (successors w b) i 0 ∷ drop (i + 1) (successors w b)
successor_next w b i h = drop-cons (successors w b) i 0 h ∙ ap (λ k. get_or (successors w b) i 0 ∷ drop k (successors w b)) (sym (add-one i))

pub successor_below : {w : List ℕ} → WellFormed w → (b i : ℕ) → b < blocks w → i < length (successors w b) → get_or (successors w b) i 0 < blocks w
successor_below {w} ok b i l h = ok.in_range.successor b (get_or (successors w b) i 0) l (get_or_mem (successors w b) i 0 h)

-- ---- the whole visit

-- nothing is seen yet
pub held_start : (w : List ℕ) {seen postorder : List ℕ} → seen ≡ replicate 16 0 → length postorder ≡ 320 → Held w seen postorder 0
unfolding unseen
held_start w {seen} e l = record {
  wide = ap length e;
  long = l;
  room = omega (arith, missing_most (functions w) (contains seen), missing_most (blocks w) (λ b. contains seen (512 + b)));
}

shows_start : {seen postorder : List ℕ} → seen ≡ replicate 16 0 → Shows seen postorder 0 start
shows_start {seen} e = record {
  functions_seen = λ f l. sym (ap (λ (s : List ℕ). contains s f) e ∙ contains_cleared 16 f);
  blocks_seen = λ b l. sym (ap (λ (s : List ℕ). contains s (512 + b)) e ∙ contains_cleared 16 (512 + b));
  blocks_finished = refl;
  functions_finished = refl;
}

module _ {w seen postorder seen₁ postorder₁ : List ℕ} {n : ℕ} (e : seen ≡ replicate 16 0) (a : VisitStep w (visit_function (fuel w) w (init_function w)) seen postorder 0 seen₁ postorder₁ n) where
  pub visited_one : main_plus_one w ≡ 0 → VisitedAll w seen₁ postorder₁ n
  visited_one z = record { shows = rw z (a.same start (shows_start e)); held = a.held }

  pub visited_two : {seen₂ postorder₂ : List ℕ} {m r : ℕ} → main_plus_one w ≡ suc m → VisitStep w (visit_function (fuel w) w m) seen₁ postorder₁ n seen₂ postorder₂ r → VisitedAll w seen₂ postorder₂ r
  visited_two z b = record { shows = rw z (b.same _ (a.same start (shows_start e))); held = b.held }
