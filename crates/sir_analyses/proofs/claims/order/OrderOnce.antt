-- Each function and each block that is seen is finished once, and no other.
use mathlib.Core.Path.{◌≡◌, refl, sym, ap, ◌∙◌}
use mathlib.Core.Logic.{⊎_elim}
use mathlib.Core.Bool.{Bool, true, false, not, cond}
use Prim.Native.Nat.{ℕ, zero, suc, ◌+◌}
use native.Mathlib.Omega.{arith}
use mathlib.Core.List.Memᴰ
use mathlib.Core.List.{List, [], ◌∷◌, ◌++◌, map, reverse, Memᴰ}
use lib.Dec.{eqb}
use borrow.Author.Tests.{eqb-true, eq-eqb}
use Rattle.plank_core.specs.Lists.{bind, keep, mem, one_if, times}
use Rattle.sir_analyses.specs.Order.{Visit}
use Rattle.sir_analyses.specs.Claims.{Item, function, block}
use Rattle.plank_core.specs.laws.Lists.{bool_or, times_append, times_reverse}
use Rattle.sir_analyses.proofs.claims.order.OrderLaws.{seen, enter, finish, owner, kids, visit, visits, visit_zero, visit_new, visit_old, Grows, enter_grows, grows, all_grow}

-- ---- the blocks of each function in turn: each pair's block, if its function stands once among the functions

abbrev pub second : List (ℕ × ℕ) → List ℕ
second ps = map (λ p. p.1) ps

abbrev pub blocks_of : List (ℕ × ℕ) → ℕ → List ℕ
blocks_of ps f = reverse (second (keep (λ p. eqb p.0 f) ps))

blocks_of_cons : (b f : ℕ) (p : ℕ × ℕ) (ps : List (ℕ × ℕ)) → times b (blocks_of (p ∷ ps) f) ≡ cond (eqb b p.1) (one_if (eqb p.0 f)) 0 + times b (blocks_of ps f)
blocks_of_cons b f p ps =
    times_reverse b (second (keep (λ q. eqb q.0 f) (p ∷ ps))) ∙ go (eqb p.0 f) (eqb b p.1) refl refl
    ∙ ap (λ (n : ℕ). cond (eqb b p.1) (one_if (eqb p.0 f)) 0 + n) (sym (times_reverse b (second (keep (λ q. eqb q.0 f) ps))))
  where
    go : (s t : Bool) → eqb p.0 f ≡ s → eqb b p.1 ≡ t
        → times b (second (keep (λ q. eqb q.0 f) (p ∷ ps))) ≡ cond (eqb b p.1) (one_if (eqb p.0 f)) 0 + times b (second (keep (λ q. eqb q.0 f) ps))
    go true true d e = rw (d, e)
    go true false d e = rw (d, e)
    go false true d e = rw (d, e) (omega arith)
    go false false d e = rw (d, e) (omega arith)

cond_add : (t : Bool) (m n : ℕ) → cond t (m + n) 0 ≡ cond t m 0 + cond t n 0
cond_add true m n = refl
cond_add false m n = omega arith

spread_cons : (b : ℕ) (p : ℕ × ℕ) (ps : List (ℕ × ℕ)) (fs : List ℕ)
    → times b (bind fs (blocks_of (p ∷ ps))) ≡ cond (eqb b p.1) (times p.0 fs) 0 + times b (bind fs (blocks_of ps))
spread_cons b p ps [] = go (eqb b p.1)
  where
    go : (t : Bool) → 0 ≡ cond t 0 0 + 0
    go true = refl
    go false = refl
spread_cons b p ps (f ∷ fs) =
    times_append b (blocks_of (p ∷ ps) f) (bind fs (blocks_of (p ∷ ps)))
    ∙ omega (arith, blocks_of_cons b f p ps, spread_cons b p ps fs, times_append b (blocks_of ps f) (bind fs (blocks_of ps)), cond_add (eqb b p.1) (one_if (eqb p.0 f)) (times p.0 fs))

spread_nil : (b : ℕ) (fs : List ℕ) → times b (bind fs (blocks_of [])) ≡ 0
spread_nil b [] = refl
spread_nil b (f ∷ fs) = spread_nil b fs

cond_one_if : (t : Bool) (n : ℕ) → n ≡ 1 → cond t n 0 ≡ one_if t
cond_one_if true n e = e
cond_one_if false n e = refl

pub spread : (b : ℕ) (ps : List (ℕ × ℕ)) (fs : List ℕ) → ((p : ℕ × ℕ) → Memᴰ p ps → times p.0 fs ≡ 1)
    → times b (bind fs (blocks_of ps)) ≡ times b (second ps)
spread b [] fs h = spread_nil b fs
spread b (p ∷ ps) fs h =
    omega (arith, spread_cons b p ps fs, cond_one_if (eqb b p.1) (times p.0 fs) (h p (Memᴰ.head refl)), spread b ps fs (λ q m. h q (Memᴰ.tail m)))

second_snoc : (c : ℕ) (ps : List (ℕ × ℕ)) (p : ℕ × ℕ) → times c (second (ps ++ (p ∷ []))) ≡ times c (second ps) + one_if (eqb c p.1)
second_snoc c [] p = omega arith
second_snoc c (q ∷ ps) p = omega (arith, second_snoc c ps p)

open_new : (xs : List ℕ) (i j : ℕ) → mem i xs ≡ false → one_if (not (mem j (i ∷ xs))) + one_if (eqb j i) ≡ one_if (not (mem j xs))
open_new xs i j h =
    ⊎_elim
    (λ (e : eqb j i ≡ true). let s : mem j xs ≡ false = ap (λ (n : ℕ). mem n xs) (eqb-true j i e) ∙ h in rw (e, s))
    (λ (e : eqb j i ≡ false). rw e (omega arith))
    (bool_or (eqb j i))

module _ (w : List ℕ) where
  -- ---- how often an item is finished, and 1 more if it is not seen yet

  abbrev pub done : Visit → Item → ℕ
  done v (function f) = times f v.finished_functions
  done v (block b) = times b (second v.finished)

  abbrev pub tally : Visit → Item → ℕ
  tally v y = done v y + one_if (not (seen w v y))

  abbrev same : Item → Item → ℕ
  same (function f) (function g) = one_if (eqb g f)
  same (function f) (block c) = 0
  same (block b) (function g) = 0
  same (block b) (block c) = one_if (eqb c b)

  finish_tally : (o : ℕ) (x y : Item) (v : Visit) → tally (finish w o x v) y ≡ tally v y + same x y
  finish_tally o (function f) (function g) v = omega (arith, times_append g v.finished_functions (f ∷ []))
  finish_tally o (function f) (block c) v = omega arith
  finish_tally o (block b) (function g) v = omega arith
  finish_tally o (block b) (block c) v = omega (arith, second_snoc c v.finished (o, b))

  enter_tally : (x y : Item) (v : Visit) → seen w v x ≡ false → tally (enter w x v) y + same x y ≡ tally v y
  enter_tally (function f) (function g) v h = omega (arith, open_new v.seen_functions f g h)
  enter_tally (function f) (block c) v h = omega arith
  enter_tally (block b) (function g) v h = omega arith
  enter_tally (block b) (block c) v h = omega (arith, open_new v.seen_blocks b c h)

  visits_tally : (n o : ℕ) (y : Item) → ((x : Item) (v : Visit) → tally (visit w n o x v) y ≡ tally v y)
      → (xs : List (Item)) (v : Visit) → tally (visits w n o xs v) y ≡ tally v y
  visits_tally n o y h [] v = refl
  visits_tally n o y h (x ∷ xs) v = visits_tally n o y h xs (visit w n o x v) ∙ h x v

  visit_tally : (n o : ℕ) (y x : Item) (v : Visit) → tally (visit w n o x v) y ≡ tally v y
  visit_tally zero o y x v = rw (visit_zero w o x v)
  visit_tally (suc n) o y x v =
      ⊎_elim
      (λ (h : seen w v x ≡ true). rw (visit_old w (suc n) o x v h))
      (λ (h : seen w v x ≡ false). ap (λ (u : Visit). tally u y) (visit_new w n o x v h)
      ∙ finish_tally o x y (visits w n (owner w o x) (kids w x) (enter w x v))
      ∙ ap (λ (k : ℕ). k + same x y) (visits_tally n (owner w o x) y (visit_tally n (owner w o x) y) (kids w x) (enter w x v))
      ∙ enter_tally x y v h)
      (bool_or (seen w v x))

  pub all_tally : (n o : ℕ) (y : Item) (xs : List (Item)) (v : Visit) → tally (visits w n o xs v) y ≡ tally v y
  all_tally n o y = visits_tally n o y (visit_tally n o y)

  -- ---- a finished block's function is seen

  abbrev pub Owned : Visit → Type 0
  Owned v = (p : ℕ × ℕ) → Memᴰ p v.finished → seen w v (function p.0) ≡ true

  -- o may own x: a block's function is seen
  abbrev pub May : Visit → ℕ → Item → Type 0
  May v o (function f) = Unit {0}
  May v o (block b) = seen w v (function o) ≡ true

  may_stay : (o : ℕ) (x : Item) (u v : Visit) → Grows w u v → May u o x → May v o x
  may_stay o (function f) u v g h = tt
  may_stay o (block b) u v g h = g.stays (function o) h

  -- once entered, the owner of what follows is seen
  enter_owner : (o : ℕ) (x : Item) (v : Visit) → May v o x → seen w (enter w x v) (function (owner w o x)) ≡ true
  enter_owner o (function f) v h = rw (eq-eqb f f refl)
  enter_owner o (block b) v h = h

  may_all : (o : ℕ) (v : Visit) → seen w v (function o) ≡ true → (y : Item) → May v o y
  may_all o v h (function f) = tt
  may_all o v h (block b) = h

  enter_owned : (x : Item) (v : Visit) → Owned v → Grows w v (enter w x v) → Owned (enter w x v)
  enter_owned (function f) v h g p m = g.stays (function p.0) (h p m)
  enter_owned (block b) v h g p m = h p m

  finish_owned : (o : ℕ) (x : Item) (v : Visit) → seen w v (function (owner w o x)) ≡ true → Owned v → Owned (finish w o x v)
  finish_owned o (function f) v s h p m = h p m
  finish_owned o (block b) v s h p m =
      ⊎_elim
      (h p)
      (λ (k : Memᴰ p ((o, b) ∷ [])). ap (λ (q : ℕ × ℕ). seen w v (function q.0)) (Memᴰ.eq_of_singleton k) ∙ s)
      (Memᴰ.append_cases v.finished m)

  visits_owned : (n o : ℕ) → ((x : Item) (v : Visit) → May v o x → Owned v → Owned (visit w n o x v))
      → (xs : List (Item)) (v : Visit) → ((y : Item) → Memᴰ y xs → May v o y) → Owned v → Owned (visits w n o xs v)
  visits_owned n o h [] v k s = s
  visits_owned n o h (x ∷ xs) v k s =
      visits_owned n o h xs (visit w n o x v) (λ y m. may_stay o y v (visit w n o x v) (grows w n o x v) (k y (Memᴰ.tail m))) (h x v (k x (Memᴰ.head refl)) s)

  visit_owned : (n o : ℕ) (x : Item) (v : Visit) → May v o x → Owned v → Owned (visit w n o x v)
  visit_owned zero o x v k s = rw (visit_zero w o x v) s
  visit_owned (suc n) o x v k s =
      ⊎_elim
      (λ (h : seen w v x ≡ true). rw (visit_old w (suc n) o x v h) s)
      (λ (h : seen w v x ≡ false). rw (visit_new w n o x v h)
      (finish_owned o x _
      ((all_grow w n (owner w o x) (kids w x) (enter w x v)).stays (function (owner w o x)) (enter_owner o x v k))
      (visits_owned n (owner w o x) (visit_owned n (owner w o x)) (kids w x) (enter w x v) (λ y m. may_all (owner w o x) (enter w x v) (enter_owner o x v k) y)
      (enter_owned x v s (enter_grows w x v)))))
      (bool_or (seen w v x))

  pub all_owned : (n o : ℕ) (xs : List (Item)) (v : Visit) → ((y : Item) → Memᴰ y xs → May v o y) → Owned v → Owned (visits w n o xs v)
  all_owned n o = visits_owned n o (visit_owned n o)
