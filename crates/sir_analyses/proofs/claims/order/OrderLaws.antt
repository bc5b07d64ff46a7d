-- Laws of the visit of functions and blocks: one form for both kinds of item, and the fuel law: with fuel for each function below
-- `functions w` and each block below `blocks w` that is not seen yet, the fuel does not run out.
use mathlib.Core.Path.{◌≡◌, refl, sym, ap, ap₂, ◌∙◌, subst}
use mathlib.Core.Logic.{⊎_elim}
use mathlib.Core.Bool.{Bool, true, false, not, ◌||◌, cond}
use Prim.Native.Nat.{ℕ, zero, suc, ◌+◌, ◌≤◌, ◌<◌}
use native.Mathlib.Nat.{le_refl, le_trans}
use native.Mathlib.Omega.{arith}
use mathlib.Core.List.Memᴰ
use mathlib.Core.List.{List, [], ◌∷◌, ◌++◌, map, Memᴰ}
use lib.Dec.{eqb}
use borrow.Author.Tests.{eqb-true, eqb-false, ne_eqb}
use Rattle.plank_core.specs.Lists.{foldl, bind, mem, one_if}
use Rattle.sir_data.specs.Records.{functions, blocks, entry_block, ops, successors, callees}
use Rattle.sir_analyses.specs.Order.{Visit, see_function, see_block, finish_function, finish_block, visit_function, visit_block}
use Rattle.sir_analyses.specs.inner.Visiting.{missing}
use Rattle.sir_analyses.specs.Claims.{Item, function, block}
use Rattle.plank_core.specs.laws.Lists.{or_true_right, none, bool_or, map_each, bind_out}
use Rattle.sir_data.specs.inner.WellFormed.{InRange}

-- ---- how many numbers below n fail a test

pub missing_same : (n : ℕ) (p q : ℕ → Bool) → ((i : ℕ) → i < n → q i ≡ p i) → missing n q ≡ missing n p
unfolding missing
missing_same zero p q h = refl
missing_same (suc n) p q h = ap₂ (λ x y. one_if (not x) + y) (h n (omega arith)) (missing_same n p q (λ i l. h i (omega arith)))

-- one more passes
pub missing_one : (n k : ℕ) (p q : ℕ → Bool) → k < n → p k ≡ false → ((i : ℕ) → i < n → q i ≡ (eqb i k || p i)) → missing n q + 1 ≡ missing n p
unfolding missing
missing_one zero k p q l f h = absurd (omega arith)
missing_one (suc n) k p q l f h = go (eqb n k) refl (missing_one n k p q)
  where
    go : (t : Bool) → eqb n k ≡ t → (k < n → p k ≡ false → ((i : ℕ) → i < n → q i ≡ (eqb i k || p i)) → missing n q + 1 ≡ missing n p)
        → one_if (not (q n)) + missing n q + 1 ≡ one_if (not (p n)) + missing n p
    go true e rest =
        let s : n ≡ k = eqb-true n k e in
        let a : q n ≡ true = h n (omega arith) ∙ rw e in
        let b : p n ≡ false = ap p s ∙ f in
        let c : missing n q ≡ missing n p = missing_same n p q (λ i m. h i (omega arith) ∙ rw (ne_eqb i k (omega arith))) in
        rw (a, b, c) (omega arith)
    go false e rest =
        let ne : n ≡ k → ⊥ = eqb-false n k e in
        let a : q n ≡ p n = h n (omega arith) ∙ rw e in
        let ih = rest (omega arith) f (λ i m. h i (omega arith)) in
        rw a (omega arith)

pub missing_most : (n : ℕ) (p : ℕ → Bool) → missing n p ≤ n
unfolding missing
missing_most zero p = le_refl 0
missing_most (suc n) p = go (p n) (missing_most n p)
  where
    go : (t : Bool) → missing n p ≤ n → one_if (not t) + missing n p ≤ suc n
    go true h = omega arith
    go false h = omega arith

-- a test that passes more fails no more often
missing_less : (n : ℕ) (p q : ℕ → Bool) → ((i : ℕ) → p i ≡ true → q i ≡ true) → missing n q ≤ missing n p
unfolding missing
missing_less zero p q h = le_refl 0
missing_less (suc n) p q h = go (p n) (q n) (h n) (missing_less n p q h)
  where
    go : (s t : Bool) → (s ≡ true → t ≡ true) → missing n q ≤ missing n p → one_if (not t) + missing n q ≤ one_if (not s) + missing n p
    go true true f r = omega arith
    go true false f r = none false (f refl) refl
    go false true f r = omega arith
    go false false f r = omega arith

-- how many are not in a list
abbrev free : ℕ → List ℕ → ℕ
free n xs = missing n (λ i. mem i xs)

free_less : (n i : ℕ) (xs : List ℕ) → free n (i ∷ xs) ≤ free n xs
free_less n i xs = missing_less n (λ j. mem j xs) (λ j. mem j (i ∷ xs)) (λ j h. or_true_right (eqb j i) (mem j xs) h)

free_new : (n i : ℕ) (xs : List ℕ) → i < n → mem i xs ≡ false → free n (i ∷ xs) + 1 ≡ free n xs
free_new n i xs l h = missing_one n i (λ j. mem j xs) (λ j. mem j (i ∷ xs)) l h (λ j m. refl)

free_none : (n i : ℕ) (xs : List ℕ) → free n xs ≤ 0 → i < n → mem i xs ≡ true
free_none n i xs z l = ⊎_elim (λ e. e) (λ e. absurd (omega (arith, free_new n i xs l e))) (bool_or (mem i xs))

module _ (w : List ℕ) where
  -- ---- one form for functions and blocks; o is the function on whose behalf a block is visited

  abbrev pub seen : Visit → Item → Bool
  seen v (function f) = mem f v.seen_functions
  seen v (block b) = mem b v.seen_blocks

  abbrev pub enter : Item → Visit → Visit
  enter (function f) v = see_function v f
  enter (block b) v = see_block v b

  abbrev pub finish : ℕ → Item → Visit → Visit
  finish o (function f) v = finish_function v f
  finish o (block b) v = finish_block v o b

  abbrev pub owner : ℕ → Item → ℕ
  owner o (function f) = f
  owner o (block b) = o

  abbrev pub kids : Item → List (Item)
  kids (function f) = block (entry_block w f) ∷ []
  kids (block b) = map function (bind (ops w b) (callees w)) ++ map block (successors w b)

  abbrev pub visit : ℕ → ℕ → Item → Visit → Visit
  visit n o (function f) v = visit_function n w f v
  visit n o (block b) v = visit_block n w o b v

  abbrev pub visits : ℕ → ℕ → List (Item) → Visit → Visit
  visits n o [] v = v
  visits n o (x ∷ xs) v = visits n o xs (visit n o x v)

  visits_append : (n o : ℕ) (xs ys : List (Item)) (v : Visit) → visits n o (xs ++ ys) v ≡ visits n o ys (visits n o xs v)
  visits_append n o [] ys v = refl
  visits_append n o (x ∷ xs) ys v = visits_append n o xs ys (visit n o x v)

  pub visits_functions : (n o : ℕ) (fs : List ℕ) (v : Visit) → foldl (λ u g. visit_function n w g u) v fs ≡ visits n o (map function fs) v
  visits_functions n o [] v = refl
  visits_functions n o (f ∷ fs) v = visits_functions n o fs (visit_function n w f v)

  visits_blocks : (n o : ℕ) (bs : List ℕ) (v : Visit) → foldl (λ u s. visit_block n w o s u) v bs ≡ visits n o (map block bs) v
  visits_blocks n o [] v = refl
  visits_blocks n o (b ∷ bs) v = visits_blocks n o bs (visit_block n w o b v)

  visits_kids : (n o b : ℕ) (v : Visit)
      → foldl (λ u s. visit_block n w o s u) (foldl (λ u g. visit_function n w g u) v (bind (ops w b) (callees w))) (successors w b) ≡ visits n o (kids (block b)) v
  visits_kids n o b v =
      ap (λ u. foldl (λ u s. visit_block n w o s u) u (successors w b)) (visits_functions n o (bind (ops w b) (callees w)) v)
      ∙ visits_blocks n o (successors w b) _
      ∙ sym (visits_append n o (map function (bind (ops w b) (callees w))) (map block (successors w b)) v)

  pub visit_zero : (o : ℕ) (x : Item) (v : Visit) → visit 0 o x v ≡ v
  visit_zero o (function f) v = refl
  visit_zero o (block b) v = refl

  pub visit_new : (n o : ℕ) (x : Item) (v : Visit) → seen v x ≡ false → visit (suc n) o x v ≡ finish o x (visits n (owner o x) (kids x) (enter x v))
  visit_new n o (function f) v h = rw h
  visit_new n o (block b) v h = rw h (ap (λ u. finish_block u o b) (visits_kids n o b (see_block v b)))

  pub visit_old : (n o : ℕ) (x : Item) (v : Visit) → seen v x ≡ true → visit n o x v ≡ v
  visit_old zero o x v h = visit_zero o x v
  visit_old (suc n) o (function f) v h = rw h
  visit_old (suc n) o (block b) v h = rw h

  -- ---- what is seen stays seen, and fewer are left

  -- functions and blocks that are not seen yet
  abbrev pub left : Visit → ℕ
  left v = free (functions w) v.seen_functions + free (blocks w) v.seen_blocks

  pub record Grows (u v : Visit) : Type 0 where
    pub stays : (x : Item) → seen u x ≡ true → seen v x ≡ true
    pub down : left v ≤ left u

  grows_refl : (v : Visit) → Grows v v
  grows_refl v = record { stays = λ x h. h; down = le_refl _ }

  grows_trans : (t u v : Visit) → Grows t u → Grows u v → Grows t v
  grows_trans t u v g h = record { stays = λ x s. h.stays x (g.stays x s); down = le_trans h.down g.down }

  enter_stays : (x y : Item) (v : Visit) → seen v y ≡ true → seen (enter x v) y ≡ true
  enter_stays (function f) (function g) v h = or_true_right (eqb g f) (mem g v.seen_functions) h
  enter_stays (function f) (block b) v h = h
  enter_stays (block b) (function f) v h = h
  enter_stays (block b) (block c) v h = or_true_right (eqb c b) (mem c v.seen_blocks) h

  enter_down : (x : Item) (v : Visit) → left (enter x v) ≤ left v
  enter_down (function f) v = omega (arith, free_less (functions w) f v.seen_functions)
  enter_down (block b) v = omega (arith, free_less (blocks w) b v.seen_blocks)

  pub enter_grows : (x : Item) (v : Visit) → Grows v (enter x v)
  enter_grows x v = record { stays = λ y. enter_stays x y v; down = enter_down x v }

  -- finishing changes nothing of this
  finish_grows : (o : ℕ) (x : Item) (u v : Visit) → Grows u v → Grows u (finish o x v)
  finish_grows o (function f) u v g = record { stays = λ y h. same y (g.stays y h); down = g.down }
    where
      same : (y : Item) → seen v y ≡ true → seen (finish_function v f) y ≡ true
      same (function g) h = h
      same (block b) h = h
  finish_grows o (block b) u v g = record { stays = λ y h. same y (g.stays y h); down = g.down }
    where
      same : (y : Item) → seen v y ≡ true → seen (finish_block v o b) y ≡ true
      same (function g) h = h
      same (block c) h = h

  visits_grow : (n o : ℕ) → ((x : Item) (v : Visit) → Grows v (visit n o x v)) → (xs : List (Item)) (v : Visit) → Grows v (visits n o xs v)
  visits_grow n o h [] v = grows_refl v
  visits_grow n o h (x ∷ xs) v = grows_trans v (visit n o x v) (visits n o xs (visit n o x v)) (h x v) (visits_grow n o h xs (visit n o x v))

  pub grows : (n o : ℕ) (x : Item) (v : Visit) → Grows v (visit n o x v)
  grows zero o x v = rw (visit_zero o x v) (grows_refl v)
  grows (suc n) o x v =
      ⊎_elim
      (λ (h : seen v x ≡ true). rw (visit_old (suc n) o x v h) (grows_refl v))
      (λ (h : seen v x ≡ false). rw (visit_new n o x v h)
      (finish_grows o x v _ (grows_trans v (enter x v) _ (enter_grows x v) (visits_grow n (owner o x) (grows n (owner o x)) (kids x) (enter x v)))))
      (bool_or (seen v x))

  pub all_grow : (n o : ℕ) (xs : List (Item)) (v : Visit) → Grows v (visits n o xs v)
  all_grow n o = visits_grow n o (grows n o)

  -- ---- items in range

  abbrev pub Ok : Item → Type 0
  Ok (function f) = f < functions w
  Ok (block b) = b < blocks w

  pub kids_each : (P : Item → Type 0) (b : ℕ) → ((o g : ℕ) → Memᴰ o (ops w b) → Memᴰ g (callees w o) → P (function g))
      → ((s : ℕ) → Memᴰ s (successors w b) → P (block s)) → (y : Item) → Memᴰ y (kids (block b)) → P y
  kids_each P b h k y m =
      ⊎_elim
      (map_each P function (bind (ops w b) (callees w)) (λ g i. let r = bind_out (callees w) (ops w b) i in h r.0 g r.1 r.2) y)
      (map_each P block (successors w b) k y)
      (Memᴰ.append_cases (map function (bind (ops w b) (callees w))) m)

  pub kids_ok : InRange w → (x : Item) → Ok x → (y : Item) → Memᴰ y (kids x) → Ok y
  kids_ok h (function f) l y m = subst Ok (sym (Memᴰ.eq_of_singleton m)) (h.entry f l)
  kids_ok h (block b) l y m = kids_each Ok b (λ o g i k. h.callee o g (h.op b o l i) k) (λ s k. h.successor b s l k) y m

  -- a mark on an item in range leaves one fewer
  pub enter_left : (x : Item) (v : Visit) → Ok x → seen v x ≡ false → left (enter x v) + 1 ≡ left v
  enter_left (function f) v l h = omega (arith, free_new (functions w) f v.seen_functions l h)
  enter_left (block b) v l h = omega (arith, free_new (blocks w) b v.seen_blocks l h)

  pub left_none : (x : Item) (v : Visit) → Ok x → left v ≤ 0 → seen v x ≡ true
  left_none (function f) v l z = free_none (functions w) f v.seen_functions (omega arith) l
  left_none (block b) v l z = free_none (blocks w) b v.seen_blocks (omega arith) l

  -- ---- fuel

  module _ (h : InRange w) where
    visits_same : (k o : ℕ) → ((x : Item) (v : Visit) → Ok x → left v ≤ k → visit k o x v ≡ visit (suc k) o x v)
        → (xs : List (Item)) → ((y : Item) → Memᴰ y xs → Ok y) → (v : Visit) → left v ≤ k → visits k o xs v ≡ visits (suc k) o xs v
    visits_same k o e [] ok v l = refl
    visits_same k o e (x ∷ xs) ok v l =
        visits_same k o e xs (λ y m. ok y (Memᴰ.tail m)) (visit k o x v) (le_trans (grows k o x v).down l)
        ∙ ap (visits (suc k) o xs) (e x v (ok x (Memᴰ.head refl)) l)

    stable : (k o : ℕ) (x : Item) (v : Visit) → Ok x → left v ≤ k → visit k o x v ≡ visit (suc k) o x v
    stable zero o x v ok l = let s = left_none x v ok l in visit_old 0 o x v s ∙ sym (visit_old 1 o x v s)
    stable (suc k) o x v ok l =
        ⊎_elim
        (λ (e : seen v x ≡ true). visit_old (suc k) o x v e ∙ sym (visit_old (suc (suc k)) o x v e))
        (λ (e : seen v x ≡ false). visit_new k o x v e
        ∙ ap (finish o x) (visits_same k (owner o x) (stable k (owner o x)) (kids x) (kids_ok h x ok) (enter x v) (omega (arith, enter_left x v ok e)))
        ∙ sym (visit_new (suc k) o x v e))
        (bool_or (seen v x))

    -- the equation of a visit, at one and the same fuel
    pub visit_step : (k o : ℕ) (x : Item) (v : Visit) → Ok x → left v ≤ k
        → visit k o x v ≡ cond (seen v x) v (finish o x (visits k (owner o x) (kids x) (enter x v)))
    visit_step k o x v ok l =
        ⊎_elim
        (λ (e : seen v x ≡ true). visit_old k o x v e ∙ rw e)
        (λ (e : seen v x ≡ false). stable k o x v ok l ∙ visit_new k o x v e ∙ rw e)
        (bool_or (seen v x))

  -- as much fuel as the order is given always suffices
  pub left_most : (v : Visit) → left v ≤ functions w + blocks w
  left_most v = omega (arith, missing_most (functions w) (λ i. mem i v.seen_functions), missing_most (blocks w) (λ i. mem i v.seen_blocks))

  -- ---- the same for the functions of Order

  module _ (h : InRange w) where
    pub visit_function_step : (n f : ℕ) (v : Visit) → f < functions w → left v ≤ n
        → visit_function n w f v ≡ cond (mem f v.seen_functions) v (finish_function (visit_block n w f (entry_block w f) (see_function v f)) f)
    visit_function_step n f v ok l = visit_step h n f (function f) v ok l

    pub visit_block_step : (n f b : ℕ) (v : Visit) → b < blocks w → left v ≤ n
        → visit_block n w f b v ≡ cond (mem b v.seen_blocks) v
        (finish_block (foldl (λ u s. visit_block n w f s u) (foldl (λ u g. visit_function n w g u) (see_block v b) (bind (ops w b) (callees w))) (successors w b)) f b)
    visit_block_step n f b v ok l =
        visit_step h n f (block b) v ok l ∙ ap (λ u. cond (mem b v.seen_blocks) v (finish_block u f b)) (sym (visits_kids n f b (see_block v b)))

    -- at the fuel of the order, on any state
    pub order_function : (f : ℕ) (v : Visit) → f < functions w
        → visit_function (functions w + blocks w) w f v
        ≡ cond (mem f v.seen_functions) v (finish_function (visit_block (functions w + blocks w) w f (entry_block w f) (see_function v f)) f)
    order_function f v ok = visit_function_step (functions w + blocks w) f v ok (left_most v)

    pub order_block : (f b : ℕ) (v : Visit) → b < blocks w
        → visit_block (functions w + blocks w) w f b v ≡ cond (mem b v.seen_blocks) v
        (finish_block
        (foldl (λ u s. visit_block (functions w + blocks w) w f s u)
        (foldl (λ u g. visit_function (functions w + blocks w) w g u) (see_block v b) (bind (ops w b) (callees w)))
        (successors w b))
        f b)
    order_block f b v ok = visit_block_step (functions w + blocks w) f b v ok (left_most v)
