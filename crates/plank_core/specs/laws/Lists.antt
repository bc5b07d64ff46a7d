-- Laws of tests and of the small functions on lists.
use Rattle.std.specs.Prelude.{◌≡◌, refl, ◌↔◌, ◌⊎◌, Bool, true, false, not, ◌&&◌, ◌||◌, cond, ℕ, zero, suc, ◌+◌, ◌-◌, ◌≤◌, ◌<◌, length, get_or, drop, replicate, eqb, T}
use Rattle.std.proofs.Common.{sym, ap, ◌∙◌, subst, ⊎_elim, inl, inr, arith, eqb-true, eq-eqb}
use Rattle.std.proofs.Math.Option.{some}
use mathlib.Core.List.{List, [], ◌∷◌, ◌++◌, map, reverse, reverse_aux, reverse-reverse, Memᴰ}
use Rattle.std.proofs.Math.ListN.{get_elem?}
use Rattle.std.proofs.lemmas.Bool.{eqb-false, not-true}
use Rattle.plank_core.specs.Lists.{count, range, upto, foldl, bind, all, any, keep, mem, distinct, one_if, times, ◌∈◌}

-- ---- tests

pub or_false_left : (a b : Bool) → (a || b) ≡ false → a ≡ false
or_false_left true b h = h
or_false_left false b h = refl

pub or_false_right : (a b : Bool) → (a || b) ≡ false → b ≡ false
or_false_right true b h = let z : true ≡ false = h in cc
or_false_right false b h = h

pub and_true_left : (a b : Bool) → (a && b) ≡ true → a ≡ true
and_true_left true b h = refl
and_true_left false b h = h

pub and_true_right : (a b : Bool) → (a && b) ≡ true → b ≡ true
and_true_right true b h = h
and_true_right false b h = let z : false ≡ true = h in cc

pub both_true : (a b : Bool) → a ≡ true → b ≡ true → (a && b) ≡ true
both_true true b h k = k
both_true false b h k = h

pub or_true_left : (a b : Bool) → a ≡ true → (a || b) ≡ true
or_true_left true b h = refl
or_true_left false b h = let z : false ≡ true = h in cc

pub or_true_right : (a b : Bool) → b ≡ true → (a || b) ≡ true
or_true_right true b h = refl
or_true_right false b h = h

pub or_cases : (a b : Bool) → (a || b) ≡ true → (a ≡ true) ⊎ (b ≡ true)
or_cases true b h = inl refl
or_cases false b h = inr h

pub bool_or : (t : Bool) → (t ≡ true) ⊎ (t ≡ false)
bool_or true = inl refl
bool_or false = inr refl

pub refuted : (t : Bool) → ¬ (t ≡ true) → t ≡ false
refuted true h = absurd (h refl)
refuted false h = refl

pub same_tests : (a b : Bool) → (a ≡ true → b ≡ true) → (b ≡ true → a ≡ true) → a ≡ b
same_tests true b f g = sym (f refl)
same_tests false true f g = g refl
same_tests false false f g = refl

-- a test that passes and fails
pub none : {A : Type 0} (t : Bool) → t ≡ true → t ≡ false → A
none t p q = let z : ◌≡◌ {A = ℕ} 0 1 = cc in absurd (omega arith)

pub test : (t : Bool) → T t ↔ (t ≡ true)
test true = ((λ h. refl), (λ h. tt))
test false = ((λ h. absurd h), (λ h. none false h refl))

-- ---- members

pub mem_count : (x s n : ℕ) → Memᴰ x (count s n) → (s ≤ x) × (x < s + n)
mem_count x s zero m = absurd (mathlib.Core.List.Memᴰ.not-nil m)
mem_count x s (suc n) m =
    ⊎_elim
    (λ (e : x ≡ s). omega arith)
    (λ (t : Memᴰ x (count (suc s) n)). omega (arith, mem_count x (suc s) n t))
    (mathlib.Core.List.Memᴰ.cases_cons m)

pub mem_range : (x s e : ℕ) → Memᴰ x (range s e) → (s ≤ x) × (x < e)
mem_range x s e m = omega (arith, mem_count x s (e - s) m)

pub count_mem : (x s n : ℕ) → s ≤ x → x < s + n → Memᴰ x (count s n)
count_mem x s zero a b = absurd (omega arith)
count_mem x s (suc n) a b = go (eqb x s) refl (count_mem x (suc s) n)
  where
    go : (t : Bool) → eqb x s ≡ t → (suc s ≤ x → x < suc s + n → Memᴰ x (count (suc s) n)) → Memᴰ x (s ∷ count (suc s) n)
    go true e rest = mathlib.Core.List.Memᴰ.head (eqb-true x s e)
    go false e rest = let ne : ¬ (x ≡ s) = eqb-false x s e in mathlib.Core.List.Memᴰ.tail (rest (omega arith) (omega arith))

pub upto_mem : (x n : ℕ) → x < n → x ∈ upto n
upto_mem x n l = count_mem x 0 n (omega arith) (omega arith)

pub mem_upto : (x n : ℕ) → x ∈ upto n → x < n
mem_upto x n m = omega (arith, mem_count x 0 n m)

module _ {A : Type 0} where
  pub all_mem : (p : A → Bool) (xs : List A) → all p xs ≡ true → (x : A) → Memᴰ x xs → p x ≡ true
  all_mem p [] h x m = absurd (mathlib.Core.List.Memᴰ.not-nil m)
  all_mem p (y ∷ ys) h x m =
      ⊎_elim
      (λ (e : x ≡ y). ap p e ∙ and_true_left (p y) (all p ys) h)
      (λ (t : Memᴰ x ys). all_mem p ys (and_true_right (p y) (all p ys) h) x t)
      (mathlib.Core.List.Memᴰ.cases_cons m)

  pub any_mem : {x : A} (p : A → Bool) {xs : List A} → Memᴰ x xs → p x ≡ true → any p xs ≡ true
  any_mem p (mathlib.Core.List.Memᴰ.head {x = y} {xs = ys} e) h = or_true_left (p y) (any p ys) (ap p (sym e) ∙ h)
  any_mem p (mathlib.Core.List.Memᴰ.tail {x = y} {xs = ys} m) h = or_true_right (p y) (any p ys) (any_mem p m h)

  pub any_out : (p : A → Bool) (xs : List A) → any p xs ≡ true → (x : A) × Memᴰ x xs × (p x ≡ true)
  any_out p [] h = none false h refl
  any_out p (y ∷ ys) h =
      ⊎_elim
      (λ (e : p y ≡ true). (y, mathlib.Core.List.Memᴰ.head refl, e))
      (λ (e : any p ys ≡ true). let r = any_out p ys e in (r.0, mathlib.Core.List.Memᴰ.tail r.1, r.2))
      (or_cases (p y) (any p ys) h)

  pub keep_mem : {x : A} (p : A → Bool) {xs : List A} → Memᴰ x xs → p x ≡ true → Memᴰ x (keep p xs)
  keep_mem p (mathlib.Core.List.Memᴰ.head {x = y} e) h = let k : p y ≡ true = ap p (sym e) ∙ h in rw k (mathlib.Core.List.Memᴰ.head e)
  keep_mem {x} p (mathlib.Core.List.Memᴰ.tail {x = y} {xs = ys} m) h = go (p y) (keep_mem p m h)
    where
      go : (t : Bool) → Memᴰ x (keep p ys) → Memᴰ x (cond t (y ∷ keep p ys) (keep p ys))
      go true k = mathlib.Core.List.Memᴰ.tail k
      go false k = k

  pub keep_out : {x : A} (p : A → Bool) (xs : List A) → Memᴰ x (keep p xs) → Memᴰ x xs × (p x ≡ true)
  keep_out p [] m = absurd (mathlib.Core.List.Memᴰ.not-nil m)
  keep_out {x} p (y ∷ ys) m = go (p y) refl (keep_out p ys) m
    where
      go : (t : Bool) → p y ≡ t → (Memᴰ x (keep p ys) → Memᴰ x ys × (p x ≡ true)) → Memᴰ x (cond t (y ∷ keep p ys) (keep p ys)) → Memᴰ x (y ∷ ys) × (p x ≡ true)
      go true e k (mathlib.Core.List.Memᴰ.head h) = (mathlib.Core.List.Memᴰ.head h, ap p h ∙ e)
      go true e k (mathlib.Core.List.Memᴰ.tail h) = (mathlib.Core.List.Memᴰ.tail (k h).0, (k h).1)
      go false e k h = (mathlib.Core.List.Memᴰ.tail (k h).0, (k h).1)

  -- two tests that agree on the members keep the same
  pub keep_alike : (p q : A → Bool) (xs : List A) → ((x : A) → Memᴰ x xs → p x ≡ q x) → keep p xs ≡ keep q xs
  keep_alike p q [] h = refl
  keep_alike p q (x ∷ xs) h = rw (h x (mathlib.Core.List.Memᴰ.head refl), keep_alike p q xs (λ y m. h y (mathlib.Core.List.Memᴰ.tail m)))

  reverse_later : {x : A} (xs : List A) {ys : List A} → Memᴰ x ys → Memᴰ x (reverse_aux xs ys)
  reverse_later [] m = m
  reverse_later (z ∷ xs) m = reverse_later xs (mathlib.Core.List.Memᴰ.tail m)

  reverse_first : {x : A} {xs : List A} (ys : List A) → Memᴰ x xs → Memᴰ x (reverse_aux xs ys)
  reverse_first ys (mathlib.Core.List.Memᴰ.head {x = z} {xs = xs} e) = reverse_later xs (mathlib.Core.List.Memᴰ.head e)
  reverse_first ys (mathlib.Core.List.Memᴰ.tail {x = z} m) = reverse_first (z ∷ ys) m

  pub reverse_mem : {x : A} {xs : List A} → Memᴰ x xs → Memᴰ x (reverse xs)
  reverse_mem m = reverse_first [] m

  pub reverse_out : {x : A} (xs : List A) → Memᴰ x (reverse xs) → Memᴰ x xs
  reverse_out xs m = rw (reverse-reverse xs) at (reverse_mem m)

  -- what holds of f x for each x holds of each member of the map
  pub map_each : {B : Type 0} (P : B → Type 0) (f : A → B) (xs : List A) → ((x : A) → Memᴰ x xs → P (f x)) → (y : B) → Memᴰ y (map f xs) → P y
  map_each P f [] h y m = absurd (mathlib.Core.List.Memᴰ.not-nil m)
  map_each P f (x ∷ xs) h y m =
      ⊎_elim
      (λ (e : y ≡ f x). subst P (sym e) (h x (mathlib.Core.List.Memᴰ.head refl)))
      (λ (t : Memᴰ y (map f xs)). map_each P f xs (λ z k. h z (mathlib.Core.List.Memᴰ.tail k)) y t)
      (mathlib.Core.List.Memᴰ.cases_cons m)

  pub bind_mem : {B : Type 0} {x : A} {y : B} (f : A → List B) {xs : List A} → Memᴰ x xs → Memᴰ y (f x) → Memᴰ y (bind xs f)
  bind_mem f (mathlib.Core.List.Memᴰ.head {x = z} {xs = zs} e) k = mathlib.Core.List.Memᴰ.append_left (bind zs f) (rw e at k)
  bind_mem f (mathlib.Core.List.Memᴰ.tail {x = z} m) k = mathlib.Core.List.Memᴰ.append_right (f z) (bind_mem f m k)

  pub bind_out : {B : Type 0} {y : B} (f : A → List B) (xs : List A) → Memᴰ y (bind xs f) → (x : A) × Memᴰ x xs × Memᴰ y (f x)
  bind_out f [] m = absurd (mathlib.Core.List.Memᴰ.not-nil m)
  bind_out {B} {y} f (z ∷ zs) m =
      ⊎_elim
      (λ (h : Memᴰ y (f z)). (z, mathlib.Core.List.Memᴰ.head refl, h))
      (λ (h : Memᴰ y (bind zs f)). let r = bind_out f zs h in (r.0, mathlib.Core.List.Memᴰ.tail r.1, r.2))
      (mathlib.Core.List.Memᴰ.append_cases (f z) m)

  -- what each step keeps, a fold keeps
  pub foldl_keeps : {C : Type 0} (I : C → Type 0) (f : C → A → C) (xs : List A) → ((c : C) (x : A) → Memᴰ x xs → I c → I (f c x)) → (c : C) → I c → I (foldl f c xs)
  foldl_keeps I f [] h c i = i
  foldl_keeps I f (x ∷ xs) h c i = foldl_keeps I f xs (λ d y m. h d y (mathlib.Core.List.Memᴰ.tail m)) (f c x) (h c x (mathlib.Core.List.Memᴰ.head refl) i)

  -- ---- the element at a place

  pub elem_get_or : (xs : List A) (i : ℕ) (d x : A) → get_elem? xs i ≡ some x → get_or xs i d ≡ x
  elem_get_or [] i d x e = cc
  elem_get_or (y ∷ ys) zero d x e = cc
  elem_get_or (y ∷ ys) (suc i) d x e = elem_get_or ys i d x e

  pub elem_mem : (xs : List A) (i : ℕ) (x : A) → get_elem? xs i ≡ some x → Memᴰ x xs
  elem_mem [] i x e = let z : ◌≡◌ {A = ℕ} 0 1 = cc in absurd (omega arith)
  elem_mem (y ∷ ys) zero x e = let q : x ≡ y = cc in mathlib.Core.List.Memᴰ.head q
  elem_mem (y ∷ ys) (suc i) x e = mathlib.Core.List.Memᴰ.tail (elem_mem ys i x e)

  pub elem_less : (xs : List A) (i : ℕ) (x : A) → get_elem? xs i ≡ some x → i < length xs
  elem_less [] i x e = let z : ◌≡◌ {A = ℕ} 0 1 = cc in absurd (omega arith)
  elem_less (y ∷ ys) zero x e = omega arith
  elem_less (y ∷ ys) (suc i) x e = omega (arith, elem_less ys i x e)

  pub mem_elem : {x : A} {xs : List A} → Memᴰ x xs → (i : ℕ) × (get_elem? xs i ≡ some x)
  mem_elem (mathlib.Core.List.Memᴰ.head e) = (0, cc)
  mem_elem (mathlib.Core.List.Memᴰ.tail m) = let r = mem_elem m in (suc r.0, r.1)

  pub get_or_elem : (xs : List A) (i : ℕ) (d : A) → i < length xs → get_elem? xs i ≡ some (get_or xs i d)
  get_or_elem [] i d h = absurd (omega arith)
  get_or_elem (x ∷ xs) zero d h = refl
  get_or_elem (x ∷ xs) (suc i) d h = get_or_elem xs i d (omega arith)

  -- the default does not matter within the list
  pub get_d_any : (xs : List A) (i : ℕ) (d e : A) → i < length xs → get_or xs i d ≡ get_or xs i e
  get_d_any xs i d e h = elem_get_or xs i d (get_or xs i e) (get_or_elem xs i e h)

  -- a member stands at some place
  pub mem_place : {x : A} {xs : List A} (d : A) → Memᴰ x xs → (i : ℕ) × (i < length xs) × (get_or xs i d ≡ x)
  mem_place {x} {xs} d m = let r = mem_elem m in (r.0, elem_less xs r.0 x r.1, elem_get_or xs r.0 d x r.1)

  pub get_or_mem : (xs : List A) (i : ℕ) (d : A) → i < length xs → Memᴰ (get_or xs i d) xs
  get_or_mem [] i d h = absurd (omega arith)
  get_or_mem (y ∷ ys) zero d h = mathlib.Core.List.Memᴰ.head refl
  get_or_mem (y ∷ ys) (suc i) d h = mathlib.Core.List.Memᴰ.tail (get_or_mem ys i d (omega arith))

  pub no_members : (xs : List A) → ((x : A) → Memᴰ x xs → ⊥) → xs ≡ []
  no_members [] h = refl
  no_members (x ∷ xs) h = absurd (h x (mathlib.Core.List.Memᴰ.head refl))

  pub length_none : (xs : List A) → length xs ≡ 0 → xs ≡ []
  length_none [] e = refl
  length_none (x ∷ xs) e = absurd (omega arith)

pub all_upto : (p : ℕ → Bool) (n : ℕ) → all p (upto n) ≡ true → (i : ℕ) → i < n → p i ≡ true
all_upto p n h i l = all_mem p (upto n) h i (upto_mem i n l)

-- one of those from a place on
-- a list of zeros has no other number, past its end either
pub zero_at : (m v : ℕ) → ◌≡◌ {A = ℕ} (get_or (replicate m 0) v 0) 0
zero_at zero v = refl
zero_at (suc m) zero = refl
zero_at (suc m) (suc v) = zero_at m v

pub drop_mem : (x : ℕ) (xs : List ℕ) (i : ℕ) → Memᴰ x (drop i xs) → Memᴰ x xs
drop_mem x xs zero m = m
drop_mem x [] (suc i) m = m
drop_mem x (y ∷ ys) (suc i) m = mathlib.Core.List.Memᴰ.tail (drop_mem x ys i m)

-- ---- how often a number is in a list

pub times_append : (x : ℕ) (ys zs : List ℕ) → times x (ys ++ zs) ≡ times x ys + times x zs
times_append x [] zs = omega arith
times_append x (y ∷ ys) zs = omega (arith, times_append x ys zs)

times_aux : (x : ℕ) (ys zs : List ℕ) → times x (reverse_aux ys zs) ≡ times x ys + times x zs
times_aux x [] zs = omega arith
times_aux x (y ∷ ys) zs = omega (arith, times_aux x ys (y ∷ zs))

pub times_reverse : (x : ℕ) (ys : List ℕ) → times x (reverse ys) ≡ times x ys
times_reverse x ys = omega (arith, times_aux x ys [])

pub times_none : (x : ℕ) (ys : List ℕ) → times x ys ≡ 0 → mem x ys ≡ false
times_none x [] h = refl
times_none x (y ∷ ys) h = go (eqb x y) refl (times_none x ys)
  where
    go : (t : Bool) → eqb x y ≡ t → (times x ys ≡ 0 → mem x ys ≡ false) → mem x (y ∷ ys) ≡ false
    go true e rest = let z : 1 + times x ys ≡ 0 = rw e at h in absurd (omega arith)
    go false e rest = let z : 0 + times x ys ≡ 0 = rw e at h in rw e (rest (omega arith))

-- in a list: at least once
pub mem_times : (x : ℕ) {ys : List ℕ} → Memᴰ x ys → 1 ≤ times x ys
mem_times x (mathlib.Core.List.Memᴰ.head {x = y} e) = rw (eq-eqb x y e) (omega arith)
mem_times x (mathlib.Core.List.Memᴰ.tail m) = omega (arith, mem_times x m)

pub times_mem : (x : ℕ) (ys : List ℕ) → 1 ≤ times x ys → Memᴰ x ys
times_mem x [] h = absurd (omega arith)
times_mem x (y ∷ ys) h = go (eqb x y) refl (times_mem x ys)
  where
    go : (t : Bool) → eqb x y ≡ t → (1 ≤ times x ys → Memᴰ x ys) → Memᴰ x (y ∷ ys)
    go true e rest = mathlib.Core.List.Memᴰ.head (eqb-true x y e)
    go false e rest = let z : 1 ≤ 0 + times x ys = rw e at h in mathlib.Core.List.Memᴰ.tail (rest (omega arith))

pub mem_in : (x : ℕ) (ys : List ℕ) → mem x ys ≡ true → Memᴰ x ys
mem_in x [] h = none false h refl
mem_in x (y ∷ ys) h = ⊎_elim (λ (e : eqb x y ≡ true). mathlib.Core.List.Memᴰ.head (eqb-true x y e)) (λ (m : mem x ys ≡ true). mathlib.Core.List.Memᴰ.tail (mem_in x ys m)) (or_cases (eqb x y) (mem x ys) h)

pub in_mem : (x : ℕ) {ys : List ℕ} → Memᴰ x ys → mem x ys ≡ true
in_mem x (mathlib.Core.List.Memᴰ.head {x = y} e) = rw (eq-eqb x y e)
in_mem x (mathlib.Core.List.Memᴰ.tail {x = y} {xs = ys} m) = or_true_right (eqb x y) (mem x ys) (in_mem x m)

pub mem_not : (x : ℕ) (ys : List ℕ) → ¬ (x ∈ ys) → mem x ys ≡ false
mem_not x ys n = refuted (mem x ys) (λ h. n (mem_in x ys h))

pub mem_append : (x : ℕ) (ys zs : List ℕ) → mem x (ys ++ zs) ≡ (mem x ys || mem x zs)
mem_append x [] zs = refl
mem_append x (y ∷ ys) zs = rw (mem_append x ys zs) (go (eqb x y))
  where
    go : (t : Bool) → (t || (mem x ys || mem x zs)) ≡ ((t || mem x ys) || mem x zs)
    go true = refl
    go false = refl

pub mem_snoc : (x y : ℕ) (ys : List ℕ) → mem x (ys ++ (y ∷ [])) ≡ (mem x ys || eqb x y)
mem_snoc x y ys = mem_append x ys (y ∷ []) ∙ go (mem x ys) (eqb x y)
  where
    go : (s t : Bool) → (s || (t || false)) ≡ (s || t)
    go s true = refl
    go s false = refl

pub mem_keep : (p : ℕ → Bool) (x : ℕ) (ys : List ℕ) → mem x (keep p ys) ≡ (p x && mem x ys)
mem_keep p x ys =
    same_tests (mem x (keep p ys)) (p x && mem x ys)
    (λ h. let k = keep_out p ys (mem_in x (keep p ys) h) in both_true (p x) (mem x ys) k.1 (in_mem x k.0))
    (λ h. in_mem x (keep_mem p (mem_in x ys (and_true_right (p x) (mem x ys) h)) (and_true_left (p x) (mem x ys) h)))

-- ---- distinct lists

-- two places of one number are one place
pub distinct_places : (xs : List ℕ) (i j d : ℕ) → distinct xs ≡ true → i < length xs → j < length xs → get_or xs i d ≡ get_or xs j d → i ≡ j
distinct_places [] i j d t h k e = absurd (omega arith)
distinct_places (x ∷ xs) i j d t h k e = go i j h k e (distinct_places xs)
  where
    new : mem x xs ≡ false
    new = not-true (mem x xs) (and_true_left (not (mem x xs)) (distinct xs) t)

    once : (i : ℕ) → i < length xs → x ≡ get_or xs i d → ⊥
    once i l q = none (mem x xs) (in_mem x (mathlib.Core.List.Memᴰ.cast q (get_or_mem xs i d l))) new

    go : (i j : ℕ) → i < suc (length xs) → j < suc (length xs) → get_or (x ∷ xs) i d ≡ get_or (x ∷ xs) j d
        → ((i j d : ℕ) → distinct xs ≡ true → i < length xs → j < length xs → get_or xs i d ≡ get_or xs j d → i ≡ j) → i ≡ j
    go zero zero h k e f = refl
    go zero (suc j) h k e f = absurd (once j (omega arith) e)
    go (suc i) zero h k e f = absurd (once i (omega arith) (sym e))
    go (suc i) (suc j) h k e f = ap suc (f i j d (and_true_right (not (mem x xs)) (distinct xs) t) (omega arith) (omega arith) e)

-- at most once each: distinct
pub times_distinct : (xs : List ℕ) → ((x : ℕ) → times x xs ≤ 1) → distinct xs ≡ true
times_distinct [] h = refl
times_distinct (x ∷ xs) h =
    let a : one_if (eqb x x) ≡ 1 = ap one_if (eq-eqb x x refl) in
    let n : mem x xs ≡ false = times_none x xs (omega (arith, h x)) in
    rw n (times_distinct xs (λ y. omega (arith, h y)))

pub one_if_most : (t : Bool) → one_if t ≤ 1
one_if_most true = omega arith
one_if_most false = omega arith

pub one_if_told : (t : Bool) → not (eqb (one_if t) 0) ≡ t
one_if_told true = refl
one_if_told false = refl

pub one_if_some : (t : Bool) → 1 ≤ one_if t → t ≡ true
one_if_some true h = refl
one_if_some false h = absurd (omega arith)

-- ---- numbers in turn

pub split : (a b : ℕ) → (a < b) ⊎ (b ≤ a)
split a zero = inr (omega arith)
split zero (suc b) = inl (omega arith)
split (suc a) (suc b) = ⊎_elim (λ (p : a < b). inl (omega arith)) (λ (q : b ≤ a). inr (omega arith)) (split a b)

-- what holds below n and at n holds below n + 1
pub below_next : (P : ℕ → Type 0) (n : ℕ) → ((j : ℕ) → j < n → P j) → P n → (j : ℕ) → j < n + 1 → P j
below_next P n h p j l = go (eqb j n) refl
  where
    go : (t : Bool) → eqb j n ≡ t → P j
    go true e = subst P (sym (eqb-true j n e)) p
    go false e = let ne : ¬ (j ≡ n) = eqb-false j n e in h j (omega arith)

pub any_some : (p : ℕ → Bool) (s n i : ℕ) → s ≤ i → i < s + n → p i ≡ true → any p (count s n) ≡ true
any_some p s n i a b h = any_mem p (count_mem i s n a b) h

pub any_none : (p : ℕ → Bool) (s n : ℕ) → ((i : ℕ) → s ≤ i → i < s + n → p i ≡ false) → any p (count s n) ≡ false
any_none p s zero h = refl
any_none p s (suc n) h = rw (h s (omega arith) (omega arith)) (any_none p (suc s) n (λ i a b. h i (omega arith) (omega arith)))

pub any_find : (p : ℕ → Bool) (s n : ℕ) → any p (count s n) ≡ true → (i : ℕ) × (s ≤ i) × (i < s + n) × (p i ≡ true)
any_find p s n h = let r = any_out p (count s n) h in let k = mem_count r.0 s n r.1 in (r.0, k.0, k.1, r.2)

-- none of them, so not this one
pub any_not : (p : ℕ → Bool) (s n i : ℕ) → any p (count s n) ≡ false → s ≤ i → i < s + n → p i ≡ false
any_not p s n i h a b = ⊎_elim (λ (e : p i ≡ true). none _ (any_some p s n i a b e) h) (λ (e : p i ≡ false). e) (bool_or (p i))

-- ---- keeping some of a list

pub keep_most : (p : ℕ → Bool) (xs : List ℕ) → length (keep p xs) ≤ length xs
keep_most p [] = omega arith
keep_most p (x ∷ xs) = go (p x) (keep_most p xs)
  where
    go : (t : Bool) → length (keep p xs) ≤ length xs → length (cond t (x ∷ keep p xs) (keep p xs)) ≤ suc (length xs)
    go true l = omega arith
    go false l = omega arith
