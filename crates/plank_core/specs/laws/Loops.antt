-- Laws for loops that count up: a step, an early stop and the end of each.
use Rattle.std.specs.Prelude.{◌≡◌, refl, Bool, true, false, ◌||◌, cond, not, ℕ, zero, suc, ◌+◌, ◌-◌, ◌≤◌, ◌<◌, eqb, length, get_or, take, drop, set, ◌⊎◌}
use Rattle.std.proofs.Common.{sym, ap, ◌∙◌, subst, add-one, arith, eqb-true, ne_eqb, drop_of_length-le, length-drop, drop-cons, take_all, take_at, drop_at, drop-drop, inl, inr}
use Rattle.std.proofs.Math.Bool.{or_assoc}
use mathlib.Core.List.{[], ◌++◌, ◌∷◌, List, Memᴰ, append_assoc, append-nil, map, reverse, reverse-append}
use Rattle.std.proofs.lemmas.Bool.{eqb-false, not-true}
use Rattle.std.proofs.lemmas.List.{length-map, set_at}
use Rattle.plank_core.specs.Lists.{count, range, upto, all, any, keep, sum, bind, one_if, times, mem, distinct, ◌∈◌}
use Rattle.plank_core.specs.laws.Lists.{and_true_left, and_true_right, none, times_mem, split, in_mem}

-- ---- the numbers of a loop

pub count_suc : (s n : ℕ) → count s (suc n) ≡ count s n ++ ((s + n) ∷ [])
count_suc s zero = ap (λ (k : ℕ). k ∷ []) (omega arith)
count_suc s (suc n) =
    let e : suc s + n ≡ s + suc n = omega arith in
    ap (λ (l : List ℕ). s ∷ l) (count_suc (suc s) n ∙ rw e)

pub upto_suc : (n : ℕ) → upto (suc n) ≡ upto n ++ (n ∷ [])
upto_suc n = let e : 0 + n ≡ n = omega arith in rw e at (count_suc 0 n)

pub upto_more : (n : ℕ) → upto (n + 1) ≡ upto n ++ (n ∷ [])
upto_more n = rw add-one (upto_suc n)

pub count_add : (s n m : ℕ) → count s (n + m) ≡ count s n ++ count (s + n) m
count_add s zero m =
    let e : 0 + m ≡ m = omega arith in
    let f : s + 0 ≡ s = omega arith in
    rw (e, f)
count_add s (suc n) m =
    let e : suc n + m ≡ suc (n + m) = omega arith in
    let f : s + suc n ≡ suc s + n = omega arith in
    rw (e, f, count_add (suc s) n m)

pub length_count : (s n : ℕ) → length (count s n) ≡ n
length_count s zero = refl
length_count s (suc n) = ap suc (length_count (suc s) n)

pub get_or_count : (s n i d : ℕ) → i < n → get_or (count s n) i d ≡ s + i
get_or_count s zero i d h = absurd (omega arith)
get_or_count s (suc n) zero d h = omega arith
get_or_count s (suc n) (suc i) d h = get_or_count (suc s) n i d (omega arith) ∙ omega arith

-- the same places, counted from one less
pub keep_shift : (p : ℕ → Bool) (s n : ℕ) → length (keep p (count (suc s) n)) ≡ length (keep (λ i. p (suc i)) (count s n))
keep_shift p s zero = refl
keep_shift p s (suc n) = go (p (suc s)) (keep_shift p (suc s) n)
  where
    go : (t : Bool) → length (keep p (count (suc (suc s)) n)) ≡ length (keep (λ i. p (suc i)) (count (suc s) n))
        → length (cond t (suc s ∷ keep p (count (suc (suc s)) n)) (keep p (count (suc (suc s)) n)))
        ≡ length (cond t (s ∷ keep (λ i. p (suc i)) (count (suc s) n)) (keep (λ i. p (suc i)) (count (suc s) n)))
    go true e = ap suc e
    go false e = e

pub sum_shift : (f : ℕ → ℕ) (s n : ℕ) → sum (map f (count (suc s) n)) ≡ sum (map (λ i. f (suc i)) (count s n))
sum_shift f s zero = refl
sum_shift f s (suc n) = ap (λ (r : ℕ). f (suc s) + r) (sum_shift f (suc s) n)

-- all of them are left
pub range_all : (n : ℕ) → range 0 n ≡ upto n
range_all n = let e : n - 0 ≡ n = omega arith in rw e

-- i is the next of those left
pub range_next : (i n : ℕ) → i < n → range i n ≡ i ∷ range (i + 1) n
range_next i n h =
    let e : n - i ≡ suc (n - (i + 1)) = omega arith in
    rw (e, add-one)

-- going down: i - 1 stands before those from i on
pub range_before : (i n : ℕ) → 0 < i → i ≤ n → range (i - 1) n ≡ (i - 1) ∷ range i n
range_before i n p h = let e : i - 1 + 1 ≡ i = omega arith in range_next (i - 1) n (omega arith) ∙ ap (λ (j : ℕ). (i - 1) ∷ range j n) e

-- none is left
pub range_none : (i n : ℕ) → n ≤ i → range i n ≡ []
range_none i n h = let e : n - i ≡ 0 = omega arith in rw e

module _ (p : ℕ → Bool) where
  pub any_append : (xs ys : List ℕ) → any p (xs ++ ys) ≡ (any p xs || any p ys)
  any_append [] ys = refl
  any_append (x ∷ xs) ys = rw (any_append xs ys) (sym (or_assoc (p x) (any p xs) (any p ys)))

-- ---- a loop that tests each and leaves at the first that decides; the invariant is
-- `all p (range i n) ≡ all p (upto n)` (or `any`): those left decide

module _ (p : ℕ → Bool) (i n : ℕ) where
  pub all_step : i < n → p i ≡ true → all p (range (i + 1) n) ≡ all p (range i n)
  all_step h e = rw (range_next i n h, e)

  pub all_stop : i < n → p i ≡ false → all p (range i n) ≡ false
  all_stop h e = rw (range_next i n h, e)

  pub all_end : n ≤ i → all p (range i n) ≡ true
  all_end h = rw (range_none i n h)

  pub any_step : i < n → p i ≡ false → any p (range (i + 1) n) ≡ any p (range i n)
  any_step h e = rw (range_next i n h, e)

  pub any_stop : i < n → p i ≡ true → any p (range i n) ≡ true
  any_stop h e = rw (range_next i n h, e)

  pub any_end : n ≤ i → any p (range i n) ≡ false
  any_end h = rw (range_none i n h)

-- ---- the same over the elements of a list; the invariant is `all p (drop i xs) ≡ all p xs` (or `any`)

-- element i is the next of those left
pub drop_next : (i : ℕ) (xs : List ℕ) → i < length xs → drop i xs ≡ get_or xs i 0 ∷ drop (i + 1) xs
drop_next i xs h = rw add-one (drop-cons xs i 0 h)

module _ (p : ℕ → Bool) (i : ℕ) (xs : List ℕ) where
  pub all_drop_step : i < length xs → p (get_or xs i 0) ≡ true → all p (drop (i + 1) xs) ≡ all p (drop i xs)
  all_drop_step h e = rw (drop_next i xs h, e)

  pub all_drop_stop : i < length xs → p (get_or xs i 0) ≡ false → all p (drop i xs) ≡ false
  all_drop_stop h e = rw (drop_next i xs h, e)

  pub all_drop_end : length xs ≤ i → all p (drop i xs) ≡ true
  all_drop_end h = rw (drop_of_length-le xs {i = i} h)

  pub any_drop_step : i < length xs → p (get_or xs i 0) ≡ false → any p (drop (i + 1) xs) ≡ any p (drop i xs)
  any_drop_step h e = rw (drop_next i xs h, e)

  pub any_drop_stop : i < length xs → p (get_or xs i 0) ≡ true → any p (drop i xs) ≡ true
  any_drop_stop h e = rw (drop_next i xs h, e)

  pub any_drop_end : length xs ≤ i → any p (drop i xs) ≡ false
  any_drop_end h = rw (drop_of_length-le xs {i = i} h)

-- ---- a loop that sums, or stores, f 0, f 1, ..

pub map_append : {A B : Type 0} (f : A → B) (xs ys : List A) → map f (xs ++ ys) ≡ map f xs ++ map f ys
map_append f [] ys = refl
map_append f (x ∷ xs) ys = rw (map_append f xs ys)

pub sum_append : (xs ys : List ℕ) → sum (xs ++ ys) ≡ sum xs + sum ys
sum_append [] ys = omega arith
sum_append (x ∷ xs) ys = omega (arith, sum_append xs ys)

pub sum_more : (f : ℕ → ℕ) (n : ℕ) → sum (map f (upto (n + 1))) ≡ sum (map f (upto n)) + f n
sum_more f n = rw (upto_more n, map_append, sum_append) (omega arith)

module _ {A : Type 0} (f : ℕ → A) where
  pub map_more : (n : ℕ) → map f (upto (n + 1)) ≡ map f (upto n) ++ (f n ∷ [])
  map_more n = rw (upto_more n, map_append)

  pub length_map_count : (s n : ℕ) → length (map f (count s n)) ≡ n
  length_map_count s n = length-map (count s n) f ∙ length_count s n

  pub length_map_upto : (n : ℕ) → length (map f (upto n)) ≡ n
  length_map_upto n = length_map_count 0 n

  -- the next of them is stored
  pub fill_step : (n : ℕ) (d : List A) → n < length d → set (map f (upto n) ++ drop n d) n (f n) ≡ map f (upto (n + 1)) ++ drop (n + 1) d
  fill_step n d h =
      rw (map_more n, add-one n, drop-cons d n (f n) h, append_assoc)
      (set_at (map f (upto n)) (get_or d n (f n)) (drop (suc n) d) (f n) n (length_map_upto n))

  map_shift : (s n m : ℕ) → map f (count (s + n) m) ≡ map (λ i. f (n + i)) (count s m)
  map_shift s n zero = refl
  map_shift s n (suc m) =
      let e : s + n ≡ n + s = omega arith in
      let z : suc (s + n) ≡ suc s + n = omega arith in
      rw (z, map_shift (suc s) n m, e)

  -- the next m of them, in one
  pub map_add : (n m : ℕ) → map f (upto (n + m)) ≡ map f (upto n) ++ map (λ i. f (n + i)) (upto m)
  map_add n m = rw (count_add 0 n m, map_append, map_shift 0 n m)

  map_same_count : (g : ℕ → A) (s n : ℕ) → ((i : ℕ) → s ≤ i → i < s + n → f i ≡ g i) → map f (count s n) ≡ map g (count s n)
  map_same_count g s zero h = refl
  map_same_count g s (suc n) h =
      rw (h s (omega arith) (omega arith), map_same_count g (suc s) n (λ i a b. h i (omega arith) (omega arith)))

  pub map_same : (g : ℕ → A) (n : ℕ) → ((i : ℕ) → i < n → f i ≡ g i) → map f (upto n) ≡ map g (upto n)
  map_same g n h = map_same_count g 0 n (λ i a b. h i (omega arith))

  pub get_or_map_count : (s n i : ℕ) (d : A) → i < n → get_or (map f (count s n)) i d ≡ f (s + i)
  get_or_map_count s zero i d h = absurd (omega arith)
  get_or_map_count s (suc n) zero d h = ap f (omega arith)
  get_or_map_count s (suc n) (suc i) d h = get_or_map_count (suc s) n i d (omega arith) ∙ ap f (omega arith)

  pub get_or_map_upto : (n i : ℕ) (d : A) → i < n → get_or (map f (upto n)) i d ≡ f i
  get_or_map_upto n i d h = get_or_map_count 0 n i d h ∙ ap f (omega arith)

-- ---- the end of a slice from a on, lent: all that was there is lent, and nothing stands after it

module _ {A : Type 0} (a : ℕ) (xs : List A) where
  pub lent_end : take (length xs - a) (drop a xs) ≡ drop a xs
  lent_end = take_all (length xs - a) (drop a xs) (rw length-drop (omega arith))

  pub after_end : drop (length xs - a) (drop a xs) ≡ []
  after_end = drop_of_length-le (drop a xs) {i = length xs - a} (rw length-drop (omega arith))

-- the first n elements of xs are stored, and the end from n on is lent to store m more
pub fill_more : {A : Type 0} (front more : List A) (n m : ℕ) (d : List A) {xs part : List A} → length front ≡ n → xs ≡ front ++ drop n d → part ≡ more ++ drop m (take (length xs - n) (drop n xs))
    → take n xs ++ (part ++ drop (length xs - n) (drop n xs)) ≡ (front ++ more) ++ drop (n + m) d
fill_more front more n m d {xs} {part} l e h =
    let stored : take n xs ≡ front = rw e (take_at front (drop n d) n l) in
    let end : drop n xs ≡ drop n d = rw e (drop_at front (drop n d) n l) in
    rw (h, after_end n xs, lent_end n xs, stored, end, append-nil, drop-drop m n d, append_assoc)

-- f 0, .., f (n - 1) stand at the front of xs, and the end from n on is lent to store the next m
pub fill_part : {A : Type 0} (f : ℕ → A) (n m : ℕ) (d : List A) {xs part : List A} → xs ≡ map f (upto n) ++ drop n d → part ≡ map (λ i. f (n + i)) (upto m) ++ drop m (take (length xs - n) (drop n xs)) → take n xs ++ (part ++ drop (length xs - n) (drop n xs)) ≡ map f (upto (n + m)) ++ drop (n + m) d
fill_part f n m d e h = rw (map_add f n m) (fill_more (map f (upto n)) (map (λ i. f (n + i)) (upto m)) n m d (length_map_upto f n) e h)

-- ---- lists that functions give of each element, one after the other

module _ {A : Type 0} where
  pub keep_append : (p : A → Bool) (xs ys : List A) → keep p (xs ++ ys) ≡ keep p xs ++ keep p ys
  keep_append p [] ys = refl
  keep_append p (x ∷ xs) ys = go (p x) (keep_append p xs ys)
    where
      go : (t : Bool) → keep p (xs ++ ys) ≡ keep p xs ++ keep p ys → cond t (x ∷ keep p (xs ++ ys)) (keep p (xs ++ ys)) ≡ cond t (x ∷ keep p xs) (keep p xs) ++ keep p ys
      go true e = ap (λ (l : List A). x ∷ l) e
      go false e = e

  module _ {B : Type 0} (g : A → List B) where
    pub bind_append : (xs ys : List A) → bind (xs ++ ys) g ≡ bind xs g ++ bind ys g
    bind_append [] ys = refl
    bind_append (x ∷ xs) ys = ap (λ (l : List B). g x ++ l) (bind_append xs ys) ∙ sym (append_assoc (g x) (bind xs g) (bind ys g))

    pub bind_snoc : (xs : List A) (k : A) → bind (xs ++ (k ∷ [])) g ≡ bind xs g ++ g k
    bind_snoc xs k = bind_append xs (k ∷ []) ∙ ap (λ (l : List B). bind xs g ++ l) (append-nil (g k))

    pub bind_same : (h : A → List B) (xs : List A) → ((x : A) → g x ≡ h x) → bind xs g ≡ bind xs h
    bind_same h [] e = refl
    bind_same h (x ∷ xs) e = ap (λ (l : List B). l ++ bind xs g) (e x) ∙ ap (λ (l : List B). h x ++ l) (bind_same h xs e)

  pub reverse_snoc : (xs : List A) (x : A) → reverse (xs ++ (x ∷ [])) ≡ x ∷ reverse xs
  reverse_snoc xs x = reverse-append xs (x ∷ [])

  pub keep_reverse : (p : A → Bool) (xs : List A) → keep p (reverse xs) ≡ reverse (keep p xs)
  keep_reverse p [] = refl
  keep_reverse p (x ∷ xs) = ap (keep p) (reverse-append (x ∷ []) xs) ∙ keep_append p (reverse xs) (x ∷ []) ∙ ap (λ (l : List A). l ++ keep p (x ∷ [])) (keep_reverse p xs) ∙ go (p x)
    where
      go : (t : Bool) → reverse (keep p xs) ++ cond t (x ∷ []) [] ≡ reverse (cond t (x ∷ keep p xs) (keep p xs))
      go true = sym (reverse-append (x ∷ []) (keep p xs))
      go false = append-nil (reverse (keep p xs))

pub bind_bind : {A B C : Type 0} (h : A → List B) (g : B → List C) (xs : List A) → bind (bind xs h) g ≡ bind xs (λ x. bind (h x) g)
bind_bind h g [] = refl
bind_bind {A} {B} {C} h g (x ∷ xs) = bind_append g (h x) (bind xs h) ∙ ap (λ (l : List C). bind (h x) g ++ l) (bind_bind h g xs)

-- ---- a loop that takes what g gives of each; the invariant is that what it gives of those left is to come

-- the last of some numbers is the first of them backwards
pub reverse_range : (s e : ℕ) → s < e → reverse (range s e) ≡ (e - 1) ∷ reverse (range s (e - 1))
reverse_range s e h =
    let n : e - s ≡ suc (e - 1 - s) = omega arith in
    let l : s + (e - 1 - s) ≡ e - 1 = omega arith in
    ap (λ (k : ℕ). reverse (count s k)) n
    ∙ ap reverse (count_suc s (e - 1 - s) ∙ ap (λ (k : ℕ). count s (e - 1 - s) ++ (k ∷ [])) l)
    ∙ reverse_snoc (count s (e - 1 - s)) (e - 1)

module _ {B : Type 0} (g : ℕ → List B) where
  pub bind_all : (n : ℕ) → bind (upto n) g ≡ bind (range 0 n) g
  bind_all n = ap (λ (l : List ℕ). bind l g) (sym (range_all n))

  pub bind_step : (i n : ℕ) → i < n → bind (range i n) g ≡ g i ++ bind (range (i + 1) n) g
  bind_step i n h = ap (λ (l : List ℕ). bind l g) (range_next i n h)

  pub bind_end : (i n : ℕ) → n ≤ i → bind (range i n) g ≡ []
  bind_end i n h = ap (λ (l : List ℕ). bind l g) (range_none i n h)

  -- over the elements of a list
  pub bind_drop_step : (xs : List ℕ) (i : ℕ) → i < length xs → bind (drop i xs) g ≡ g (get_or xs i 0) ++ bind (drop (i + 1) xs) g
  bind_drop_step xs i h = ap (λ (l : List ℕ). bind l g) (drop_next i xs h)

  pub bind_drop_end : (xs : List ℕ) (i : ℕ) → length xs ≤ i → bind (drop i xs) g ≡ []
  bind_drop_end xs i h = ap (λ (l : List ℕ). bind l g) (drop_of_length-le xs {i = i} h)

  -- from the last to the first
  pub bind_back_step : (s e : ℕ) → s < e → bind (reverse (range s e)) g ≡ g (e - 1) ++ bind (reverse (range s (e - 1))) g
  bind_back_step s e h = ap (λ (l : List ℕ). bind l g) (reverse_range s e h)

  pub bind_back_end : (s e : ℕ) → e ≤ s → bind (reverse (range s e)) g ≡ []
  bind_back_end s e h = ap (λ (l : List ℕ). bind (reverse l) g) (range_none s e h)

-- ---- a list of different numbers below n has at most n

sum_add : (f g : ℕ → ℕ) (s n : ℕ) → sum (map (λ i. f i + g i) (count s n)) ≡ sum (map f (count s n)) + sum (map g (count s n))
sum_add f g s zero = omega arith
sum_add f g s (suc n) = let h = sum_add f g (suc s) n in omega arith

sum_most : (f : ℕ → ℕ) (s n : ℕ) → ((i : ℕ) → f i ≤ 1) → sum (map f (count s n)) ≤ n
sum_most f s zero h = omega arith
sum_most f s (suc n) h = omega (arith, h s, sum_most f (suc s) n h)

sum_none : (x s n : ℕ) → x < s → sum (map (λ i. one_if (eqb i x)) (count s n)) ≡ 0
sum_none x s zero h = refl
sum_none x s (suc n) h = rw (ne_eqb s x (omega arith)) (omega (arith, sum_none x (suc s) n (omega arith)))

sum_one : (x s n : ℕ) → s ≤ x → x < s + n → sum (map (λ i. one_if (eqb i x)) (count s n)) ≡ 1
sum_one x s zero l h = absurd (omega arith)
sum_one x s (suc n) l h = go (eqb s x) refl (sum_one x (suc s) n)
  where
    go : (t : Bool) → eqb s x ≡ t → (suc s ≤ x → x < suc s + n → sum (map (λ i. one_if (eqb i x)) (count (suc s) n)) ≡ 1) → one_if (eqb s x) + sum (map (λ i. one_if (eqb i x)) (count (suc s) n)) ≡ 1
    go true e rest = let q : s ≡ x = eqb-true s x e in rw (e, sum_none x (suc s) n (omega arith))
    go false e rest = let q : s ≡ x → ⊥ = eqb-false s x e in rw (e, rest (omega arith) (omega arith))

sum_zero : (s n : ℕ) → sum (map (λ i. 0) (count s n)) ≡ 0
sum_zero s zero = refl
sum_zero s (suc n) = omega (arith, sum_zero (suc s) n)

all_times : (xs : List ℕ) (n : ℕ) → ((x : ℕ) → Memᴰ x xs → x < n) → sum (map (λ i. times i xs) (upto n)) ≡ length xs
all_times [] n h = sum_zero 0 n
all_times (x ∷ xs) n h =
    let a = sum_one x 0 n (omega arith) (omega (arith, h x (Memᴰ.head refl))) in
    let b = all_times xs n (λ y m. h y (Memᴰ.tail m)) in
    sum_add (λ i. one_if (eqb i x)) (λ i. times i xs) 0 n ∙ omega arith

pub once_most : (xs : List ℕ) (n : ℕ) → ((x : ℕ) → times x xs ≤ 1) → ((x : ℕ) → Memᴰ x xs → x < n) → length xs ≤ n
once_most xs n a b = omega (arith, all_times xs n b, sum_most (λ i. times i xs) 0 n a)

-- a list that is distinct has each number at most once
pub distinct_times : (x : ℕ) (ys : List ℕ) → distinct ys ≡ true → times x ys ≤ 1
distinct_times x [] d = omega arith
distinct_times x (y ∷ ys) d = go (eqb x y) refl (split 0 (times x ys)) (distinct_times x ys (and_true_right (not (mem y ys)) (distinct ys) d))
  where
    go : (t : Bool) → eqb x y ≡ t → (0 < times x ys) ⊎ (times x ys ≤ 0) → times x ys ≤ 1 → one_if (eqb x y) + times x ys ≤ 1
    go false e l r = rw e (omega arith)
    go true e (inr l) r = rw e (omega arith)
    go true e (inl l) r =
        let q : x ≡ y = eqb-true x y e in
        none (mem y ys) (in_mem y (subst (λ (z : ℕ). z ∈ ys) q (times_mem x ys l))) (not-true (mem y ys) (and_true_left (not (mem y ys)) (distinct ys) d))

-- distinct numbers below n are at most n
pub distinct_few : (n : ℕ) (xs : List ℕ) → distinct xs ≡ true → ((x : ℕ) → x ∈ xs → x < n) → length xs ≤ n
distinct_few n xs d h = once_most xs n (λ x. distinct_times x xs d) h
