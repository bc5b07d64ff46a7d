-- Laws of numbers that are distinct: in lists one behind the other, and found in one pass with a set of those passed. Those left are
-- `fresh`, and a step moves the next number, or the next few, into the set.
use Rattle.std.specs.Prelude.{◌≡◌, refl, Bool, true, false, not, ◌&&◌, ◌||◌, cond, List, [], ◌∷◌, ◌++◌, map, ℕ, zero, suc, ◌+◌, ◌*◌, ◌≤◌, ◌<◌, length, get_or, drop, eqb}
use Rattle.std.proofs.Common.{sym, ap, ◌∙◌, arith, drop_of_length-le, eq-eqb, ne_eqb, eqb-true}
use Rattle.std.proofs.Math.Bool.{and_assoc, and-false}
use mathlib.Core.List.Memᴰ
use Rattle.std.proofs.lemmas.Bool.{eqb-false, not-true}
use Rattle.plank_core.specs.Lists.{count, bind, keep, mem, distinct, ◌∈◌, ◌∉◌}
use Rattle.plank_core.specs.inner.DenseIndexSet.{contains, empty_set, added, added_all, outside, fresh}
use Rattle.plank_core.specs.laws.Lists.{and_true_left, and_true_right, both_true, or_false_left, none, in_mem, mem_in, mem_not, mem_append, mem_count, mem_place, bind_mem, bind_out, keep_out, drop_mem}
use Rattle.plank_core.specs.laws.Loops.{drop_next}
use Rattle.plank_core.specs.laws.DenseIndexSet.{contains_empty, contains_added, length_added}

-- ---- one list behind the other

-- the first of distinct numbers is not among the others
pub first_once : (x : ℕ) (xs : List ℕ) → distinct (x ∷ xs) ≡ true → mem x xs ≡ false
first_once x xs h = not-true (mem x xs) (and_true_left (not (mem x xs)) (distinct xs) h)

pub rest_distinct : (x : ℕ) (xs : List ℕ) → distinct (x ∷ xs) ≡ true → distinct xs ≡ true
rest_distinct x xs h = and_true_right (not (mem x xs)) (distinct xs) h

pub distinct_cons : (x : ℕ) (xs : List ℕ) → x ∉ xs → distinct xs ≡ true → distinct (x ∷ xs) ≡ true
distinct_cons x xs n h = both_true (not (mem x xs)) (distinct xs) (ap not (mem_not x xs n)) h

pub distinct_left : (xs ys : List ℕ) → distinct (xs ++ ys) ≡ true → distinct xs ≡ true
distinct_left [] ys h = refl
distinct_left (x ∷ xs) ys h =
    let m : mem x xs ≡ false = or_false_left (mem x xs) (mem x ys) (sym (mem_append x xs ys) ∙ first_once x (xs ++ ys) h) in
    both_true (not (mem x xs)) (distinct xs) (ap not m) (distinct_left xs ys (rest_distinct x (xs ++ ys) h))

pub distinct_right : (xs ys : List ℕ) → distinct (xs ++ ys) ≡ true → distinct ys ≡ true
distinct_right [] ys h = h
distinct_right (x ∷ xs) ys h = distinct_right xs ys (rest_distinct x (xs ++ ys) h)

pub distinct_apart : {v : ℕ} {xs : List ℕ} (ys : List ℕ) → distinct (xs ++ ys) ≡ true → v ∈ xs → v ∉ ys
distinct_apart {v} ys h (Memᴰ.head {x = x} {xs = xs} e) m = none (mem x (xs ++ ys)) (in_mem x (Memᴰ.append_right xs (Memᴰ.cast (sym e) m))) (first_once x (xs ++ ys) h)
distinct_apart {v} ys h (Memᴰ.tail {x = x} {xs = xs} k) m = distinct_apart ys (rest_distinct x (xs ++ ys) h) k m

pub distinct_join : (xs ys : List ℕ) → distinct xs ≡ true → distinct ys ≡ true → ((v : ℕ) → v ∈ xs → v ∉ ys) → distinct (xs ++ ys) ≡ true
distinct_join [] ys h k d = k
distinct_join (x ∷ xs) ys h k d =
    let c : mem x (xs ++ ys) ≡ false = mem_append x xs ys ∙ rw (first_once x xs h, mem_not x ys (d x (Memᴰ.head refl))) in
    both_true (not (mem x (xs ++ ys))) (distinct (xs ++ ys)) (ap not c) (distinct_join xs ys (rest_distinct x xs h) k (λ v m. d v (Memᴰ.tail m)))

pub count_distinct : (s n : ℕ) → distinct (count s n) ≡ true
count_distinct s zero = refl
count_distinct s (suc n) = distinct_cons s (count (suc s) n) (λ m. let l = mem_count s (suc s) n m in omega arith) (count_distinct (suc s) n)

-- ---- the lists that f has for each of some numbers

module _ (f : ℕ → List ℕ) where
  -- they are distinct where each is, and no two have a number in common
  pub bind_distinct : (bs : List ℕ) → distinct bs ≡ true → ((b : ℕ) → b ∈ bs → distinct (f b) ≡ true)
      → ((b c v : ℕ) → b ∈ bs → c ∈ bs → v ∈ f b → v ∈ f c → b ≡ c) → distinct (bind bs f) ≡ true
  bind_distinct [] h e one = refl
  bind_distinct (b ∷ bs) h e one =
      distinct_join (f b) (bind bs f) (e b (Memᴰ.head refl))
      (bind_distinct bs (rest_distinct b bs h) (λ c i. e c (Memᴰ.tail i)) (λ c d v i j. one c d v (Memᴰ.tail i) (Memᴰ.tail j)))
      (λ v m k.
      let r = bind_out f bs k in
      let s : b ≡ r.0 = one b r.0 v (Memᴰ.head refl) (Memᴰ.tail r.1) m r.2 in
      none (mem b bs) (in_mem b (Memᴰ.cast s r.1)) (first_once b bs h))

  -- and then each is
  pub part_distinct : {b : ℕ} {bs : List ℕ} → distinct (bind bs f) ≡ true → b ∈ bs → distinct (f b) ≡ true
  part_distinct h (Memᴰ.head {x = c} {xs = bs} e) = rw e (distinct_left (f c) (bind bs f) h)
  part_distinct h (Memᴰ.tail {x = c} {xs = bs} m) = part_distinct (distinct_right (f c) (bind bs f) h) m

  -- and no two have a number in common
  pub part_one : {b c : ℕ} (v : ℕ) {bs : List ℕ} → distinct (bind bs f) ≡ true → b ∈ bs → c ∈ bs → v ∈ f b → v ∈ f c → b ≡ c
  part_one v h (Memᴰ.head e) (Memᴰ.head k) p q = e ∙ sym k
  part_one v h (Memᴰ.head {x = d} {xs = bs} e) (Memᴰ.tail m) p q = absurd (distinct_apart (bind bs f) h (rw e at p) (bind_mem f m q))
  part_one v h (Memᴰ.tail {x = d} {xs = bs} m) (Memᴰ.head e) p q = absurd (distinct_apart (bind bs f) h (rw e at q) (bind_mem f m p))
  part_one v h (Memᴰ.tail {x = d} {xs = bs} m) (Memᴰ.tail k) p q = part_one v (distinct_right (f d) (bind bs f) h) m k p q

-- ---- some of distinct numbers, and what a function makes of them

pub keep_distinct : (p : ℕ → Bool) (xs : List ℕ) → distinct xs ≡ true → distinct (keep p xs) ≡ true
keep_distinct p [] h = refl
keep_distinct p (x ∷ xs) h = go (p x) (keep_distinct p xs (rest_distinct x xs h))
  where
    new : x ∉ keep p xs
    new m = none (mem x xs) (in_mem x (keep_out p xs m).0) (first_once x xs h)

    go : (t : Bool) → distinct (keep p xs) ≡ true → distinct (cond t (x ∷ keep p xs) (keep p xs)) ≡ true
    go true k = distinct_cons x (keep p xs) new k
    go false k = k

-- f gives no two numbers the same
pub map_distinct : (f : ℕ → ℕ) (xs : List ℕ) → ((x y : ℕ) → f x ≡ f y → x ≡ y) → distinct xs ≡ true → distinct (map f xs) ≡ true
map_distinct f [] one h = refl
map_distinct f (x ∷ xs) one h = distinct_cons (f x) (map f xs) new (map_distinct f xs one (rest_distinct x xs h))
  where
    new : f x ∉ map f xs
    new m = let r = Memᴰ.of_map f xs m in none (mem x xs) (in_mem x (Memᴰ.cast (one x r.0 (sym r.2)) r.1)) (first_once x xs h)

-- ---- numbers that are not distinct

-- two places of one number; d stands past the end
pub record Twice (xs : List ℕ) (d : ℕ) : Type 0 where
  pub one : ℕ
  pub other : ℕ
  pub before : one < other
  pub inside : other < length xs
  pub same : get_or xs one d ≡ get_or xs other d

pub twice : (xs : List ℕ) (d : ℕ) → distinct xs ≡ false → Twice xs d
twice [] d h = none true refl h
twice (x ∷ xs) d h = go (mem x xs) refl (twice xs d)
  where
    go : (t : Bool) → mem x xs ≡ t → (distinct xs ≡ false → Twice xs d) → Twice (x ∷ xs) d
    go true e rest = let p = mem_place d (mem_in x xs e) in record { one = 0; other = suc p.0; before = omega arith; inside = omega (arith, p.1); same = sym p.2 }
    go false e rest =
        let r = rest (rw e at h) in
        record { one = suc r.one; other = suc r.other; before = omega (arith, r.before); inside = omega (arith, r.inside); same = r.same }

-- ---- in one pass

outside_empty : (xs : List ℕ) → outside empty_set xs ≡ true
outside_empty [] = refl
outside_empty (x ∷ xs) = rw (contains_empty x, outside_empty xs)

pub fresh_all : (xs : List ℕ) → fresh empty_set xs ≡ distinct xs
fresh_all xs = rw (outside_empty xs)

pub eqb_swap : (x y : ℕ) → eqb x y ≡ eqb y x
eqb_swap x y = go (eqb x y) refl
  where
    go : (t : Bool) → eqb x y ≡ t → eqb x y ≡ eqb y x
    go true e = e ∙ sym (eq-eqb y x (sym (eqb-true x y e)))
    go false e = e ∙ sym (ne_eqb y x (λ q. eqb-false x y e (sym q)))

one_more : (e c a m : Bool) → (not (e || c) && (a && not m)) ≡ (not c && a && not (e || m))
one_more true c a m = sym (and-false (not c && a))
one_more false true a m = refl
one_more false false a m = refl

outside_added : (s : List ℕ) (x : ℕ) (xs : List ℕ) → ((v : ℕ) → v ∈ xs → v < 64 * length s) → outside (added s x) xs ≡ (outside s xs && not (mem x xs))
outside_added s x [] l = refl
outside_added s x (y ∷ ys) l =
    rw (contains_added s x y (l y (Memᴰ.head refl)), outside_added s x ys (λ v m. l v (Memᴰ.tail m)), eqb_swap x y)
    (one_more (eqb y x) (contains s y) (outside s ys) (mem x ys))

-- the next is new, and goes into the set
fresh_cons : (s : List ℕ) (x : ℕ) (xs : List ℕ) → ((v : ℕ) → v ∈ xs → v < 64 * length s) → fresh s (x ∷ xs) ≡ (not (contains s x) && fresh (added s x) xs)
fresh_cons s x xs l = rw (outside_added s x xs l) (four (not (contains s x)) (outside s xs) (not (mem x xs)) (distinct xs))
  where
    four : (a b c d : Bool) → ((a && b) && (c && d)) ≡ (a && ((b && c) && d))
    four true true c d = refl
    four true false c d = refl
    four false b c d = refl

-- the next few are new, and go there
pub fresh_append : (s xs ys : List ℕ) → ((v : ℕ) → v ∈ xs ++ ys → v < 64 * length s) → fresh s (xs ++ ys) ≡ (fresh s xs && fresh (added_all s xs) ys)
fresh_append s [] ys l = refl
fresh_append s (x ∷ xs) ys l =
    fresh_cons s x (xs ++ ys) (λ v m. l v (Memᴰ.tail m))
    ∙ ap (λ (t : Bool). not (contains s x) && t) (fresh_append (added s x) xs ys (λ v m. rw length_added (l v (Memᴰ.tail m))))
    ∙ sym (and_assoc (not (contains s x)) (fresh (added s x) xs) (fresh (added_all (added s x) xs) ys))
    ∙ ap (λ (t : Bool). t && fresh (added_all (added s x) xs) ys) (sym (fresh_cons s x xs (λ v m. l v (Memᴰ.tail (Memᴰ.append_left ys m)))))

pub length_added_all : (s xs : List ℕ) → length (added_all s xs) ≡ length s
length_added_all s [] = refl
length_added_all s (x ∷ xs) = length_added_all (added s x) xs ∙ length_added s x

-- ---- those left are `drop i xs`

module _ (s : List ℕ) (i : ℕ) (xs : List ℕ) where
  -- the next is not in the set, and goes there
  pub fresh_step : i < length xs → ((v : ℕ) → v ∈ xs → v < 64 * length s) → contains s (get_or xs i 0) ≡ false → fresh (added s (get_or xs i 0)) (drop (i + 1) xs) ≡ fresh s (drop i xs)
  fresh_step h l e = rw (drop_next i xs h) (sym (fresh_cons s (get_or xs i 0) (drop (i + 1) xs) (λ v m. l v (drop_mem v xs (i + 1) m)) ∙ rw e))

  -- the next is in the set
  pub fresh_stop : i < length xs → contains s (get_or xs i 0) ≡ true → fresh s (drop i xs) ≡ false
  fresh_stop h e = rw (drop_next i xs h, e)

  -- none is left
  pub fresh_end : length xs ≤ i → fresh s (drop i xs) ≡ true
  fresh_end h = rw (drop_of_length-le xs {i = i} h)
