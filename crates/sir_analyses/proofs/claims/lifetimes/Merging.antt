-- Merged intervals: merging changes no point and no gap that is covered, gives the normal form, and the normal form is
-- unique.
use mathlib.Core.Path.{◌≡◌, refl, sym, ◌∙◌, ap}
use mathlib.Core.Logic.{◌↔◌, ◌⊎◌, inl, inr, ⊎_elim}
use mathlib.Core.Bool.{Bool, true, false, ◌&&◌, ◌||◌, cond}
use Prim.Native.Nat.{ℕ, suc, ◌+◌, ◌≤◌, ◌<◌}
use native.Mathlib.Omega.{arith}
use native.Mathlib.Decide.{dec_le}
use mathlib.Core.List.Memᴰ
use mathlib.Core.List.{List, [], ◌∷◌, Memᴰ}
use lib.Dec.{eqb, leb, ltb}
use borrow.Author.Tests.{eqb-true, eq-eqb, leb-true, leb-false, ltb-true, ltb-false}
use Rattle.plank_core.specs.laws.Lists.{and_true_left, and_true_right, or_false_left, or_false_right, or_cases, split}
use Rattle.sir_analyses.specs.Liveness.{Interval}
use Rattle.sir_analyses.specs.Allocation.{before, insert, sort, furthest, join, merge}
use Rattle.sir_analyses.specs.Walk.{Lies, here, there}

-- one of these intervals has in block b all from m to n
pub data Spans (b m n : ℕ) : List Interval → Type 0 where
  first : {i : Interval} {is : List Interval} → i.block ≡ b → i.from ≤ m → n ≤ i.to → Spans b m n (i ∷ is)
  rest : {i : Interval} {is : List Interval} → Spans b m n is → Spans b m n (i ∷ is)

-- point n of block b; the gap between n and n + 1
abbrev pub Point : ℕ → ℕ → List Interval → Type 0
Point b n is = Spans b n n is

abbrev pub Gap : ℕ → ℕ → List Interval → Type 0
Gap b n is = Spans b n (n + 1) is

pub nothing_spans : {b m n : ℕ} → Spans b m n [] → ⊥
nothing_spans c = elim c [ ]

pub spans_in : {b m n : ℕ} {i : Interval} {is : List Interval} → Memᴰ i is → i.block ≡ b → i.from ≤ m → n ≤ i.to → Spans b m n is
spans_in (Memᴰ.head {x = j} e) p q r = first {i = j} (rw e at p) (rw e at q) (rw e at r)
spans_in (Memᴰ.tail m) p q r = rest (spans_in m p q r)

pub spans_lies : {b o : ℕ} {is : List Interval} → Spans b (o + 1) (o + 1) is → Lies b o is
spans_lies (first p q r) = here p q r
spans_lies (rest s) = there (spans_lies s)

pub lies_spans : {b o : ℕ} {is : List Interval} → Lies b o is → Spans b (o + 1) (o + 1) is
lies_spans (here p q r) = first p q r
lies_spans (there s) = rest (lies_spans s)

-- ---- order

-- by block and start
pub data Ordered (i j : Interval) : Type 0 where
  blocks : i.block < j.block → Ordered i j
  starts : i.block ≡ j.block → i.from ≤ j.from → Ordered i j

pub data Sorted : List Interval → Type 0 where
  none : Sorted []
  single : (i : Interval) → Sorted (i ∷ [])
  more : {i j : Interval} {is : List Interval} → Ordered i j → Sorted (j ∷ is) → Sorted (i ∷ (j ∷ is))

before_ordered : (i j : Interval) → before i j ≡ true → Ordered i j
before_ordered i j h =
    ⊎_elim
    (λ (t : ltb i.block j.block ≡ true). blocks (ltb-true i.block j.block t))
    (λ (t : (eqb i.block j.block && (ltb i.from j.from || (eqb i.from j.from && leb i.to j.to))) ≡ true).
    starts (eqb-true i.block j.block (and_true_left (eqb i.block j.block) _ t))
    (⊎_elim
    (λ (u : ltb i.from j.from ≡ true). let l = ltb-true i.from j.from u in let r : i.from ≤ j.from = omega arith in r)
    (λ (u : (eqb i.from j.from && leb i.to j.to) ≡ true). let e = eqb-true i.from j.from (and_true_left (eqb i.from j.from) _ u) in let r : i.from ≤ j.from = omega arith in r)
    (or_cases (ltb i.from j.from) _ (and_true_right (eqb i.block j.block) _ t))))
    (or_cases (ltb i.block j.block) _ h)

after_ordered : (i j : Interval) → before i j ≡ false → Ordered j i
after_ordered i j h = go (split j.block i.block)
  where
    go : (j.block < i.block) ⊎ (i.block ≤ j.block) → Ordered j i
    go (inl l) = blocks l
    go (inr l) =
        let e : j.block ≡ i.block = omega (arith, ltb-false i.block j.block (or_false_left (ltb i.block j.block) _ h)) in
        let k : (ltb i.from j.from || (eqb i.from j.from && leb i.to j.to)) ≡ false =
        rw (eq-eqb i.block j.block (sym e)) at (or_false_right (ltb i.block j.block) _ h) in
        starts e (ltb-false i.from j.from (or_false_left (ltb i.from j.from) _ k))

-- ---- sort

insert_sorted_lem : (i : Interval) (is : List Interval) → Sorted is → Sorted (insert i is)
insert_sorted_lem i [] s = single i
insert_sorted_lem i (j ∷ []) s = go (before i j) refl
  where
    go : (t : Bool) → before i j ≡ t → Sorted (cond t (i ∷ j ∷ []) (j ∷ insert i []))
    go true e = more (before_ordered i j e) (single j)
    go false e = more (after_ordered i j e) (single i)
insert_sorted_lem i (j ∷ (k ∷ is)) (more h s) = go (before i j) refl (before i k) refl (insert_sorted_lem i (k ∷ is) s)
  where
    go : (t : Bool) → before i j ≡ t → (u : Bool) → before i k ≡ u → Sorted (cond u (i ∷ k ∷ is) (k ∷ insert i is)) → Sorted (cond t (i ∷ j ∷ k ∷ is) (j ∷ cond u (i ∷ k ∷ is) (k ∷ insert i is)))
    go true e u d r = more (before_ordered i j e) (more h s)
    go false e true d r = more (after_ordered i j e) r
    go false e false d r = more h r

pub sort_sorted : (is : List Interval) → Sorted (sort is)
sort_sorted [] = none
sort_sorted (i ∷ is) = insert_sorted_lem i (sort is) (sort_sorted is)

module _ {b m n : ℕ} where
  insert_out : (i : Interval) (is : List Interval) → Spans b m n (insert i is) → Spans b m n (i ∷ is)
  insert_out i [] s = s
  insert_out i (j ∷ js) s = go (before i j) (insert_out i js) s
    where
      swap : Spans b m n (i ∷ js) → Spans b m n (i ∷ j ∷ js)
      swap (first p q r) = first p q r
      swap (rest k) = rest (rest k)

      go : (t : Bool) → (Spans b m n (insert i js) → Spans b m n (i ∷ js)) → Spans b m n (cond t (i ∷ j ∷ js) (j ∷ insert i js)) → Spans b m n (i ∷ j ∷ js)
      go true f k = k
      go false f (first p q r) = rest (first p q r)
      go false f (rest k) = swap (f k)

  insert_in : (i : Interval) (is : List Interval) → Spans b m n (i ∷ is) → Spans b m n (insert i is)
  insert_in i [] s = s
  insert_in i (j ∷ js) s = go (before i j) (insert_in i js) s
    where
      go : (t : Bool) → (Spans b m n (i ∷ js) → Spans b m n (insert i js)) → Spans b m n (i ∷ j ∷ js) → Spans b m n (cond t (i ∷ j ∷ js) (j ∷ insert i js))
      go true f k = k
      go false f (first p q r) = rest (f (first p q r))
      go false f (rest (first p q r)) = first p q r
      go false f (rest (rest k)) = rest (f (rest k))

  under : {i : Interval} {is js : List Interval} → (Spans b m n is → Spans b m n js) → Spans b m n (i ∷ is) → Spans b m n (i ∷ js)
  under f (first p q r) = first p q r
  under f (rest k) = rest (f k)

  pub sort_out : (is : List Interval) → Spans b m n (sort is) → Spans b m n is
  sort_out [] s = s
  sort_out (i ∷ is) s = under (sort_out is) (insert_out i (sort is) s)

  pub sort_in : (is : List Interval) → Spans b m n is → Spans b m n (sort is)
  sort_in [] s = s
  sort_in (i ∷ is) s = insert_in i (sort is) (under (sort_in is) s)

-- ---- join

furthest_left : (a b : ℕ) → a ≤ furthest a b
furthest_left a b = go (leb a b) refl
  where
    go : (t : Bool) → leb a b ≡ t → a ≤ cond t b a
    go true e = leb-true a b e
    go false e = omega arith

furthest_right : (a b : ℕ) → b ≤ furthest a b
furthest_right a b = go (leb a b) refl
  where
    go : (t : Bool) → leb a b ≡ t → b ≤ cond t b a
    go true e = omega arith
    go false e = omega (arith, leb-false a b e)

furthest_cases : (a b : ℕ) → (furthest a b ≡ a) ⊎ (furthest a b ≡ b)
furthest_cases a b = go (leb a b)
  where
    go : (t : Bool) → (cond t b a ≡ a) ⊎ (cond t b a ≡ b)
    go true = inr refl
    go false = inl refl

abbrev touches : Interval → Interval → Bool
touches i j = eqb i.block j.block && leb j.from i.to

abbrev grown : Interval → Interval → Interval
grown i j = record { block = i.block; from = i.from; to = furthest i.to j.to }

ordered_starts : {i j : Interval} → Ordered i j → i.block ≡ j.block → i.from ≤ j.from
ordered_starts (blocks h) e = absurd (omega arith)
ordered_starts (starts p q) e = q

module _ (i j : Interval) (touch : touches i j ≡ true) (order : Ordered i j) where
  same_block : i.block ≡ j.block
  same_block = eqb-true i.block j.block (and_true_left (eqb i.block j.block) (leb j.from i.to) touch)

  inside : j.from ≤ i.to
  inside = leb-true j.from i.to (and_true_right (eqb i.block j.block) (leb j.from i.to) touch)

  grown_out : {b m n : ℕ} {js : List Interval} → n ≤ suc m → Spans b m n (grown i j ∷ js) → Spans b m n (i ∷ (j ∷ js))
  grown_out {b} {m} {n} le (first p q r) = go (dec_le n i.to) (furthest_cases i.to j.to)
    where
      go : {js : List Interval} → Dec (n ≤ i.to) → (furthest i.to j.to ≡ i.to) ⊎ (furthest i.to j.to ≡ j.to) → Spans b m n (i ∷ (j ∷ js))
      go (yes l) d = first p q l
      go (no g) (inl d) = first p q (rw d at r)
      go (no g) (inr d) = rest (first {i = j} (sym same_block ∙ p) (omega (arith, inside)) (rw d at r))
  grown_out le (rest k) = rest (rest k)

  grown_in : {b m n : ℕ} {js : List Interval} → Spans b m n (i ∷ (j ∷ js)) → Spans b m n (grown i j ∷ js)
  grown_in (first p q r) = first {i = grown i j} p q (omega (arith, furthest_left i.to j.to))
  grown_in (rest (first p q r)) = first {i = grown i j} (same_block ∙ p) (omega (arith, ordered_starts order same_block)) (omega (arith, furthest_right i.to j.to))
  grown_in (rest (rest k)) = rest k

  grown_sorted : {js : List Interval} → Sorted (j ∷ js) → Sorted (grown i j ∷ js)
  grown_sorted (single k) = single (grown i j)
  grown_sorted (more {j = k} h s) = more {i = grown i j} {j = k} (go h) s
    where
      go : {k : Interval} → Ordered j k → Ordered (grown i j) k
      go (blocks h) = blocks (omega (arith, same_block))
      go (starts p q) = starts (same_block ∙ p) (omega (arith, ordered_starts order same_block))

join_spans : {b m n : ℕ} (i : Interval) (is : List Interval) → n ≤ suc m → Sorted (i ∷ is) → Spans b m n (join i is) ↔ Spans b m n (i ∷ is)
join_spans i [] le s = (λ c. c, λ c. c)
join_spans {b} {m} {n} i (j ∷ js) le (more h s) = go (touches i j) refl (join_spans (grown i j) js le) (join_spans j js le s)
  where
    go : (t : Bool) → touches i j ≡ t → (Sorted (grown i j ∷ js) → Spans b m n (join (grown i j) js) ↔ Spans b m n (grown i j ∷ js)) → Spans b m n (join j js) ↔ Spans b m n (j ∷ js) → Spans b m n (cond t (join (grown i j) js) (i ∷ join j js)) ↔ Spans b m n (i ∷ (j ∷ js))
    go true e f g = let q = f (grown_sorted i j e h s) in (λ c. grown_out i j e h le (q.0 c), λ c. q.1 (grown_in i j e h c))
    go false e f g = (under g.0, under g.1)

merge_spans : {b m n : ℕ} (is : List Interval) → n ≤ suc m → Sorted is → Spans b m n (merge is) ↔ Spans b m n is
merge_spans [] le s = (λ c. c, λ c. c)
merge_spans (i ∷ is) le s = join_spans i is le s

-- points and gaps that merging keeps
pub merge_law : {b m n : ℕ} (is : List Interval) → n ≤ suc m → Spans b m n (merge (sort is)) ↔ Spans b m n is
merge_law is le =
    let k = merge_spans (sort is) le (sort_sorted is) in
    (λ s. sort_out is (k.0 s), λ s. k.1 (sort_in is s))

pub merge_points : {b n : ℕ} (is : List Interval) → Point b n (merge (sort is)) ↔ Point b n is
merge_points is = merge_law is (omega arith)

pub merge_gaps : {b n : ℕ} (is : List Interval) → Gap b n (merge (sort is)) ↔ Gap b n is
merge_gaps is = merge_law is (omega arith)

-- an operation lies in the merged intervals exactly when it lies in the intervals
pub merge_lies : {b o : ℕ} (is : List Interval) → Lies b o (merge (sort is)) ↔ Lies b o is
merge_lies {b} {o} is =
    let k = merge_points {b = b} {n = o + 1} is in
    (λ l. spans_lies (k.0 (lies_spans l)), λ l. spans_lies (k.1 (lies_spans l)))

-- ---- the normal form

-- j comes after i, with a gap between them where they are of one block
pub data Apart (i j : Interval) : Type 0 where
  farther : i.block < j.block → Apart i j
  gapped : i.block ≡ j.block → i.to < j.from → Apart i j

pub data Normal : List Interval → Type 0 where
  empty : Normal []
  one : {i : Interval} → i.from ≤ i.to → Normal (i ∷ [])
  next : {i j : Interval} {is : List Interval} → i.from ≤ i.to → Apart i j → Normal (j ∷ is) → Normal (i ∷ (j ∷ is))

-- every interval ends where it starts or after
abbrev pub Proper : List Interval → Type 0
Proper is = (i : Interval) → Memᴰ i is → i.from ≤ i.to

pub put : {i : Interval} (is : List Interval) → i.from ≤ i.to → ((j : Interval) → Memᴰ j is → Apart i j) → Normal is → Normal (i ∷ is)
put [] h f n = one h
put (j ∷ is) h f n = next h (f j (Memᴰ.head refl)) n

insert_member : {k : Interval} (i : Interval) (is : List Interval) → Memᴰ k (insert i is) → Memᴰ k (i ∷ is)
insert_member i [] m = m
insert_member {k} i (j ∷ js) m = go (before i j) (insert_member i js) m
  where
    swap : Memᴰ k (i ∷ js) → Memᴰ k (i ∷ j ∷ js)
    swap (Memᴰ.head e) = Memᴰ.head e
    swap (Memᴰ.tail h) = Memᴰ.tail (Memᴰ.tail h)

    go : (t : Bool) → (Memᴰ k (insert i js) → Memᴰ k (i ∷ js)) → Memᴰ k (cond t (i ∷ j ∷ js) (j ∷ insert i js)) → Memᴰ k (i ∷ j ∷ js)
    go true f h = h
    go false f (Memᴰ.head e) = Memᴰ.tail (Memᴰ.head e)
    go false f (Memᴰ.tail h) = swap (f h)

pub sort_member : {k : Interval} (is : List Interval) → Memᴰ k (sort is) → Memᴰ k is
sort_member [] m = m
sort_member {k} (i ∷ is) m = go (sort_member is) (insert_member i (sort is) m)
  where
    go : (Memᴰ k (sort is) → Memᴰ k is) → Memᴰ k (i ∷ sort is) → Memᴰ k (i ∷ is)
    go f (Memᴰ.head e) = Memᴰ.head e
    go f (Memᴰ.tail h) = Memᴰ.tail (f h)

ordered_trans : {i j k : Interval} → Ordered i j → Ordered j k → Ordered i k
ordered_trans (blocks h) (blocks g) = blocks (omega arith)
ordered_trans (blocks h) (starts p q) = blocks (omega arith)
ordered_trans (starts p q) (blocks g) = blocks (omega arith)
ordered_trans (starts p q) (starts r s) = starts (p ∙ r) (omega arith)

-- what a join gives starts no sooner than what it is given
join_low : {k : Interval} (i : Interval) (is : List Interval) → Sorted (i ∷ is) → Memᴰ k (join i is) → Ordered i k
join_low i [] s (Memᴰ.head e) = rw e (starts refl (omega arith))
join_low i [] s (Memᴰ.tail m) = absurd (Memᴰ.not-nil m)
join_low {k} i (j ∷ js) (more h s) m = go (touches i j) refl (join_low (grown i j) js) (join_low j js s) m
  where
    low : Ordered (grown i j) k → Ordered i k
    low (blocks g) = blocks g
    low (starts p q) = starts p q

    go : (t : Bool) → touches i j ≡ t → (Sorted (grown i j ∷ js) → Memᴰ k (join (grown i j) js) → Ordered (grown i j) k) → (Memᴰ k (join j js) → Ordered j k) → Memᴰ k (cond t (join (grown i j) js) (i ∷ join j js)) → Ordered i k
    go true e f g c = low (f (grown_sorted i j e h s) c)
    go false e f g (Memᴰ.head d) = rw d (starts refl (omega arith))
    go false e f g (Memᴰ.tail c) = ordered_trans h (g c)

untouched : {i j k : Interval} → touches i j ≡ false → Ordered i j → Ordered j k → Apart i k
untouched {i} {j} {k} e (blocks h) (blocks g) = farther (omega arith)
untouched {i} {j} {k} e (blocks h) (starts p q) = farther (omega arith)
untouched {i} {j} {k} e (starts p q) (blocks g) = farther (omega arith)
untouched {i} {j} {k} e (starts p q) (starts r s) =
    let t : leb j.from i.to ≡ false = rw (eq-eqb i.block j.block p) at e in
    gapped (p ∙ r) (omega (arith, leb-false j.from i.to t))

join_normal : (i : Interval) (is : List Interval) → Sorted (i ∷ is) → Proper (i ∷ is) → Normal (join i is)
join_normal i [] s p = one (p i (Memᴰ.head refl))
join_normal i (j ∷ js) (more h s) p = go (touches i j) refl (join_normal (grown i j) js) (join_normal j js s (λ k m. p k (Memᴰ.tail m)))
  where
    grown_proper : (k : Interval) → Memᴰ k (grown i j ∷ js) → k.from ≤ k.to
    grown_proper k (Memᴰ.head e) = rw e (omega (arith, p i (Memᴰ.head refl), furthest_left i.to j.to))
    grown_proper k (Memᴰ.tail m) = p k (Memᴰ.tail (Memᴰ.tail m))

    go : (t : Bool) → touches i j ≡ t → (Sorted (grown i j ∷ js) → Proper (grown i j ∷ js) → Normal (join (grown i j) js)) → Normal (join j js) → Normal (cond t (join (grown i j) js) (i ∷ join j js))
    go true e f g = f (grown_sorted i j e h s) grown_proper
    go false e f g = put (join j js) (p i (Memᴰ.head refl)) (λ k m. untouched e h (join_low j js s m)) g

merge_normal : (is : List Interval) → Sorted is → Proper is → Normal (merge is)
merge_normal [] s p = empty
merge_normal (i ∷ is) s p = join_normal i is s p

-- merging gives the normal form
pub merged_normal : (is : List Interval) → Proper is → Normal (merge (sort is))
merged_normal is p = merge_normal (sort is) (sort_sorted is) (λ i m. p i (sort_member is m))

-- ---- the normal form is unique

pub normal_head : {i : Interval} {is : List Interval} → Normal (i ∷ is) → i.from ≤ i.to
normal_head (one h) = h
normal_head (next h a n) = h

pub normal_tail : {i : Interval} {is : List Interval} → Normal (i ∷ is) → Normal is
normal_tail (one h) = empty
normal_tail (next h a n) = n

-- what the tail of a list in normal form spans is after its first interval
pub behind_head : {b m n : ℕ} {i : Interval} {is : List Interval} → Normal (i ∷ is) → Spans b m n is → (i.block < b) ⊎ ((i.block ≡ b) × (i.to < m))
behind_head (one h) s = absurd (nothing_spans s)
behind_head {b} {m} {n} {i} (next {j = j} h a k) s = go a s (behind_head k)
  where
    at_j : Apart i j → j.block ≡ b → j.from ≤ m → (i.block < b) ⊎ ((i.block ≡ b) × (i.to < m))
    at_j (farther g) p q = inl (omega arith)
    at_j (gapped e g) p q = inr (e ∙ p, omega arith)

    beyond : Apart i j → j.from ≤ j.to → (j.block < b) ⊎ ((j.block ≡ b) × (j.to < m)) → (i.block < b) ⊎ ((i.block ≡ b) × (i.to < m))
    beyond (farther g) t (inl q) = inl (omega arith)
    beyond (farther g) t (inr q) = inl (omega arith)
    beyond (gapped e g) t (inl q) = inl (omega arith)
    beyond (gapped e g) t (inr q) = inr (omega arith)

    go : {is : List Interval} → Apart i j → Spans b m n (j ∷ is) → (Spans b m n is → (j.block < b) ⊎ ((j.block ≡ b) × (j.to < m))) → (i.block < b) ⊎ ((i.block ≡ b) × (i.to < m))
    go c (first p q r) f = at_j c p q
    go c (rest t) f = beyond c (normal_head k) (f t)

lowest : {b m n : ℕ} {i : Interval} {is : List Interval} → Normal (i ∷ is) → Spans b m n (i ∷ is) → (i.block < b) ⊎ ((i.block ≡ b) × (i.from ≤ m))
lowest k (first p q r) = inr (p, q)
lowest {b} {m} {n} {i} k (rest s) = go (behind_head k s)
  where
    go : (i.block < b) ⊎ ((i.block ≡ b) × (i.to < m)) → (i.block < b) ⊎ ((i.block ≡ b) × (i.from ≤ m))
    go (inl h) = inl h
    go (inr h) = inr (h.0, omega (arith, normal_head k))

pub same_interval : {i j : Interval} → i.block ≡ j.block → i.from ≤ j.from → j.from ≤ i.from → i.to ≤ j.to → j.to ≤ i.to → i ≡ j
same_interval {i} {j} p q r s t =
    let f : i.from ≡ j.from = omega arith in
    let e : i.to ≡ j.to = omega arith in
    λ k. record { block = p k; from = f k; to = e k }

module _ {x y : Interval} {xs ys : List Interval} (nx : Normal (x ∷ xs)) (ny : Normal (y ∷ ys)) where
  first_same : Point x.block x.from (y ∷ ys) → Point y.block y.from (x ∷ xs) → (x.block ≡ y.block) × (x.from ≤ y.from) × (y.from ≤ x.from)
  first_same s t = go (lowest ny s) (lowest nx t)
    where
      go : (y.block < x.block) ⊎ ((y.block ≡ x.block) × (y.from ≤ x.from)) → (x.block < y.block) ⊎ ((x.block ≡ y.block) × (x.from ≤ y.from)) → (x.block ≡ y.block) × (x.from ≤ y.from) × (y.from ≤ x.from)
      go (inl p) (inl q) = absurd (omega arith)
      go (inl p) (inr q) = absurd (omega arith)
      go (inr p) (inl q) = absurd (omega arith)
      go (inr p) (inr q) = (q.0, q.1, p.1)

  ends_same : x.block ≡ y.block → y.from ≤ x.from → (Gap x.block x.to (y ∷ ys) → Gap x.block x.to (x ∷ xs)) → y.to ≤ x.to
  ends_same e f g = go (dec_le y.to x.to)
    where
      out : Gap x.block x.to (x ∷ xs) → ⊥
      out (first p q r) = omega arith
      out (rest s) = further (behind_head nx s)
        where
          further : (x.block < x.block) ⊎ ((x.block ≡ x.block) × (x.to < x.to)) → ⊥
          further (inl h) = omega arith
          further (inr h) = omega arith

      go : Dec (y.to ≤ x.to) → y.to ≤ x.to
      go (yes h) = h
      go (no h) = absurd (out (g (first {i = y} (sym e) (omega (arith, normal_head nx)) (omega arith))))

  tail_same : {b m n : ℕ} → m ≤ n → x ≡ y → (Spans b m n (x ∷ xs) → Spans b m n (y ∷ ys)) → Spans b m n xs → Spans b m n ys
  tail_same {b} {m} {n} le e f s = go (f (rest s))
    where
      further : (x.block < b) ⊎ ((x.block ≡ b) × (x.to < m)) → y.block ≡ b → n ≤ y.to → ⊥
      further (inl h) p r = omega (arith, ap (λ (i : Interval). i.block) e)
      further (inr h) p r = omega (arith, ap (λ (i : Interval). i.to) e)

      go : Spans b m n (y ∷ ys) → Spans b m n ys
      go (first p q r) = absurd (further (behind_head nx s) p r)
      go (rest t) = t

-- two lists in normal form that cover the same points and the same gaps are equal
pub normal_unique : (is js : List Interval) → Normal is → Normal js
    → ((b n : ℕ) → Point b n is ↔ Point b n js) → ((b n : ℕ) → Gap b n is ↔ Gap b n js) → is ≡ js
normal_unique [] [] ni nj points gaps = refl
normal_unique [] (j ∷ js) ni nj points gaps = absurd (nothing_spans ((points j.block j.from).1 (first refl (omega arith) (normal_head nj))))
normal_unique (i ∷ is) [] ni nj points gaps = absurd (nothing_spans ((points i.block i.from).0 (first refl (omega arith) (normal_head ni))))
normal_unique (i ∷ is) (j ∷ js) ni nj points gaps =
    let h = first_same ni nj ((points i.block i.from).0 (first refl (omega arith) (normal_head ni))) ((points j.block j.from).1 (first refl (omega arith) (normal_head nj))) in
    let e : i ≡ j = same_interval h.0 h.1 h.2 (ends_same nj ni (sym h.0) h.1 (gaps j.block j.to).0) (ends_same ni nj h.0 h.2 (gaps i.block i.to).1) in
    let t : is ≡ js = normal_unique is js (normal_tail ni) (normal_tail nj)
    (λ b n. (tail_same ni nj (omega arith) e (points b n).0, tail_same nj ni (omega arith) (sym e) (points b n).1))
    (λ b n. (tail_same ni nj (omega arith) e (gaps b n).0, tail_same nj ni (omega arith) (sym e) (gaps b n).1)) in
    cc

-- so any list in normal form that covers what the intervals cover is their merge
pub merge_unique : (is js : List Interval) → Proper is → Normal js
    → ((b n : ℕ) → Point b n js ↔ Point b n is) → ((b n : ℕ) → Gap b n js ↔ Gap b n is) → js ≡ merge (sort is)
merge_unique is js p nj points gaps = normal_unique js (merge (sort is)) nj (merged_normal is p)
    (λ b n. (λ s. (merge_points is).1 ((points b n).0 s), λ s. (points b n).1 ((merge_points is).0 s)))
    (λ b n. (λ s. (merge_gaps is).1 ((gaps b n).0 s), λ s. (gaps b n).1 ((merge_gaps is).0 s)))
