-- The source's `merge_intervals`, which merges in place with two places, gives what `merge` gives of the sorted intervals.
use mathlib.Core.Path.{◌≡◌, refl, sym, ap, ap₂, ◌∙◌, subst}
use mathlib.Core.Logic.{⊎_elim}
use mathlib.Core.Bool.{Bool, true, false, ◌&&◌, ◌||◌, cond}
use Prim.Native.Nat.{ℕ, suc, ◌+◌, ◌-◌, ◌≤◌, ◌<◌}
use native.Mathlib.Omega.{arith}
use native.Mathlib.Numerals.{add-one}
use mathlib.Core.List.{List, [], ◌∷◌, ◌++◌, append_assoc, Memᴰ}
use lib.ListN.{length, get_or, take, drop, set, length-set, length-append}
use lib.Seq.{take-suc-set, drop-set-lt, drop-drop, get_or-take, get_or-drop, get_or_at, take_at, take-take}
use lib.Dec.{eqb, leb, ltb}
use borrow.Author.Tests.{eqb-true, eqb-false, ltb-true, ltb-false, lt-ltb, le-ltb, le-leb, lt-leb}
use Rattle.plank_core.specs.Lists.{foldl, count}
use Rattle.plank_core.specs.laws.Lists.{same_tests, or_cases, or_true_right}
use Rattle.sir_analyses.specs.Liveness.{Interval, block_end}
use Rattle.sir_analyses.specs.Allocation.{before, insert, sort, furthest, join, merge}
use Rattle.sir_analyses.specs.SourceIntervals.{Ordering, less, equal, greater, cmp, start_cmp, end_cmp, then_with, interval_cmp, up_to, end_max, insert_sorted, sorted, Merging, no_interval, overlaps, merge_at, merge_sorted, merge_intervals}
use Rattle.sir_analyses.proofs.claims.lifetimes.Merging.{sort_member}

-- ---- `Ord`: among the numbers of starts and ends it is the order of numbers

-- a start or an end is no later than every block end
abbrev pub Numbered : Interval → Type 0
Numbered i = (i.from ≤ block_end) × (i.to ≤ block_end)

abbrev pub AllNumbered : List Interval → Type 0
AllNumbered is = (i : Interval) → Memᴰ i is → Numbered i

start_cmp_lem : (a b : ℕ) → start_cmp a b ≡ cmp a b
start_cmp_lem a b = go (eqb a b) refl (eqb a 0) refl (eqb b 0) refl
  where
    go : (s : Bool) → eqb a b ≡ s → (t : Bool) → eqb a 0 ≡ t → (u : Bool) → eqb b 0 ≡ u
        → cond s equal (cond t less (cond u greater (cmp a b))) ≡ cond s equal (cond (ltb a b) less greater)
    go true e t f u g = refl
    go false e true f u g =
        let p : ¬ (a ≡ b) = eqb-false a b e in
        let q : a ≡ 0 = eqb-true a 0 f in
        ap (λ (x : Bool). cond x less greater) (sym (lt-ltb a b (omega arith)))
    go false e false f true g = let q : b ≡ 0 = eqb-true b 0 g in ap (λ (x : Bool). cond x less greater) (sym (le-ltb a b (omega arith)))
    go false e false f false g = ap (λ (x : Bool). cond x equal (cond (ltb a b) less greater)) e

end_cmp_lem : (a b : ℕ) → a ≤ block_end → b ≤ block_end → end_cmp a b ≡ cmp a b
end_cmp_lem a b k l = go (eqb a b) refl (eqb a block_end) refl (eqb b block_end) refl
  where
    go : (s : Bool) → eqb a b ≡ s → (t : Bool) → eqb a block_end ≡ t → (u : Bool) → eqb b block_end ≡ u
        → cond s equal (cond t greater (cond u less (cmp a b))) ≡ cond s equal (cond (ltb a b) less greater)
    go true e t f u g = refl
    go false e true f u g =
        let q : a ≡ block_end = eqb-true a block_end f in
        ap (λ (x : Bool). cond x less greater) (sym (le-ltb a b (omega arith)))
    go false e false f true g =
        let p : ¬ (a ≡ block_end) = eqb-false a block_end f in
        let q : b ≡ block_end = eqb-true b block_end g in
        ap (λ (x : Bool). cond x less greater) (sym (lt-ltb a b (omega arith)))
    go false e false f false g = ap (λ (x : Bool). cond x equal (cond (ltb a b) less greater)) e

cmp_up : (a b : ℕ) → up_to (cmp a b) ≡ leb a b
cmp_up a b = go (eqb a b) refl (ltb a b) refl
  where
    go : (s : Bool) → eqb a b ≡ s → (t : Bool) → ltb a b ≡ t → up_to (cond s equal (cond t less greater)) ≡ leb a b
    go true e t f = let q : a ≡ b = eqb-true a b e in sym (le-leb a b (omega arith))
    go false e true f = sym (le-leb a b (omega (arith, ltb-true a b f)))
    go false e false f = let p : ¬ (a ≡ b) = eqb-false a b e in sym (lt-leb a b (omega (arith, ltb-false a b f)))

cmp_then : (a b : ℕ) (o : Ordering) → up_to (then_with (cmp a b) o) ≡ (ltb a b || (eqb a b && up_to o))
cmp_then a b o = go (eqb a b) refl (ltb a b) refl
  where
    go : (s : Bool) → eqb a b ≡ s → (t : Bool) → ltb a b ≡ t → up_to (then_with (cond s equal (cond t less greater)) o) ≡ (t || (s && up_to o))
    go true e true f = let q : a ≡ b = eqb-true a b e in absurd (omega (arith, ltb-true a b f))
    go true e false f = refl
    go false e true f = refl
    go false e false f = refl

before_is : (i j : Interval) → Numbered i → Numbered j → up_to (interval_cmp i j) ≡ before i j
before_is i j k l =
    cmp_then i.block j.block (then_with (start_cmp i.from j.from) (end_cmp i.to j.to))
    ∙ ap (λ (t : Bool). ltb i.block j.block || (eqb i.block j.block && t))
    (ap₂ (λ x y. up_to (then_with x y)) (start_cmp_lem i.from j.from) (end_cmp_lem i.to j.to k.1 l.1)
    ∙ cmp_then i.from j.from (cmp i.to j.to)
    ∙ ap (λ (t : Bool). ltb i.from j.from || (eqb i.from j.from && t)) (cmp_up i.to j.to))

max_is : (a b : ℕ) → a ≤ block_end → b ≤ block_end → end_max a b ≡ furthest a b
max_is a b k l = ap (λ (t : Bool). cond t b a) (ap up_to (end_cmp_lem a b k l) ∙ cmp_up a b)

insert_is : (i : Interval) (js : List Interval) → Numbered i → AllNumbered js → insert_sorted i js ≡ insert i js
insert_is i [] k l = refl
insert_is i (j ∷ js) k l =
    ap₂ (λ (t : Bool) (r : List Interval). cond t (i ∷ j ∷ js) (j ∷ r)) (before_is i j k (l j (Memᴰ.head refl))) (insert_is i js k (λ x m. l x (Memᴰ.tail m)))

sorted_is : (is : List Interval) → AllNumbered is → sorted is ≡ sort is
sorted_is [] l = refl
sorted_is (i ∷ is) l =
    let rest : AllNumbered is = λ x m. l x (Memᴰ.tail m) in
    ap (insert_sorted i) (sorted_is is rest) ∙ insert_is i (sort is) (l i (Memᴰ.head refl)) (λ x m. rest x (sort_member is m))

-- ---- merging in place

-- the source's cases are one comparison
overlaps_is : (i j : Interval) → j.from ≤ block_end → overlaps i j ≡ (eqb i.block j.block && leb j.from i.to)
overlaps_is i j l = ap (λ (t : Bool). eqb i.block j.block && t) (same_tests ((eqb i.to block_end || eqb j.from 0) || leb j.from i.to) (leb j.from i.to) there (or_true_right (eqb i.to block_end || eqb j.from 0) (leb j.from i.to)))
  where
    there : ((eqb i.to block_end || eqb j.from 0) || leb j.from i.to) ≡ true → leb j.from i.to ≡ true
    there t =
        ⊎_elim
        (λ (s : (eqb i.to block_end || eqb j.from 0) ≡ true).
        ⊎_elim
        (λ (e : eqb i.to block_end ≡ true). let q : i.to ≡ block_end = eqb-true i.to block_end e in le-leb j.from i.to (subst (λ (n : ℕ). j.from ≤ n) (sym q) l))
        (λ (e : eqb j.from 0 ≡ true). let q : j.from ≡ 0 = eqb-true j.from 0 e in le-leb j.from i.to (omega arith))
        (or_cases (eqb i.to block_end) (eqb j.from 0) s))
        (λ (s : leb j.from i.to ≡ true). s)
        (or_cases (eqb i.to block_end || eqb j.from 0) (leb j.from i.to) t)

-- before place k: `done` and then `last` are merged; from place k on `rest` is still to be looked at
record Merged (done : List Interval) (last : Interval) (k : ℕ) (rest : List Interval) (m : Merging) : Type 0 where
  place : length done ≡ m.dst
  merged : take (suc m.dst) m.intervals ≡ done ++ (last ∷ [])
  behind : m.dst < k
  whole : k + length rest ≡ length m.intervals
  left : drop k m.intervals ≡ rest

module _ (done : List Interval) (last : Interval) (k : ℕ) (j : Interval) (js : List Interval) (m : Merging) (h : Merged done last k (j ∷ js) m) where
  abbrev is : List Interval
  is = m.intervals

  last_at : get_or is m.dst no_interval ≡ last
  last_at =
      sym (get_or-take (suc m.dst) is m.dst no_interval (omega arith))
      ∙ ap (λ (xs : List Interval). get_or xs m.dst no_interval) h.merged ∙ get_or_at done last [] no_interval m.dst h.place

  next_at : get_or is k no_interval ≡ j
  next_at =
      ap (λ (n : ℕ). get_or is n no_interval) (omega arith) ∙ sym (get_or-drop k is 0 no_interval) ∙ ap (λ (xs : List Interval). get_or xs 0 no_interval) h.left

  left_next : drop (suc k) is ≡ js
  left_next = ap (λ (n : ℕ). drop n is) (sym (add-one k)) ∙ sym (drop-drop 1 k is) ∙ ap (drop 1) h.left

  abbrev grown : Interval
  grown = record { block = last.block; from = last.from; to = furthest last.to j.to }

  -- the end moves
  joined : Merged done grown (suc k) js (record { intervals = set is m.dst grown; dst = m.dst })
  joined = record {
    place = h.place;
    merged =
        let b = h.behind in
        take-suc-set is m.dst grown (omega arith) ∙ ap (λ (xs : List Interval). xs ++ (grown ∷ [])) front;
    behind = let b = h.behind in omega arith;
    whole = let w = h.whole in omega (arith, length-set is m.dst grown);
    left = let b = h.behind in drop-set-lt (suc k) is m.dst grown (omega arith) ∙ left_next;
  }
    where
      front : take m.dst is ≡ done
      front =
          sym (take-take m.dst (suc m.dst) is (omega arith)) ∙ ap (take m.dst) h.merged ∙ take_at done (last ∷ []) m.dst h.place

  -- the interval goes after the others
  apart : Merged (done ++ (last ∷ [])) j (suc k) js (record { intervals = set is (suc m.dst) j; dst = suc m.dst })
  apart = record {
    place = let p = h.place in omega (arith, length-append done (last ∷ []));
    merged =
        let b = h.behind in
        take-suc-set is (suc m.dst) j (omega arith) ∙ ap (λ (xs : List Interval). xs ++ (j ∷ [])) h.merged;
    behind = let b = h.behind in omega arith;
    whole = let w = h.whole in omega (arith, length-set is (suc m.dst) j);
    left = let b = h.behind in drop-set-lt (suc k) is (suc m.dst) j (omega arith) ∙ left_next;
  }

-- what `truncate` leaves
abbrev kept : Merging → List Interval
kept m = take (suc m.dst) m.intervals

module _ (done : List Interval) (last : Interval) (k : ℕ) (j : Interval) (js : List Interval) (m : Merging) (h : Merged done last k (j ∷ js) m) where
  abbrev moved : Merging
  moved = record { intervals = set m.intervals m.dst (grown done last k j js m h); dst = m.dst }

  abbrev added : Merging
  added = record { intervals = set m.intervals (suc m.dst) j; dst = suc m.dst }

  merge_step : Numbered last → Numbered j → merge_at m k ≡ cond (eqb last.block j.block && leb j.from last.to) moved added
  merge_step r l =
      ap₂ both (last_at done last k j js m h) (next_at done last k j js m h)
      ∙ ap₂ (λ (t : Bool) (e : ℕ). cond t (record { intervals = set m.intervals m.dst (record { block = last.block; from = last.from; to = e }); dst = m.dst }) added) (overlaps_is last j l.0) (max_is last.to j.to r.1 l.1)
    where
      both : Interval → Interval → Merging
      both prev cur =
          cond (overlaps prev cur)
          (record { intervals = set m.intervals m.dst (record { block = prev.block; from = prev.from; to = end_max prev.to cur.to }); dst = m.dst })
          (record { intervals = set m.intervals (suc m.dst) cur; dst = suc m.dst })

furthest_below : (a b : ℕ) → a ≤ block_end → b ≤ block_end → furthest a b ≤ block_end
furthest_below a b k l = go (leb a b)
  where
    go : (t : Bool) → cond t b a ≤ block_end
    go true = l
    go false = k

merge_loop : (done : List Interval) (last : Interval) (k : ℕ) (rest : List Interval) (m : Merging) → Merged done last k rest m → Numbered last → AllNumbered rest
    → kept (foldl merge_at m (count k (length rest))) ≡ done ++ join last rest
merge_loop done last k [] m h r s = h.merged
merge_loop done last k (j ∷ js) m h r s =
    let here = s j (Memᴰ.head refl) in
    let more : AllNumbered js = λ i n. s i (Memᴰ.tail n) in
    ap (λ (e : Merging). kept (foldl merge_at e (count (suc k) (length js)))) (merge_step done last k j js m h r here)
    ∙ go (eqb last.block j.block && leb j.from last.to)
    (merge_loop done (grown done last k j js m h) (suc k) js (moved done last k j js m h) (joined done last k j js m h) (r.0, furthest_below last.to j.to r.1 here.1) more)
    (merge_loop (done ++ (last ∷ [])) j (suc k) js (added done last k j js m h) (apart done last k j js m h) here more)
  where
    go : (t : Bool) → kept (foldl merge_at (moved done last k j js m h) (count (suc k) (length js))) ≡ done ++ join (grown done last k j js m h) js
        → kept (foldl merge_at (added done last k j js m h) (count (suc k) (length js))) ≡ (done ++ (last ∷ [])) ++ join j js
        → kept (foldl merge_at (cond t (moved done last k j js m h) (added done last k j js m h)) (count (suc k) (length js))) ≡ done ++ cond t (join (grown done last k j js m h) js) (last ∷ join j js)
    go true e f = e
    go false e f = f ∙ append_assoc done (last ∷ []) (join j js)

merge_sorted_lem : (is : List Interval) → AllNumbered is → merge_sorted is ≡ merge is
merge_sorted_lem [] s = refl
merge_sorted_lem (i ∷ is) s =
    let n : suc (length is) - 1 ≡ length is = omega arith in
    let m : Merging = record { intervals = i ∷ is; dst = 0 } in
    ap (λ (c : ℕ). kept (foldl merge_at m (count 1 c))) n
    ∙ merge_loop [] i 1 is m (record { place = refl; merged = refl; behind = omega arith; whole = omega arith; left = refl }) (s i (Memᴰ.head refl)) (λ j k. s j (Memᴰ.tail k))

pub merge_same : (is : List Interval) → AllNumbered is → merge_intervals is ≡ merge (sort is)
merge_same [] s = refl
merge_same (i ∷ []) s = refl
merge_same (i ∷ (j ∷ is)) s =
    let all : List Interval = i ∷ (j ∷ is) in
    ap (λ (t : Bool). cond t all (merge_sorted (sorted all))) (lt-leb (length all) 1 (omega arith))
    ∙ ap merge_sorted (sorted_is all s) ∙ merge_sorted_lem (sort all) (λ x m. s x (sort_member all m))
