-- Merged intervals of the allocations as the source makes them: `populate_intervals_from_local_liveness` and `merge_intervals` of
-- allocation_liveness.rs, which merges in place, over the `Ord` of intervals of local_liveness.rs. The numbers are lines of these files.
-- Starts and ends are the numbers of the answer.
use Rattle.std.specs.Prelude.{Bool, true, false, ◌&&◌, ◌||◌, cond, ℕ, suc, ◌-◌, length, get_or, set, take, replicate, eqb, leb, ltb}
use mathlib.Core.List.{List, [], ◌∷◌, foldr}
use Rattle.plank_core.specs.Lists.{foldl, range, upto}
use Rattle.sir_data.specs.Records.{locals}
use Rattle.sir_analyses.specs.Liveness.{has, Interval, block_end}
use Rattle.sir_analyses.specs.Allocation.{allocs}
use Rattle.sir_analyses.specs.Propagation.{State}
use Rattle.sir_analyses.specs.SourceUses.{push}
use Rattle.sir_analyses.specs.SourceLiveness.{source_local_intervals}
use Rattle.sir_analyses.specs.Source.{source_state}

-- ---- `Ord` of intervals, in local_liveness.rs

-- what `cmp` answers
pub data Ordering : Type 0 where
  less : Ordering
  equal : Ordering
  greater : Ordering

-- `cmp` of blocks and of operations
abbrev pub cmp : ℕ → ℕ → Ordering
cmp a b = cond (eqb a b) equal (cond (ltb a b) less greater)

-- of `IntervalStart` (20 to 29): `BlockStart` is before every operation
abbrev pub start_cmp : ℕ → ℕ → Ordering
start_cmp a b = cond (eqb a b) equal (cond (eqb a 0) less (cond (eqb b 0) greater (cmp a b)))

-- of `IntervalEnd` (43 to 52): `BlockEnd` is after every operation
abbrev pub end_cmp : ℕ → ℕ → Ordering
end_cmp a b = cond (eqb a b) equal (cond (eqb a block_end) greater (cond (eqb b block_end) less (cmp a b)))

-- `then_with`: where the first are equal, the second decide
abbrev pub then_with : Ordering → Ordering → Ordering
then_with less o = less
then_with equal o = o
then_with greater o = greater

-- of a block and an `Interval` (66 to 70): the block, then the start, then the end
abbrev pub interval_cmp : Interval → Interval → Ordering
interval_cmp i j = then_with (cmp i.block j.block) (then_with (start_cmp i.from j.from) (end_cmp i.to j.to))

-- is the first at or before the second?
abbrev pub up_to : Ordering → Bool
up_to less = true
up_to equal = true
up_to greater = false

-- `max` of two ends: the second, unless the first is greater
abbrev pub end_max : ℕ → ℕ → ℕ
end_max a b = cond (up_to (end_cmp a b)) b a

-- an interval put before the first that it is at or before
abbrev pub insert_sorted : Interval → List Interval → List Interval
insert_sorted i [] = i ∷ []
insert_sorted i (j ∷ js) = cond (up_to (interval_cmp i j)) (i ∷ j ∷ js) (j ∷ insert_sorted i js)

-- `sort`, by this `cmp`
abbrev pub sorted : List Interval → List Interval
sorted is = foldr insert_sorted [] is

-- ---- merge_intervals, in allocation_liveness.rs

-- the array, and the place `dst` of the interval merged last
pub record Merging : Type 0 where
  pub intervals : List Interval
  pub dst : ℕ

-- what is read past the end of the array, which is never done
abbrev pub no_interval : Interval
no_interval = record { block = 0; from = 0; to = 0 }

-- 352 to 356, `overlaps`: one block, and an end at the block's end, or a start at its start, or a start at or before the end
abbrev pub overlaps : Interval → Interval → Bool
overlaps prev cur = eqb prev.block cur.block && (eqb prev.to block_end || eqb cur.from 0 || leb cur.from prev.to)

-- 349 to 367, the interval at `src`: one that overlaps that at `dst` moves its end, another goes after it
abbrev pub merge_at : Merging → ℕ → Merging
merge_at m src =
    let prev = get_or m.intervals m.dst no_interval in
    let cur = get_or m.intervals src no_interval in
    cond (overlaps prev cur)
    (record { intervals = set m.intervals m.dst (record { block = prev.block; from = prev.from; to = end_max prev.to cur.to }); dst = m.dst })
    (record { intervals = set m.intervals (suc m.dst) cur; dst = suc m.dst })

-- 347 to 369, an array once it is sorted: `src` from 1 on, then `truncate`
abbrev pub merge_sorted : List Interval → List Interval
merge_sorted is =
    let m = foldl merge_at (record { intervals = is; dst = 0 }) (range 1 (length is)) in
    take (suc m.dst) m.intervals

-- `merge_intervals` (340 to 370): one interval or none stays as it is
abbrev pub merge_intervals : List Interval → List Interval
merge_intervals is = cond (leb (length is) 1) is (merge_sorted (sorted is))

-- ---- populate_intervals_from_local_liveness, there too

-- 297 to 302, local v of `local_to_alloc`: its intervals are pushed to the allocation that owns it, unless that escapes
abbrev pub push_intervals : (ℕ → List Interval) → State → List (List Interval) → ℕ → List (List Interval)
push_intervals intervals_of s t v =
    let owner = get_or s.owner v 0 in
    cond (eqb owner 0 || has s.marks (owner - 1)) t (foldl (λ u i. push u (owner - 1) i) t (intervals_of v))

-- 296 to 303: `intervals` of each allocation, before they are merged
abbrev pub pushed_intervals : List ℕ → List (List Interval)
pushed_intervals w = foldl (push_intervals (source_local_intervals w) (source_state w)) (replicate (length (allocs w)) []) (upto (locals w))

-- 305 to 310, allocation a: where it does not escape, they are merged
abbrev pub source_intervals : List ℕ → ℕ → List Interval
source_intervals w a = let is = get_or (pushed_intervals w) a [] in cond (has (source_state w).marks a) is (merge_intervals is)
