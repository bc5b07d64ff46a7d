-- The fields of intervals and allocations fit a word, and an interval's end is not 0.
use mathlib.Core.Path.{◌≡◌, refl}
use mathlib.Core.Bool.{Bool, true, false, ◌&&◌, ◌||◌, cond}
use mathlib.Core.List.Memᴰ
use mathlib.Core.List.{List, [], ◌∷◌, ◌++◌, map, foldr}
use Prim.Native.Nat.{ℕ, suc, ◌<◌}
use native.Mathlib.Omega.{arith}
use lib.ListN.{length, get_or}
use lib.Dec.{eqb, leb}
use borrow.Author.Tests.{eqb-false}
use Rattle.plank_core.specs.Lists.{bind, keep, mem, ◌∈◌}
use Rattle.plank_core.specs.laws.Lists.{keep_out, map_each, bind_out, get_or_mem}
use Rattle.sir_data.specs.Records.{blocks, operations, locals, ops, ins, outs, code}
use Rattle.sir_data.specs.inner.WellFormed.{WellFormed}
use Rattle.sir_data.specs.Codes.{is_alloc}
use Rattle.sir_analyses.specs.Order.{blocks_rpo}
use Rattle.sir_analyses.specs.Liveness.{Set, has, members, Interval, Scan, close, closing, scan_op, block_end, block_intervals, intervals, exit_set, end_reads}
use Rattle.sir_analyses.specs.Allocation.{Alloc, no_alloc, allocs, alloc_at, base, before, insert, sort, furthest, join, merge, marked, merged, reach}
use Rattle.sir_analyses.proofs.claims.order.OrderProof.{blocks_below}

pub record Good (i : Interval) : Type 0 where
  pub block_small : i.block < 4294967296
  pub start_small : i.from < 4294967296
  pub end_some : 0 < i.to
  pub end_small : i.to < 4294967296

abbrev pub Goods : List Interval → Type 0
Goods [] = Unit {0}
Goods (i ∷ is) = Good i × Goods is

goods_append : (xs ys : List Interval) → Goods xs → Goods ys → Goods (xs ++ ys)
goods_append [] ys g h = h
goods_append (x ∷ xs) ys g h = (g.0, goods_append xs ys g.1 h)

goods_bind : (f : ℕ → List Interval) (bs : List ℕ) → ((b : ℕ) → b ∈ bs → Goods (f b)) → Goods (bind bs f)
goods_bind f [] h = tt
goods_bind f (b ∷ bs) h = goods_append (f b) (bind bs f) (h b (Memᴰ.head refl)) (goods_bind f bs (λ x m. h x (Memᴰ.tail m)))

-- ---- the intervals of a local

record ScanOk (c : Scan) : Type 0 where
  open_small : c.open' < 4294967296
  closed_good : Goods c.closed

close_ok : (b from : ℕ) (c : Scan) → b < 4294967296 → from < 4294967296 → ScanOk c → ScanOk (close b from c)
close_ok b from c p q k = record { open_small = omega arith; closed_good = goods_append c.closed (closing b from c.open') k.closed_good (go (eqb c.open' 0) refl) }
  where
    go : (t : Bool) → eqb c.open' 0 ≡ t → Goods (cond t [] (record { block = b; from = from; to = c.open' } ∷ []))
    go true e = tt
    go false e =
        let n : ¬ (c.open' ≡ 0) = eqb-false c.open' 0 e in
        (record { block_small = p; start_small = q; end_some = omega arith; end_small = k.open_small }, tt)

scan_ok : (w : List ℕ) (b v o : ℕ) (c : Scan) → b < 4294967296 → suc o < 4294967296 → ScanOk c → ScanOk (scan_op w b v o c)
scan_ok w b v o c p q k = second _ (first (mem v (outs w o))) (mem v (ins w o) && eqb (cond (mem v (outs w o)) (close b (suc o) c) c).open' 0)
  where
    first : (t : Bool) → ScanOk (cond t (close b (suc o) c) c)
    first true = close_ok b (suc o) c p q k
    first false = k

    second : (d : Scan) → ScanOk d → (t : Bool) → ScanOk (cond t (record { open' = suc o; closed = d.closed }) d)
    second d h true = record { open_small = q; closed_good = h.closed_good }
    second d h false = h

scans_ok : (w : List ℕ) (b v : ℕ) (c : Scan) (os : List ℕ) → b < 4294967296 → ((o : ℕ) → o ∈ os → suc o < 4294967296) → ScanOk c → ScanOk (foldr (scan_op w b v) c os)
scans_ok w b v c [] p q k = k
scans_ok w b v c (o ∷ os) p q k =
    scan_ok w b v o (foldr (scan_op w b v) c os) p (q o (Memᴰ.head refl)) (scans_ok w b v c os p (λ x m. q x (Memᴰ.tail m)) k)

-- ---- merged

insert_good : (i : Interval) (js : List Interval) → Good i → Goods js → Goods (insert i js)
insert_good i [] g h = (g, tt)
insert_good i (j ∷ js) g h = go (before i j) (insert_good i js g h.1)
  where
    go : (t : Bool) → Goods (insert i js) → Goods (cond t (i ∷ j ∷ js) (j ∷ insert i js))
    go true k = (g, h)
    go false k = (h.0, k)

sort_good : (is : List Interval) → Goods is → Goods (sort is)
sort_good [] h = tt
sort_good (i ∷ is) h = insert_good i (sort is) h.0 (sort_good is h.1)

grown_good : (i j : Interval) → Good i → Good j → Good (record { block = i.block; from = i.from; to = furthest i.to j.to })
grown_good i j g h = record { block_small = g.block_small; start_small = g.start_small; end_some = some (leb i.to j.to); end_small = less (leb i.to j.to) }
  where
    some : (t : Bool) → 0 < cond t j.to i.to
    some true = h.end_some
    some false = g.end_some

    less : (t : Bool) → cond t j.to i.to < 4294967296
    less true = h.end_small
    less false = g.end_small

join_good : (i : Interval) (js : List Interval) → Good i → Goods js → Goods (join i js)
join_good i [] g h = (g, tt)
join_good i (j ∷ js) g h =
    go (eqb i.block j.block && leb j.from i.to)
    (join_good (record { block = i.block; from = i.from; to = furthest i.to j.to }) js (grown_good i j g h.0) h.1)
    (join_good j js h.0 h.1)
  where
    go : (t : Bool) → Goods (join (record { block = i.block; from = i.from; to = furthest i.to j.to }) js) → Goods (join j js)
        → Goods (cond t (join (record { block = i.block; from = i.from; to = furthest i.to j.to }) js) (i ∷ join j js))
    go true a b = a
    go false a b = (g, b)

merge_good : (is : List Interval) → Goods is → Goods (merge is)
merge_good [] h = tt
merge_good (i ∷ is) h = join_good i is h.0 h.1

module _ (w : List ℕ) (good : WellFormed w) where
  op_small : (b o : ℕ) → b < blocks w → o ∈ ops w b → suc o < 4294967296
  op_small b o l m = omega (arith, good.in_range.op b o l m, good.sized.operations_most)

  block_good : (exit : Set) (v b : ℕ) → b < blocks w → Goods (block_intervals w exit v b)
  block_good exit v b l =
      let p : b < 4294967296 = omega (arith, good.sized.blocks_most) in
      (close_ok b 0 _ p (omega arith) (scans_ok w b v _ (ops w b) p (λ o. op_small b o l) (start (has exit v || mem v (end_reads w b))))).closed_good
    where
      start : (t : Bool) → ScanOk (record { open' = cond t block_end 0; closed = [] })
      start true = record { open_small = omega arith; closed_good = tt }
      start false = record { open_small = omega arith; closed_good = tt }

  pub intervals_good : (v : ℕ) → Goods (intervals w v)
  intervals_good v = goods_bind (λ b. block_intervals w (exit_set w b) v b) (blocks_rpo w) (λ b m. block_good (exit_set w b) v b (blocks_below w good b m))

  pub merged_good : (a : ℕ) → Goods (merged w a)
  merged_good a = go (marked w a)
    where
      go : (t : Bool) → Goods (cond t [] (merge (sort (bind (members (reach w (alloc_at w a))) (intervals w)))))
      go true = tt
      go false = merge_good (sort (bind (members (reach w (alloc_at w a))) (intervals w))) (sort_good (bind (members (reach w (alloc_at w a))) (intervals w)) (goods_bind (intervals w) (members (reach w (alloc_at w a))) (λ v m. intervals_good v)))

  -- ---- an allocation

  pub alloc_within : (a : ℕ) → a < length (allocs w) → ((alloc_at w a).block < blocks w) × ((alloc_at w a).op < operations w)
  alloc_within a l =
      let f : ℕ → List Alloc = λ b. map (λ o. record { block = b; op = o }) (keep (λ o. is_alloc (code w o)) (ops w b)) in
      let r = bind_out f (blocks_rpo w) (get_or_mem (allocs w) a no_alloc l) in
      let b = blocks_below w good r.0 r.1 in
      map_each (λ (x : Alloc). (x.block < blocks w) × (x.op < operations w)) (λ o. record { block = r.0; op = o }) (keep (λ o. is_alloc (code w o)) (ops w r.0))
      (λ o m. (b, good.in_range.op r.0 o b (keep_out (λ o. is_alloc (code w o)) (ops w r.0) m).0))
      (alloc_at w a) r.2

  pub base_small : (x : Alloc) → x.op < operations w → base w x < 4294967296
  base_small x l = go (outs w x.op) (λ v. good.in_range.written x.op v l)
    where
      go : (vs : List ℕ) → ((v : ℕ) → v ∈ vs → v < locals w) → get_or vs 0 0 < 4294967296
      go [] h = omega arith
      go (v ∷ vs) h = omega (arith, h v (Memᴰ.head refl), good.sized.locals_most)
