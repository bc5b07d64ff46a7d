-- Allocations as numbers, block by block and read back, and their bases.
use mathlib.Core.Path.{◌≡◌, refl, sym, ap, ap₂, subst, ◌∙◌}
use mathlib.Core.Bool.{Bool, true, false, not, not-not}
use mathlib.Core.List.{List, [], ◌∷◌, ◌++◌, map}
use Prim.Native.Nat.{ℕ, suc, ◌+◌, ◌*◌, ◌/◌, ◌%◌, ◌≤◌, ◌<◌}
use native.Mathlib.Omega.{arith}
use native.Mathlib.Numerals.{add-one}
use borrow.Author.Tests.{not-true, not-false}
use lib.ListN.{length, get_or, drop, set, replicate, length-set, length-replicate, length-map, get_or-map}
use Rattle.plank_core.specs.Lists.{foldl, range, bind, keep, upto, distinct, ◌∈◌}
use Rattle.plank_core.specs.laws.Lists.{map_each, foldl_keeps, mem_place, get_d_any, zero_at}
use Rattle.plank_core.specs.laws.Loops.{upto_suc, range_next, map_append, distinct_few}
use Rattle.plank_core.specs.inner.DenseIndexSet.{contains, word_of, set_of, empty_set, added, fresh}
use Rattle.plank_core.specs.laws.Distinct.{fresh_all, fresh_step, fresh_stop, fresh_end}
use Rattle.plank_core.specs.laws.DenseIndexSet.{length_added}
use Rattle.sir_data.specs.Records.{operations, locals, block_word, ops, code}
use Rattle.sir_data.specs.Codes.{is_alloc}
use Rattle.sir_data.specs.inner.WellFormed.{WellFormed}
use Rattle.sir_analyses.specs.Order.{blocks_rpo}
use Rattle.sir_analyses.specs.Allocation.{Alloc, allocs, no_alloc, alloc_at, base, bases, rule12}
use Rattle.sir_analyses.specs.inner.Discovery.{alloc_site, alloc_sites, block_sites}
use Rattle.sir_analyses.proofs.Accepted.{listed_op}
use Rattle.sir_analyses.proofs.claims.marks.Marks.{alloc_of, alloc_known, alloc_in, base_less}
use Rattle.plank_core.specs.laws.Folds.{foldl_snoc}
use Rattle.sir_analyses.proofs.allocation_liveness.Linking.{set_both, set_most}

-- ---- operation by operation

abbrev pub sites_of : List ℕ → ℕ → List ℕ → List ℕ
sites_of w b os = map (λ o. 1024 * b + o) (keep (λ o. is_alloc (code w o)) os)

module _ (w : List ℕ) (b o last : ℕ) where
  pub site_next : o < last → is_alloc (code w o) ≡ true → sites_of w b (range o last) ≡ (1024 * b + o) ∷ sites_of w b (range (o + 1) last)
  site_next h t = ap (sites_of w b) (range_next o last h) ∙ rw t

  pub site_skip : o < last → is_alloc (code w o) ≡ false → sites_of w b (range o last) ≡ sites_of w b (range (o + 1) last)
  site_skip h t = ap (sites_of w b) (range_next o last h) ∙ rw t

pub block_sites_lem : (w : List ℕ) (b s e : ℕ) → s ≡ block_word w b 4 → e ≡ block_word w b 5 → block_sites w b ≡ sites_of w b (range s e)
unfolding block_sites
block_sites_lem w b s e p q = rw (p, q)

-- ---- block by block

listed_sites : (w bs : List ℕ) → map alloc_site (bind bs (λ b. map (alloc_of b) (keep (λ o. is_alloc (code w o)) (ops w b)))) ≡ bind bs (block_sites w)
unfolding block_sites
listed_sites w [] = refl
listed_sites w (b ∷ bs) =
    map_append alloc_site (map (alloc_of b) (keep (λ o. is_alloc (code w o)) (ops w b))) _
    ∙ ap₂ (λ x y. x ++ y) (here (keep (λ o. is_alloc (code w o)) (ops w b))) (listed_sites w bs)
  where
    here : (os : List ℕ) → map alloc_site (map (alloc_of b) os) ≡ map (λ o. 1024 * b + o) os
    here [] = refl
    here (o ∷ os) = ap (λ (l : List ℕ). (1024 * b + o) ∷ l) (here os)

pub all_sites : (w : List ℕ) → alloc_sites w ≡ bind (blocks_rpo w) (block_sites w)
unfolding alloc_sites
all_sites w = listed_sites w (blocks_rpo w)

-- of an array that holds the order's sequence
pub sites_start : (w rpo : List ℕ) → rpo ≡ blocks_rpo w → alloc_sites w ≡ bind (drop 0 rpo) (block_sites w)
sites_start w rpo e = all_sites w ∙ ap (λ (l : List ℕ). bind l (block_sites w)) (sym e)

-- ---- read back

pub sites_long : (w : List ℕ) → length (alloc_sites w) ≡ length (allocs w)
unfolding alloc_sites
sites_long w = length-map (allocs w) alloc_site

pub site_at : (w : List ℕ) (a : ℕ) → a < length (allocs w) → get_or (alloc_sites w) a 0 ≡ 1024 * (alloc_at w a).block + (alloc_at w a).op
unfolding alloc_sites
site_at w a h = get_or-map alloc_site (allocs w) a no_alloc

module _ (w : List ℕ) (good : WellFormed w) (a : ℕ) (h : a < length (allocs w)) where
  pub alloc_op : ((alloc_at w a).op < operations w) × (is_alloc (code w (alloc_at w a).op) ≡ true)
  alloc_op = let k = alloc_known w (alloc_in w good a h) in (listed_op w good k.0 k.1, k.2)

  op_most : (alloc_at w a).op < 1024
  op_most = omega (arith, alloc_op.0, good.sized.operations_most)

  pub site_op : get_or (alloc_sites w) a 0 % 1024 ≡ (alloc_at w a).op
  site_op = let e : get_or (alloc_sites w) a 0 ≡ 1024 * (alloc_at w a).block + (alloc_at w a).op = site_at w a h in omega (arith, op_most)

  pub site_block : get_or (alloc_sites w) a 0 / 1024 ≡ (alloc_at w a).block
  site_block = let e : get_or (alloc_sites w) a 0 ≡ 1024 * (alloc_at w a).block + (alloc_at w a).op = site_at w a h in omega (arith, op_most)

-- ---- how many they are

module _ (w : List ℕ) (good : WellFormed w) where
  base_listed : (v : ℕ) → v ∈ map (base w) (allocs w) → v < locals w
  base_listed = map_each (λ (v : ℕ). v < locals w) (base w) (allocs w) (λ x m.
      let p = mem_place no_alloc m in
      subst (λ (y : Alloc). base w y < locals w) p.2 (base_less w good p.0 p.1))

  pub sites_most : rule12 w ≡ false → length (allocs w) ≤ 512
  sites_most r =
      let d : distinct (map (base w) (allocs w)) ≡ true = sym (not-not (distinct (map (base w) (allocs w)))) ∙ ap not r in
      omega (arith, length-map (allocs w) (base w), distinct_few (locals w) (map (base w) (allocs w)) d base_listed, good.sized.locals_most)

-- ---- rule 12, allocation by allocation

-- the bases of all allocations, in turn
abbrev pub all_bases : List ℕ → List ℕ
all_bases w = map (base w) (allocs w)

module _ (w : List ℕ) (good : WellFormed w) where
  pub bases_start : fresh (replicate 8 0) (all_bases w) ≡ not (rule12 w)
  unfolding empty_set set_of word_of
  bases_start = fresh_all (all_bases w) ∙ sym (not-not (distinct (all_bases w)))

  -- more of them than there can be bases
  pub sites_over : 512 < length (alloc_sites w) → rule12 w ≡ true
  sites_over h = go (rule12 w) refl
    where
      go : (t : Bool) → rule12 w ≡ t → t ≡ true
      go true e = refl
      go false e = absurd (omega (arith, sites_most w good e, sites_long w))

  pub base_small : (v : ℕ) → v ∈ all_bases w → v < 512
  base_small v m = omega (arith, base_listed w good v m, good.sized.locals_most)

-- in these bases are those of the first a allocations; those of the others decide
pub record Deciding (w bases : List ℕ) (a : ℕ) : Type 0 where
  pub long : length bases ≡ 8
  pub left : fresh bases (drop a (all_bases w)) ≡ not (rule12 w)

module _ (w : List ℕ) (good : WellFormed w) {sites : List ℕ} (e : sites ≡ alloc_sites w) {a : ℕ} (h : a < length sites) where
  known : a < length (allocs w)
  known = omega (arith, ap length e, sites_long w)

  base_at : base w (alloc_at w a) ≡ get_or (all_bases w) a 0
  base_at = sym (get_d_any (all_bases w) a 0 (base w no_alloc) (omega (arith, known, length-map (allocs w) (base w))) ∙ get_or-map (base w) (allocs w) a no_alloc)

  module _ {v : ℕ} (q : v ≡ base w (alloc_at w a)) {bases : List ℕ} (k : Deciding w bases a) where
    is_base : v ≡ get_or (all_bases w) a 0
    is_base = q ∙ base_at

    listed : a < length (all_bases w)
    listed = omega (arith, known, length-map (allocs w) (base w))

    pub deciding_next : contains bases v ≡ false → Deciding w (added bases v) (a + 1)
    deciding_next t = record {
      long = length_added bases v ∙ k.long;
      left = rw is_base (fresh_step bases a (all_bases w) listed (λ u m. omega (arith, base_small w good u m, k.long)) (ap (contains bases) (sym is_base) ∙ t) ∙ k.left);
    }

    pub deciding_stop : contains bases v ≡ true → rule12 w ≡ true
    deciding_stop t = not-false (rule12 w) (sym k.left ∙ fresh_stop bases a (all_bases w) listed (ap (contains bases) (sym is_base) ∙ t))

pub deciding_all : (w : List ℕ) {sites bases : List ℕ} {a : ℕ} → sites ≡ alloc_sites w → length sites ≤ a → Deciding w bases a → rule12 w ≡ false
deciding_all w {sites} {bases} {a} e h k =
    not-true (rule12 w) (sym k.left ∙ fresh_end bases a (all_bases w) (omega (arith, ap length e, sites_long w, length-map (allocs w) (base w))))

-- ---- every base for its own

-- the first a allocations have their bases
abbrev pub bases_to : List ℕ → ℕ → List ℕ
bases_to w a = foldl (λ owner k. set owner (base w (alloc_at w k)) (suc k)) (replicate (locals w) 0) (upto a)

pub record OwnedTo (w owner : List ℕ) (a : ℕ) : Type 0 where
  pub same : (v : ℕ) → v < locals w → get_or owner v 0 ≡ get_or (bases_to w a) v 0
  pub most : (v : ℕ) → get_or owner v 0 ≤ a
  pub long : length owner ≡ 512

bases_long : (w : List ℕ) (a : ℕ) → length (bases_to w a) ≡ locals w
bases_long w a =
    foldl_keeps (λ (l : List ℕ). length l ≡ locals w) (λ owner k. set owner (base w (alloc_at w k)) (suc k)) (upto a)
    (λ owner k m e. length-set owner (base w (alloc_at w k)) (suc k) ∙ e)
    (replicate (locals w) 0) (length-replicate (locals w) 0)

module _ (w : List ℕ) where
  pub owned_none : {owner : List ℕ} → owner ≡ replicate 512 0 → OwnedTo w owner 0
  owned_none {owner} e = record {
    same = λ v h. ap (λ (l : List ℕ). get_or l v 0) e ∙ zero_at 512 v ∙ sym (zero_at (locals w) v);
    most = λ v. omega (arith, ap (λ (l : List ℕ). get_or l v 0) e ∙ zero_at 512 v);
    long = ap length e ∙ length-replicate {A = ℕ} 512 0;
  }

  pub owned_more : WellFormed w → {owner : List ℕ} {a v : ℕ} → a < length (allocs w) → v ≡ base w (alloc_at w a) → OwnedTo w owner a → OwnedTo w (set owner v (a + 1)) (a + 1)
  owned_more good {owner} {a} {v} h e k =
      let l : base w (alloc_at w a) < locals w = base_less w good a h in
      let z : length (bases_to w a) ≡ locals w = bases_long w a in
      let s : bases_to w (suc a) ≡ set (bases_to w a) v (suc a) =
      ap (foldl (λ owner k. set owner (base w (alloc_at w k)) (suc k)) (replicate (locals w) 0)) (upto_suc a)
      ∙ foldl_snoc (λ owner k. set owner (base w (alloc_at w k)) (suc k)) (replicate (locals w) 0) (upto a) a
      ∙ ap (λ (x : ℕ). set (bases_to w a) x (suc a)) (sym e) in
      record {
        same = λ x q. rw (add-one a, s) (set_both owner (bases_to w a) v (suc a) (omega (arith, k.long, good.sized.locals_most)) (omega arith) (λ y p. k.same y (omega arith)) x (omega (arith, length-set (bases_to w a) v (suc a))));
        most = set_most owner v (a + 1) (a + 1) (omega arith) (λ y. omega (arith, k.most y));
        long = length-set owner v (a + 1) ∙ k.long;
      }

  pub owned_all : {owner : List ℕ} {a : ℕ} → a ≡ length (allocs w) → OwnedTo w owner a
      → ((v : ℕ) → v < locals w → get_or owner v 0 ≡ get_or (bases w) v 0) × ((v : ℕ) → get_or owner v 0 ≤ length (allocs w)) × (length owner ≡ 512)
  owned_all {owner} {a} e k = let t : OwnedTo w owner (length (allocs w)) = rw e at k in (t.same, t.most, t.long)
