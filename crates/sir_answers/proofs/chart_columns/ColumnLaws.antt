-- The columns of a series: what the owners of the locals that are live around an operation say of its allocations.
use mathlib.Core.Path.{◌≡◌, refl, sym, ap, ap₂, ◌∙◌}
use mathlib.Core.Logic.{◌⊎◌, inl, inr}
use mathlib.Core.Bool.{Bool, true, false, not, ◌&&◌, ◌||◌, cond, or-false, and-false}
use mathlib.Core.List.Memᴰ
use mathlib.Core.List.{List, map}
use Prim.Native.Nat.{ℕ, ◌+◌, ◌-◌, ◌*◌, ◌≤◌, ◌<◌}
use native.Mathlib.Omega.{arith}
use lib.ListN.{length, get_or, set, take, replicate}
use lib.Seq.{ext_get_or, get_or-set_same, get_or-set_other}
use lib.Dec.{eqb, leb, ltb}
use borrow.Author.Tests.{eqb-true, eqb-false, lt-ltb, le-leb, ltb-true, ltb-false, leb-true}
use Rattle.plank_core.specs.Lists.{upto, mem, ◌∈◌}
use Rattle.plank_core.specs.laws.Lists.{none, refuted, split, and_true_left, and_true_right, both_true, same_tests, mem_in, in_mem}
use Rattle.plank_core.specs.laws.Loops.{length_map_upto, get_or_map_upto}
use Rattle.plank_core.specs.laws.Prefixes.{mapped_next}
use Rattle.plank_core.specs.inner.DenseIndexSet.{contains, members, row_union, row_difference}
use Rattle.plank_core.specs.laws.DenseIndexSet.{contains_cleared, set_union, set_difference, length_union}
use Rattle.plank_core.specs.laws.Members.{member_in, member_is}
use Rattle.sir_data.specs.Records.{ops}
use Rattle.sir_analyses.specs.Order.{blocks_rpo}
use Rattle.sir_analyses.specs.Allocation.{allocs, marked, merged}
use Rattle.sir_analyses.specs.Open.{lies, is_open}
use Rattle.sir_analyses.specs.Chart.{column, columns}
use Rattle.sir_analyses.specs.inner.Stages.{PointerStage, sites_in, owners_in, flags_in}
use Rattle.sir_analyses.proofs.allocation_liveness.Discovery.{sites_long}
use Rattle.sir_analyses.proofs.allocation_liveness.PointerTables.{allocations_few}
use Rattle.sir_answers.specs.inner.AllocationPieces.{unmarked_owner}
use Rattle.sir_answers.specs.inner.LiveAround.{LiveAround}
use Rattle.sir_answers.specs.inner.Columns.{in_series, OtherLocals, owns_some, marked_in, Columns}
use Rattle.sir_answers.proofs.open_allocations.OpenOwners.{owner_open, owner_unknown}

-- ---- owners

or-true : (x : Bool) → (x || true) ≡ true
or-true true = refl
or-true false = refl

-- who owns a local and is not marked is not marked
owner_unmarked : (pointers : List ℕ) (v a : ℕ) → unmarked_owner pointers v ≡ a + 1 → marked_in pointers a ≡ false
unfolding unmarked_owner
owner_unmarked pointers v a h = go (eqb owner 0) refl (eqb (get_or (flags_in pointers) (owner - 1) 0) 0) refl
  where
    owner : ℕ
    owner = get_or (owners_in pointers) v 0

    go : (x : Bool) → eqb owner 0 ≡ x → (y : Bool) → eqb (get_or (flags_in pointers) (owner - 1) 0) 0 ≡ y → marked_in pointers a ≡ false
    go true d y e = let z : 0 ≡ a + 1 = rw d at h in absurd (omega arith)
    go false d false e = let z : 0 ≡ a + 1 = rw (d, e) at h in absurd (omega arith)
    go false d true e =
        let z : owner ≡ a + 1 = rw (d, e) at h in
        let n : owner - 1 ≡ a = omega arith in
        ap (λ (t : Bool). ltb a (length (sites_in pointers)) && not t) (ap (λ (i : ℕ). eqb (get_or (flags_in pointers) i 0) 0) (sym n) ∙ e) ∙ and-false (ltb a (length (sites_in pointers)))

-- likewise of some locals
owns_unmarked : (pointers vs : List ℕ) (a : ℕ) → owns_some pointers vs a ≡ true → marked_in pointers a ≡ false
owns_unmarked pointers vs a h =
    let x = Memᴰ.of_map (unmarked_owner pointers) vs (mem_in (a + 1) (map (unmarked_owner pointers) vs) h) in
    owner_unmarked pointers x.0 a x.2

-- an empty set has no members
no_members : (pointers : List ℕ) (a : ℕ) → owns_some pointers (members (replicate 8 0)) a ≡ false
no_members pointers a = refuted (owns_some pointers (members (replicate 8 0)) a) (λ t.
    let x = Memᴰ.of_map (unmarked_owner pointers) (members (replicate 8 0)) (mem_in (a + 1) (map (unmarked_owner pointers) (members (replicate 8 0))) t) in
    none (contains (replicate 8 0) x.0) (member_is (replicate 8 0) x.0 x.1).1 (contains_cleared 8 x.0))

-- how many allocations there are
pub sites_count : {w pointers : List ℕ} → PointerStage w pointers → length (sites_in pointers) ≡ length (allocs w)
sites_count {w} stage = ap length stage.sites_are ∙ sites_long w

pub sites_few : {w pointers : List ℕ} → PointerStage w pointers → length (sites_in pointers) ≤ 512
sites_few stage = omega (arith, sites_count stage, allocations_few stage)

-- the numbers of the allocations of a series, plus 1
pub series_bounds : (series owner : ℕ) → in_series series owner ≡ true → (64 * series + 1 ≤ owner) × (owner ≤ 64 * series + 64)
series_bounds series owner t =
    let l : 64 * series < owner = ltb-true (64 * series) owner (and_true_left (ltb (64 * series) owner) (leb owner (64 * series + 64)) t) in
    (omega arith, leb-true owner (64 * series + 64) (and_true_right (ltb (64 * series) owner) (leb owner (64 * series + 64)) t))

-- ---- steps of loops

-- one column more is closed
pub closed_next : (pointers cs : List ℕ) (series k x : ℕ) → k < length cs → x ≡ cond (marked_in pointers (64 * series + k)) 42 46
    → ((j : ℕ) → j < k → get_or cs j 0 ≡ cond (marked_in pointers (64 * series + j)) 42 46) → (j : ℕ) → j < k + 1 → get_or (set cs k x) j 0 ≡ cond (marked_in pointers (64 * series + j)) 42 46
closed_next pointers cs series k x l e f j h = go (split j k)
  where
    go : (j < k) ⊎ (k ≤ j) → get_or (set cs k x) j 0 ≡ cond (marked_in pointers (64 * series + j)) 42 46
    go (inl m) = get_or-set_other cs k j x 0 (λ d. omega arith) ∙ f j m
    go (inr m) = let d : j ≡ k = omega arith in rw d (get_or-set_same cs k x 0 l ∙ e)

-- the owner of one local more is open
pub opened_next : (pointers ids cs old : List ℕ) (series i owner at : ℕ) → i < length ids → owner ≡ unmarked_owner pointers (get_or ids i 0) → owner ≡ 64 * series + 1 + at → at < length cs
    → ((k : ℕ) → k < 64 → get_or cs k 0 ≡ cond (owns_some pointers (take i ids) (64 * series + k)) 35 (get_or old k 0))
    → (k : ℕ) → k < 64 → get_or (set cs at 35) k 0 ≡ cond (owns_some pointers (take (i + 1) ids) (64 * series + k)) 35 (get_or old k 0)
opened_next pointers ids cs old series i owner at l e n h f k b =
    go (eqb (64 * series + k + 1) owner) refl
    ∙ ap (λ (t : Bool). cond t 35 (get_or old k 0)) (ap (λ (x : ℕ). mem (64 * series + k + 1) (map own (take i ids)) || eqb (64 * series + k + 1) x) e ∙ mapped_next own ids i l (64 * series + k + 1))
  where
    own : ℕ → ℕ
    own = unmarked_owner pointers

    go : (t : Bool) → eqb (64 * series + k + 1) owner ≡ t → get_or (set cs at 35) k 0 ≡ cond (mem (64 * series + k + 1) (map own (take i ids)) || eqb (64 * series + k + 1) owner) 35 (get_or old k 0)
    go true d =
        let q : 64 * series + k + 1 ≡ owner = eqb-true (64 * series + k + 1) owner d in
        let z : k ≡ at = omega arith in
        rw (d, or-true (mem (64 * series + k + 1) (map own (take i ids)))) (rw z (get_or-set_same cs at 35 0 h))
    go false d =
        let q : 64 * series + k + 1 ≡ owner → ⊥ = eqb-false (64 * series + k + 1) owner d in
        rw (d, or-false (mem (64 * series + k + 1) (map own (take i ids)))) (get_or-set_other cs at k 35 0 (λ z. q (omega arith)) ∙ f k b)

-- a set without another one
pub difference_is : (one other : List ℕ) {all set : List ℕ} → all ≡ row_union (replicate 8 0) 0 one → set ≡ row_difference all 0 other
    → (v : ℕ) → v < 512 → contains set v ≡ (contains one v && not (contains other v))
difference_is one other {all} {set} e d v h =
    let long : length all ≡ 8 = ap length e ∙ length_union (replicate 8 0) 0 one in
    ap (λ (l : List ℕ). contains l v) d ∙ set_difference all other v h (omega arith)
    ∙ ap (λ (t : Bool). t && not (contains other v))
    (ap (λ (l : List ℕ). contains l v) e ∙ set_union (replicate 8 0) one v h (omega arith) ∙ ap (λ (t : Bool). t || contains one v) (contains_cleared 8 v))

-- ---- columns

-- nothing is open
pub columns_closed : {pointers cs : List ℕ} {series : ℕ} → length cs ≡ 64 → ((k : ℕ) → k < 64 → get_or cs k 0 ≡ cond (marked_in pointers (64 * series + k)) 42 46) → Columns pointers series (replicate 8 0) cs
columns_closed {pointers} {cs} {series} l f = record {
  long = l;
  column_is = λ k h. f k h ∙ ap (λ (t : Bool). cond (marked_in pointers (64 * series + k)) 42 (cond t 35 46)) (sym (no_members pointers (64 * series + k)));
}

-- then the owners of some locals are
pub columns_opened : {pointers closed cs set ids : List ℕ} {series : ℕ} → ids ≡ members set → length cs ≡ 64 → Columns pointers series (replicate 8 0) closed
    → ((k : ℕ) → k < 64 → get_or cs k 0 ≡ cond (owns_some pointers ids (64 * series + k)) 35 (get_or closed k 0)) → Columns pointers series set cs
columns_opened {pointers} {closed} {cs} {set} {ids} {series} e l c f = record { long = l; column_is = λ k h. go k h (owns_some pointers (members set) (64 * series + k)) refl }
  where
    go : (k : ℕ) → k < 64 → (t : Bool) → owns_some pointers (members set) (64 * series + k) ≡ t → get_or cs k 0 ≡ cond (marked_in pointers (64 * series + k)) 42 (cond t 35 46)
    go k h true d =
        f k h ∙ ap (λ (vs : List ℕ). cond (owns_some pointers vs (64 * series + k)) 35 (get_or closed k 0)) e
        ∙ rw (d, owns_unmarked pointers (members set) (64 * series + k) d) refl
    go k h false d =
        f k h ∙ ap (λ (vs : List ℕ). cond (owns_some pointers vs (64 * series + k)) 35 (get_or closed k 0)) e ∙ rw d (c.column_is k h)
        ∙ ap (λ (t : Bool). cond (marked_in pointers (64 * series + k)) 42 (cond t 35 46)) (no_members pointers (64 * series + k))

-- ---- the columns of an operation

-- allocation a of a series: is one of its locals among those of a set that are of the series?
module _ {pointers others : List ℕ} {series : ℕ} (x : OtherLocals pointers series others) (set met : List ℕ)
    (f : (v : ℕ) → v < 512 → contains met v ≡ (contains set v && not (contains others v))) where
  -- those are of the series
  pub met_owned : (v : ℕ) → v < 512 → contains met v ≡ true → in_series series (unmarked_owner pointers v) ≡ true
  met_owned v h t =
      let n : not (contains others v) ≡ true = and_true_right (contains set v) (not (contains others v)) (sym (f v h) ∙ t) in
      twice (in_series series (unmarked_owner pointers v)) (ap not (sym (x.other_is v h)) ∙ n)
    where
      twice : (t : Bool) → not (not t) ≡ true → t ≡ true
      twice true e = refl
      twice false e = e

  met_same : (a : ℕ) → 64 * series ≤ a → a < 64 * series + 64 → owns_some pointers (members met) a ≡ owns_some pointers (members set) a
  met_same a l h = same_tests (owns_some pointers (members met) a) (owns_some pointers (members set) a) there back
    where
      own : ℕ → ℕ
      own = unmarked_owner pointers

      there : owns_some pointers (members met) a ≡ true → owns_some pointers (members set) a ≡ true
      there t =
          let y = Memᴰ.of_map own (members met) (mem_in (a + 1) (map own (members met)) t) in
          let v = y.0 in
          let m = member_is met v y.1 in
          let i : contains set v ≡ true = and_true_left (contains set v) (not (contains others v)) (sym (f v m.0) ∙ m.1) in
          ap (λ (n : ℕ). mem n (map own (members set))) (sym y.2) ∙ in_mem (own v) (Memᴰ.map own (member_in set v m.0 i))

      back : owns_some pointers (members set) a ≡ true → owns_some pointers (members met) a ≡ true
      back t =
          let y = Memᴰ.of_map own (members set) (mem_in (a + 1) (map own (members set)) t) in
          let v = y.0 in
          let m = member_is set v y.1 in
          let e : own v ≡ a + 1 = y.2 in
          let s : in_series series (own v) ≡ true = both_true (ltb (64 * series) (own v)) (leb (own v) (64 * series + 64)) (lt-ltb (64 * series) (own v) (omega arith)) (le-leb (own v) (64 * series + 64) (omega arith)) in
          let n : contains others v ≡ false = x.other_is v m.0 ∙ ap not s in
          let i : contains met v ≡ true = f v m.0 ∙ both_true (contains set v) (not (contains others v)) m.1 (ap not n) in
          ap (λ (k : ℕ). mem k (map own (members met))) (sym e) ∙ in_mem (own v) (Memᴰ.map own (member_in met v m.0 i))

  module _ {w : List ℕ} (stage : PointerStage w pointers) {b o : ℕ} (mb : b ∈ blocks_rpo w) (mo : o ∈ ops w b) (k : LiveAround w b o set) where
    -- the column of an allocation, known or not
    column_told : (a : ℕ) → 64 * series ≤ a → a < 64 * series + 64 → ◌≡◌ {A = ℕ} (cond (marked_in pointers a) 42 (cond (owns_some pointers (members met) a) 35 46)) (column w b o a)
    column_told a l h = go (ltb a (length (allocs w))) refl
      where
        marked_is : marked_in pointers a ≡ (ltb a (length (allocs w)) && not (eqb (get_or (flags_in pointers) a 0) 0))
        marked_is = ap (λ (n : ℕ). ltb a n && not (eqb (get_or (flags_in pointers) a 0) 0)) (sites_count stage)

        char : (m c : Bool) → ◌≡◌ {A = ℕ} (cond m 42 (cond (not m && c) 35 46)) (cond m 42 (cond c 35 46))
        char true c = refl
        char false c = refl

        go : (t : Bool) → ltb a (length (allocs w)) ≡ t
            → ◌≡◌ {A = ℕ} (cond (marked_in pointers a) 42 (cond (owns_some pointers (members met) a) 35 46)) (cond t (cond (marked w a) 42 (cond (lies b o (merged w a)) 35 46)) 46)
        go true e =
            let below : a < length (allocs w) = ltb-true a (length (allocs w)) e in
            let m : marked_in pointers a ≡ marked w a = marked_is ∙ ap (λ (t : Bool). t && not (eqb (get_or (flags_in pointers) a 0) 0)) e ∙ sym (stage.discovered.flags_are a below).mark in
            let s : owns_some pointers (members met) a ≡ is_open w b o a = met_same a l h ∙ owner_open stage.well_formed mb mo k stage a below in
            ap₂ (λ (x y : Bool). cond x 42 (cond y 35 46)) m s ∙ char (marked w a) (lies b o (merged w a))
        go false e =
            let past : length (allocs w) ≤ a = ltb-false a (length (allocs w)) e in
            let m : marked_in pointers a ≡ false = marked_is ∙ ap (λ (t : Bool). t && not (eqb (get_or (flags_in pointers) a 0) 0)) e in
            let s : owns_some pointers (members met) a ≡ false = met_same a l h ∙ owner_unknown stage.well_formed mb mo k stage a past in
            ap₂ (λ (x y : Bool). cond x 42 (cond y 35 46)) m s

    pub columns_are : {cs : List ℕ} → Columns pointers series met cs → cs ≡ columns w series b o
    unfolding columns
    columns_are {cs} c =
        ext_get_or 0 cs (map told (upto 64)) (c.long ∙ sym (length_map_upto told 64)) (λ i h.
        let below : i < 64 = omega (arith, c.long) in
        c.column_is i below ∙ column_told (64 * series + i) (omega arith) (omega arith) ∙ sym (get_or_map_upto told 64 i 0 below))
      where
        told : ℕ → ℕ
        told i = column w b o (64 * series + i)
