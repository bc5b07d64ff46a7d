-- The tables of owners, as they are filled and read.
use mathlib.Core.Path.{◌≡◌, refl, sym, ap, ap₂, ◌∙◌}
use mathlib.Core.Logic.{◌⊎◌, inl, inr, ⊎_elim}
use mathlib.Core.Bool.{Bool, true, false, not, ◌&&◌, ◌||◌, cond, and-true, and-false, or-false, and_comm}
use mathlib.Core.List.{List, map}
use Prim.Native.Nat.{ℕ, zero, suc, ◌+◌, ◌-◌, ◌*◌, ◌≤◌, ◌<◌}
use native.Mathlib.Numerals.{add-one}
use native.Mathlib.Omega.{arith}
use lib.ListN.{length, get_or, take, drop, replicate, set}
use lib.Seq.{take_all, get_or-take, get_or-drop}
use lib.Dec.{eqb, ltb}
use borrow.Author.Tests.{eq-eqb, ne_eqb, eqb-true, eqb-false, lt-ltb, le-ltb, ltb-true, ltb-false}
use Rattle.std.specs.Prelude.{Option}
use Rattle.plank_core.specs.declared.index.AllocId.{AllocId}
use Rattle.plank_core.specs.Lists.{mem}
use Rattle.plank_core.specs.laws.Lists.{split, any_some, zero_at}
use Rattle.plank_core.specs.laws.Distinct.{eqb_swap}
use Rattle.plank_core.specs.inner.DenseIndexSet.{contains, added, members, meets, row_of, row_union, row_difference}
use Rattle.plank_core.specs.laws.DenseIndexSet.{contains_row, contains_cleared, set_union, set_difference, length_union}
use Rattle.plank_core.specs.laws.Members.{member_is}
use Rattle.sir_data.specs.Records.{locals}
use Rattle.sir_data.specs.inner.WellFormed.{WellFormed}
use Rattle.sir_analyses.specs.Liveness.{Set, has}
use Rattle.sir_analyses.specs.Allocation.{allocs, alloc_at, reach, marked}
use Rattle.sir_analyses.specs.inner.Tables.{Adds}
use Rattle.sir_analyses.specs.inner.Stages.{part, owners_in, owner_named, flags_in, PointerStage}
use Rattle.sir_answers.specs.inner.Scatter.{number_at}
use Rattle.sir_answers.specs.inner.AllocationPieces.{own_reach, unowned_in, own_rows_in, owner_in, owner_number, unmarked_owner, OwnedTables, OwnedListed, lives_in, side}
use Rattle.sir_analyses.proofs.SetLaws.{none_in}
use Rattle.sir_analyses.proofs.claims.liveness.GenKill.{beyond}
use Rattle.sir_analyses.proofs.claims.marks.Marks.{reach_length}
use Rattle.sir_analyses.proofs.Tables.{adds_as, adds_then, adds_none, adds_one, cleared_row, cleared_long}
use Rattle.plank_core.specs.laws.Prefixes.{mapped_next, below_more}
use Rattle.sir_analyses.proofs.stages.Parts.{length_part, put_back, put_part, put_low, put_high, put_long, contains_part}
use Rattle.sir_analyses.proofs.local_liveness.LivenessTables.{cleared_part}
use Rattle.sir_analyses.proofs.allocation_liveness.PointerTables.{allocations_few}
use Rattle.sir_answers.proofs.all_allocations.AllocationPieces.{own_unmarked, own_marked, own_unknown}
use Rattle.sir_answers.proofs.all_intervals.OpenEnds.{at_set, mem_members}

-- ---- the number of an owner that a number names

number_named : (n : ℕ) → owner_number (owner_named n) ≡ n
number_named zero = refl
number_named (suc n) = omega arith

pub named : {n : ℕ} {owner : Option AllocId} → owner ≡ owner_named n → n ≡ owner_number owner
named {n} e = sym (number_named n) ∙ ap owner_number (sym e)

-- ---- the owner of a local, where it is not marked

module _ (pointers : List ℕ) (v : ℕ) where
  -- by the table of pointers
  abbrev owner_of : ℕ
  owner_of = get_or (owners_in pointers) v 0

  pub unowned : owner_of ≡ 0 → unmarked_owner pointers v ≡ 0
  unfolding unmarked_owner
  unowned e = rw e

  pub owned_marked : ¬ (owner_of ≡ 0) → not (eqb (get_or (flags_in pointers) (owner_of - 1) 0) 0) ≡ true → unmarked_owner pointers v ≡ 0
  unfolding unmarked_owner
  owned_marked n m = ap (λ (t : Bool). cond t 0 (cond (eqb (get_or (flags_in pointers) (owner_of - 1) 0) 0) owner_of 0)) (ne_eqb owner_of 0 n) ∙ go (eqb (get_or (flags_in pointers) (owner_of - 1) 0) 0) m
    where
      go : (t : Bool) → not t ≡ true → cond t owner_of 0 ≡ 0
      go true e = absurd (let q : ◌≡◌ {A = ℕ} 0 1 = cc in omega arith)
      go false e = refl

  pub owned_unmarked : ¬ (owner_of ≡ 0) → not (eqb (get_or (flags_in pointers) (owner_of - 1) 0) 0) ≡ false → unmarked_owner pointers v ≡ owner_of
  unfolding unmarked_owner
  owned_unmarked n m = ap (λ (t : Bool). cond t 0 (cond (eqb (get_or (flags_in pointers) (owner_of - 1) 0) 0) owner_of 0)) (ne_eqb owner_of 0 n) ∙ go (eqb (get_or (flags_in pointers) (owner_of - 1) 0) 0) m
    where
      go : (t : Bool) → not t ≡ false → cond t owner_of 0 ≡ owner_of
      go true e = refl
      go false e = absurd (let q : ◌≡◌ {A = ℕ} 0 1 = cc in omega arith)

pub owner_cases : (pointers : List ℕ) (v : ℕ) → (unmarked_owner pointers v ≡ 0) ⊎ (unmarked_owner pointers v ≡ owner_of pointers v)
unfolding unmarked_owner
owner_cases pointers v = go (eqb (owner_of pointers v) 0) (eqb (get_or (flags_in pointers) (owner_of pointers v - 1) 0) 0)
  where
    go : (s t : Bool) → (cond s 0 (cond t (owner_of pointers v) 0) ≡ 0) ⊎ (cond s 0 (cond t (owner_of pointers v) 0) ≡ owner_of pointers v)
    go true t = inl refl
    go false true = inr refl
    go false false = inl refl

-- ---- the locals below v are in the rows of their owners

module _ (own : ℕ → ℕ) (t₀ t : List ℕ) where
  -- which locals below v stand where
  abbrev pub owned_to : ℕ → ℕ → ℕ → Bool
  owned_to v r u = ltb u v && eqb (own u) r

  pub rows_none : Adds t₀ (owned_to 0) t₀
  rows_none = adds_none (λ r u h. ap (λ (x : Bool). x && eqb (own u) r) (le-ltb u 0 (omega arith)))

  pub rows_more : {t' : List ℕ} (v o : ℕ) → v < 512 → o ≡ own v → t' ≡ added t (512 * o + v) → Adds t₀ (owned_to v) t → Adds t₀ (owned_to (v + 1)) t'
  rows_more v o h e p k =
      rw p (adds_as
      (λ r u q.
      ap (λ (x : Bool). (ltb u v && eqb (own u) r) || x) (and_comm (eqb r o) (eqb u v) ∙ ap (λ (x : Bool). eqb u v && x) (eqb_swap r o ∙ ap (λ (i : ℕ). eqb i r) e))
      ∙ below_more u v (λ u. eqb (own u) r))
      (adds_then k (adds_one t o v h)))

-- ---- the owners of the locals below v are stored

module _ (own : ℕ → ℕ) (t₀ t : List ℕ) where
  pub words_none : (u : ℕ) → number_at t₀ u ≡ cond (ltb u 0) (own u) (number_at t₀ u)
  words_none u = rw (le-ltb u 0 (omega arith))

  pub words_more : (v x : ℕ) → v < length t → x ≡ own v → ((u : ℕ) → number_at t u ≡ cond (ltb u v) (own u) (number_at t₀ u)) → (u : ℕ) → number_at (set t v x) u ≡ cond (ltb u (v + 1)) (own u) (number_at t₀ u)
  words_more v x h e k u = at_set t v x u h ∙ go (eqb u v) refl
    where
      go : (y : Bool) → eqb u v ≡ y → cond y x (number_at t u) ≡ cond (ltb u (v + 1)) (own u) (number_at t₀ u)
      go true q = let i : u ≡ v = eqb-true u v q in rw (i, lt-ltb v (v + 1) (omega arith)) e
      go false q = k u ∙ ap (λ (t : Bool). cond t (own u) (number_at t₀ u)) (same (ltb u v) refl)
        where
          same : (t : Bool) → ltb u v ≡ t → t ≡ ltb u (v + 1)
          same true l = sym (lt-ltb u (v + 1) (omega (arith, ltb-true u v l)))
          same false l = sym (le-ltb u (v + 1) (let m : v ≤ u = ltb-false u v l in omega (arith, eqb-false u v q)))

-- ---- both tables

module _ {w pointers : List ℕ} (stage : PointerStage w pointers) where
  abbrev owner : ℕ → ℕ
  owner v = get_or (owners_in pointers) v 0

  good : WellFormed w
  good = stage.well_formed

  mark_zero : (a : ℕ) → a < length (allocs w) → (t : Bool) → marked w a ≡ t → not (eqb (get_or (flags_in pointers) a 0) 0) ≡ t
  mark_zero a l t e = sym (stage.discovered.flags_are a l).mark ∙ e

  -- no other owner is taken
  other_owner : (v k : ℕ) → ¬ (k ≡ 0) → ¬ (owner v ≡ k) → eqb (unmarked_owner pointers v) k ≡ false
  other_owner v k z n = ne_eqb (unmarked_owner pointers v) k (λ e. ⊎_elim (λ (q : unmarked_owner pointers v ≡ 0). z (sym e ∙ q)) (λ (q : unmarked_owner pointers v ≡ owner v). n (sym q ∙ e)) (owner_cases pointers v))

  same_owner : (a v : ℕ) → a < length (allocs w) → (m : Bool) → marked w a ≡ m → eqb (unmarked_owner pointers v) (a + 1) ≡ (not m && eqb (owner v) (a + 1))
  same_owner a v l m u = go (eqb (owner v) (a + 1)) refl m u
    where
      go : (t : Bool) → eqb (owner v) (a + 1) ≡ t → (m : Bool) → marked w a ≡ m → eqb (unmarked_owner pointers v) (a + 1) ≡ (not m && t)
      go true e m u =
          let i : owner v ≡ a + 1 = eqb-true (owner v) (a + 1) e in
          let p : a ≡ owner v - 1 = omega arith in
          let z : ¬ (owner v ≡ 0) = λ q. omega arith in
          let t : not (eqb (get_or (flags_in pointers) (owner v - 1) 0) 0) ≡ m = rw p at (mark_zero a l m u) in
          by m t z i
        where
          by : (m : Bool) → not (eqb (get_or (flags_in pointers) (owner v - 1) 0) 0) ≡ m → ¬ (owner v ≡ 0) → owner v ≡ a + 1 → eqb (unmarked_owner pointers v) (a + 1) ≡ (not m && true)
          by true t z i = ap (λ (k : ℕ). eqb k (a + 1)) (owned_marked pointers v z t) ∙ ne_eqb 0 (a + 1) (λ q. omega arith)
          by false t z i = ap (λ (k : ℕ). eqb k (a + 1)) (owned_unmarked pointers v z t) ∙ eq-eqb (owner v) (a + 1) i
      go false e m u = other_owner v (a + 1) (λ q. omega arith) (eqb-false (owner v) (a + 1) e) ∙ sym (and-false (not m))

  -- the locals by which an allocation lives
  pub own_rows_are : (a v : ℕ) → has (own_reach w a) v ≡ (ltb v (locals w) && eqb (unmarked_owner pointers v) (a + 1))
  own_rows_are a v = ⊎_elim known unknown (split a (length (allocs w)))
    where
      unknown : length (allocs w) ≤ a → has (own_reach w a) v ≡ (ltb v (locals w) && eqb (unmarked_owner pointers v) (a + 1))
      unknown l =
          ap (λ (s : Set). has s v) (own_unknown w a l) ∙ none_in (locals w) v
          ∙ sym (ap (λ (t : Bool). ltb v (locals w) && t) (other_owner v (a + 1) (λ q. omega arith) (λ q. omega (arith, stage.discovered.owner_known v))) ∙ and-false (ltb v (locals w)))

      known : a < length (allocs w) → has (own_reach w a) v ≡ (ltb v (locals w) && eqb (unmarked_owner pointers v) (a + 1))
      known l = by (marked w a) refl
        where
          by : (m : Bool) → marked w a ≡ m → has (own_reach w a) v ≡ (ltb v (locals w) && eqb (unmarked_owner pointers v) (a + 1))
          by true e = ap (λ (s : Set). has s v) (own_marked w a e) ∙ none_in (locals w) v ∙ sym (ap (λ (t : Bool). ltb v (locals w) && t) (same_owner a v l true e) ∙ and-false (ltb v (locals w)))
          by false e = ap (λ (s : Set). has s v) (own_unmarked w a l e) ∙ inside (ltb v (locals w)) refl ∙ ap (λ (t : Bool). ltb v (locals w) && t) (sym (same_owner a v l false e))
            where
              inside : (t : Bool) → ltb v (locals w) ≡ t → has (reach w (alloc_at w a)) v ≡ (t && eqb (owner v) (a + 1))
              inside true q = stage.discovered.reach_is a v l e (ltb-true v (locals w) q) ∙ ap (eqb (owner v)) (sym (add-one a))
              inside false q = beyond (reach w (alloc_at w a)) v (omega (arith, reach_length w good a, ltb-false v (locals w) q))

  unmarked_most : (v : ℕ) → unmarked_owner pointers v ≤ length (allocs w)
  unmarked_most v = ⊎_elim (λ (q : unmarked_owner pointers v ≡ 0). omega arith) (λ (q : unmarked_owner pointers v ≡ owner v). omega (arith, stage.discovered.owner_known v)) (owner_cases pointers v)

  module _ {owned₀ rows : List ℕ} (words : List ℕ) (e : owned₀ ≡ replicate 4616 0)
      (adds : Adds (part 0 4104 owned₀) (λ r v. ltb v (locals w) && eqb (unmarked_owner pointers v) r) rows)
      (long : length words ≡ 512)
      (stored : (v : ℕ) → number_at words v ≡ cond (ltb v (locals w)) (unmarked_owner pointers v) (number_at (part 4104 512 (put_back 0 4104 owned₀ rows)) v)) where
    long₀ : length owned₀ ≡ 4616
    long₀ = cleared_long owned₀ 4616 e

    rows_long : length rows ≡ 4104
    rows_long = adds.long ∙ length_part 0 4104 owned₀ (omega (arith, long₀))

    abbrev owned₁ : List ℕ
    owned₁ = put_back 0 4104 owned₀ rows

    long₁ : length owned₁ ≡ 4616
    long₁ = put_long 0 4104 owned₀ rows rows_long (omega (arith, long₀)) ∙ long₀

    abbrev owned₂ : List ℕ
    owned₂ = put_back 4104 512 owned₁ words

    long₂ : length owned₂ ≡ 4616
    long₂ = put_long 4104 512 owned₁ words long (omega (arith, long₁)) ∙ long₁

    rows_in : part 0 4104 owned₂ ≡ rows
    rows_in = put_low 4104 512 owned₁ words long (omega (arith, long₁)) 0 4104 (omega arith) ∙ put_part 0 4104 owned₀ rows rows_long (omega (arith, long₀))

    owner_in_lem : (v : ℕ) → owner_in owned₂ v ≡ cond (ltb v (locals w)) (unmarked_owner pointers v) 0
    owner_in_lem v =
        ap (λ (l : List ℕ). number_at l v) (put_part 4104 512 owned₁ words long (omega (arith, long₁)))
        ∙ stored v
        ∙ ap (cond (ltb v (locals w)) (unmarked_owner pointers v))
        (ap (λ (l : List ℕ). number_at l v) (put_high 0 4104 owned₀ rows rows_long (omega (arith, long₀)) 4104 512 (omega arith) ∙ cleared_part 4104 512 4616 owned₀ (omega arith) e) ∙ zero_at 512 v)

    -- row 0 for the locals without an owner, row a + 1 for those of allocation a
    row_at : (r v : ℕ) → r < 513 → v < 512 → contains owned₂ (512 * r + v) ≡ (ltb v (locals w) && eqb (unmarked_owner pointers v) r)
    row_at r v h q =
        let at : 512 * r + v ≡ 512 * 0 + (512 * r + v) = omega arith in
        ap (contains owned₂) at ∙ sym (contains_part 0 4104 owned₂ (512 * r + v) (omega arith))
        ∙ ap (λ (l : List ℕ). contains l (512 * r + v)) rows_in
        ∙ adds.same r v (omega (arith, length_part 0 4104 owned₀ (omega (arith, long₀)))) q
        ∙ ap (λ (t : Bool). t || (ltb v (locals w) && eqb (unmarked_owner pointers v) r)) (cleared_row (part 0 4104 owned₀) 4104 r v (cleared_part 0 4104 4616 owned₀ (omega arith) e))

    row_in : (a v : ℕ) → a < 512 → v < 512 → contains (own_rows_in owned₂) (512 * a + v) ≡ (ltb v (locals w) && eqb (unmarked_owner pointers v) (a + 1))
    row_in a v h q =
        let at : 512 * 1 + (512 * a + v) ≡ 512 * (a + 1) + v = omega arith in
        contains_part 1 4096 owned₂ (512 * a + v) (omega arith) ∙ ap (contains owned₂) at ∙ row_at (a + 1) v (omega arith) q

    unowned_in_lem : (v : ℕ) → v < 512 → (t : Bool) → owner_in owned₂ v ≡ cond t (unmarked_owner pointers v) 0 → ¬ (owner_in owned₂ v ≡ 0) → (t && eqb (unmarked_owner pointers v) 0) ≡ false
    unowned_in_lem v h true q n = ne_eqb (unmarked_owner pointers v) 0 (λ z. n (q ∙ z))
    unowned_in_lem v h false q n = refl

    pub tables_owned : OwnedTables w owned₂
    tables_owned = record {
      long = long₂;
      owner_most = λ v h. few v (ltb v (locals w)) (owner_in_lem v);
      unowned_is = λ v h n. contains_part 0 8 owned₂ v (omega arith) ∙ row_at 0 v (omega arith) h ∙ unowned_in_lem v h (ltb v (locals w)) (owner_in_lem v) n;
      row_is = λ a v h q. row_in a v h q ∙ by a v (ltb v (locals w)) ∙ ap (λ (k : ℕ). eqb k (a + 1)) (sym (owner_in_lem v));
      reach_is = λ a v h q. row_in a v h q ∙ sym (own_rows_are a v);
    }
      where
        few : (v : ℕ) (t : Bool) → owner_in owned₂ v ≡ cond t (unmarked_owner pointers v) 0 → owner_in owned₂ v ≤ 512
        few v true q = omega (arith, unmarked_most v, allocations_few stage)
        few v false q = omega arith

        by : (a v : ℕ) (t : Bool) → (t && eqb (unmarked_owner pointers v) (a + 1)) ≡ eqb (cond t (unmarked_owner pointers v) 0) (a + 1)
        by a v true = refl
        by a v false = sym (ne_eqb 0 (a + 1) (λ q. omega arith))

-- ---- the members of a set that have an owner

pub owned_listed : {w owned set some ids : List ℕ} → OwnedTables w owned → some ≡ row_difference (row_union (replicate 8 0) 0 set) 0 (unowned_in owned) → ids ≡ members some → OwnedListed owned set ids
owned_listed {w} {owned} {set} {some} {ids} tables e f = record {
  small = λ v m. (member_is some v (rw f at m)).0;
  listed_is = λ v h n.
      ap (mem v) f ∙ mem_members some v h ∙ ap (λ (t : List ℕ). contains t v) e
      ∙ set_difference (row_union (replicate 8 0) 0 set) (unowned_in owned) v h (omega (arith, length_union (replicate 8 0) 0 set))
      ∙ rw (set_union (replicate 8 0) set v h (omega arith), contains_cleared 8 v, tables.unowned_is v h n) (and-true (contains set v));
}

-- a local in a set brings its owner to row 0
pub side_zero : (owned set : List ℕ) (a v : ℕ) → v < 512 → contains (own_rows_in owned) (512 * a + v) ≡ true → contains set v ≡ true → side owned set a ≡ 0
unfolding meets
side_zero owned set a v h x y =
    ap (λ (t : Bool). cond {A = ℕ} t 0 1)
    (any_some (λ n. contains (row_of (own_rows_in owned) a) n && contains set n) 0 512 v (omega arith) h (ap₂ (λ (s t : Bool). s && t) (contains_row (own_rows_in owned) a v h ∙ x) y))

-- ---- the owners of the first of some locals are in their rows

-- own: the owner of a local, plus 1, or 0; row: where an allocation goes
module _ (own row : ℕ → ℕ) (ids t₀ t : List ℕ) where
  -- which allocations stand where, for the first i locals
  abbrev pub split_to : ℕ → ℕ → ℕ → Bool
  split_to i r a = mem (a + 1) (map own (take i ids)) && eqb r (row a)

  pub split_none : Adds t₀ (split_to 0) t₀
  split_none = adds_none (λ r a h. refl)

  pub split_more : {t' : List ℕ} (i a : ℕ) → i < length ids → own (get_or ids i 0) ≡ a + 1 → a < 512 → t' ≡ added t (512 * row a + a) → Adds t₀ (split_to i) t → Adds t₀ (split_to (i + 1)) t'
  split_more i a h e l p k = rw p (adds_as (λ r b q. go r b (eqb b a) refl) (adds_then k (adds_one t (row a) a l)))
    where
      go : (r b : ℕ) (x : Bool) → eqb b a ≡ x → ((mem (b + 1) (map own (take i ids)) && eqb r (row b)) || (eqb r (row a) && eqb b a)) ≡ (mem (b + 1) (map own (take (i + 1) ids)) && eqb r (row b))
      go r b true q =
          let z : b ≡ a = eqb-true b a q in
          let y : b + 1 ≡ own (get_or ids i 0) = omega (arith, e) in
          rw (← mapped_next own ids i h (b + 1), eq-eqb (b + 1) (own (get_or ids i 0)) y, q, ← z) (by (mem (b + 1) (map own (take i ids))) (eqb r (row b)))
        where
          by : (x y : Bool) → ((x && y) || (y && true)) ≡ ((x || true) && y)
          by true true = refl
          by true false = refl
          by false true = refl
          by false false = refl
      go r b false q =
          let z : ¬ (b ≡ a) = eqb-false b a q in
          rw (← mapped_next own ids i h (b + 1), ne_eqb (b + 1) (own (get_or ids i 0)) (λ y. z (omega (arith, e))), q, and-false, or-false, or-false)

  pub split_skip : (i : ℕ) → i < length ids → own (get_or ids i 0) ≡ 0 → Adds t₀ (split_to i) t → Adds t₀ (split_to (i + 1)) t
  split_skip i h e k =
      adds_as (λ r a q. rw (← mapped_next own ids i h (a + 1), e, ne_eqb (a + 1) 0 (λ y. omega arith), or-false)) k

  pub split_all : (i : ℕ) → length ids ≤ i → Adds t₀ (split_to i) t → Adds t₀ (λ r a. mem (a + 1) (map own ids) && eqb r (row a)) t
  split_all i h k = adds_as (λ r a q. ap (λ (l : List ℕ). mem (a + 1) (map own l) && eqb r (row a)) (take_all i ids h)) k

-- ---- reading

pub owner_read : (owned : List ℕ) (v : ℕ) → v < 512 → get_or owned (4104 + v) 0 ≡ owner_in owned v
unfolding part
owner_read owned v h = sym (get_or-take 512 (drop 4104 owned) v 0 h ∙ get_or-drop 4104 owned v 0)

pub side_most : (owned set : List ℕ) (a : ℕ) → side owned set a ≤ 1
side_most owned set a = go (lives_in owned set a)
  where
    go : (t : Bool) → cond t 0 1 ≤ 1
    go true = omega arith
    go false = omega arith
