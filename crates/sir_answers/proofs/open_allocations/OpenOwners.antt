-- What is open at an operation, from the locals that are live around it: an unmarked allocation is open there exactly where a local of its
-- reach is one of them.
use mathlib.Core.Path.{◌≡◌, refl, sym, ap, ◌∙◌}
use mathlib.Core.Bool.{Bool, true, false, not, ◌&&◌, ◌||◌, and-true}
use mathlib.Core.List.Memᴰ
use mathlib.Core.List.{List, [], map}
use Prim.Native.Nat.{ℕ, ◌+◌, ◌*◌, ◌≤◌, ◌<◌}
use native.Mathlib.Omega.{arith}
use lib.ListN.{length, replicate}
use lib.Dec.{eqb, ltb}
use borrow.Author.Tests.{eq-eqb, eqb-true, lt-ltb}
use Rattle.plank_core.specs.Lists.{upto, any, mem, ◌∈◌}
use Rattle.plank_core.specs.laws.Lists.{none, and_true_left, and_true_right, both_true, same_tests, any_some, any_none, any_find, mem_in, in_mem}
use Rattle.plank_core.specs.inner.DenseIndexSet.{contains, members, meets}
use Rattle.plank_core.specs.laws.Members.{member_in, member_is}
use Rattle.sir_data.specs.Records.{locals, ops}
use Rattle.sir_data.specs.inner.WellFormed.{WellFormed}
use Rattle.sir_analyses.specs.Order.{blocks_rpo, is_visited}
use Rattle.sir_analyses.specs.Liveness.{Set, has}
use Rattle.sir_analyses.specs.Allocation.{allocs, alloc_at, reach, marked, merged}
use Rattle.sir_analyses.specs.Open.{lies, is_open, open_at}
use Rattle.sir_analyses.specs.inner.Stages.{PointerStage}
use Rattle.sir_analyses.specs.inner.Tables.{Same, Adds}
use Rattle.sir_answers.specs.inner.AllocationPieces.{own_reach, unmarked_owner}
use Rattle.sir_answers.specs.inner.LiveAround.{is_around, LiveAround, UnmarkedOwners}
use Rattle.sir_analyses.proofs.SetLaws.{has_less, members_in, members_out, none_in}
use Rattle.sir_analyses.proofs.Tables.{cleared_row, cleared_long}
use Rattle.sir_analyses.proofs.claims.order.OrderProof.{blocks_seen, blocks_visited}
use Rattle.sir_analyses.proofs.claims.marks.Marks.{reach_length}
use Rattle.sir_analyses.proofs.claims.lifetimes.OpenProof.{covered_lies, lies_covered, merged_out, merged_in, open_rule}
use Rattle.sir_analyses.proofs.local_liveness.SetAnswers.{keep_below}
use Rattle.sir_analyses.proofs.allocation_liveness.PointerTables.{allocations_few}
use Rattle.sir_answers.proofs.all_allocations.AllocationPieces.{own_unmarked, own_marked, own_unknown}
use Rattle.sir_answers.proofs.owned_tables.OwnedTables.{own_rows_are}
use Rattle.sir_answers.proofs.open_allocations.LiesAround.{local_lies}

module _ {w : List ℕ} (good : WellFormed w) {b o : ℕ} (mb : b ∈ blocks_rpo w) (mo : o ∈ ops w b) {set : List ℕ} (k : LiveAround w b o set) where
  -- a local of the reach of an unmarked allocation is in the set exactly where an interval of the allocation lies over the operation
  some_lies : (reached : ℕ → Bool) (a : ℕ) → marked w a ≡ false → ((v : ℕ) → v < 512 → reached v ≡ has (reach w (alloc_at w a)) v) → any (λ v. reached v && contains set v) (upto 512) ≡ lies b o (merged w a)
  some_lies reached a u same = same_tests (any both (upto 512)) (lies b o (merged w a)) there back
    where
      both : ℕ → Bool
      both v = reached v && contains set v

      r : Set
      r = reach w (alloc_at w a)

      small : (v : ℕ) → has r v ≡ true → v < locals w
      small v h = omega (arith, has_less r v h, reach_length w good a)

      there : any both (upto 512) ≡ true → lies b o (merged w a) ≡ true
      there t =
          let x = any_find both 0 512 t in
          let v = x.0 in
          let h : has r v ≡ true = sym (same v x.2) ∙ and_true_left (reached v) (contains set v) x.3 in
          let i : is_around w b o v ≡ true = sym (k.around_is v (small v h)) ∙ and_true_right (reached v) (contains set v) x.3 in
          lies_covered (merged_in w a u (members_in r v h) ((local_lies w good b o mb mo v (small v h)).1 i))

      back : lies b o (merged w a) ≡ true → any both (upto 512) ≡ true
      back t =
          let x = merged_out w a u (covered_lies b o (merged w a) t) in
          let v = x.0 in
          let h : has r v ≡ true = members_out r x.1 in
          let q : v < 512 = omega (arith, small v h, good.sized.locals_most) in
          any_some both 0 512 v (omega arith) (omega arith)
          (both_true (reached v) (contains set v) (same v q ∙ h) (k.around_is v (small v h) ∙ (local_lies w good b o mb mo v (small v h)).0 x.2))

  -- by words that show the reach
  pub meets_lies : (rs : List ℕ) (a : ℕ) → marked w a ≡ false → Same rs (reach w (alloc_at w a)) → meets rs set ≡ lies b o (merged w a)
  unfolding meets
  meets_lies rs a u same = some_lies (contains rs) a u same

  module _ {pointers : List ℕ} (stage : PointerStage w pointers) where
    -- allocation a is the unmarked owner of a local of the set exactly where the locals by which it lives have one in the set
    owner_lives : (a : ℕ) → mem (a + 1) (map (unmarked_owner pointers) (members set)) ≡ any (λ v. has (own_reach w a) v && contains set v) (upto 512)
    owner_lives a = same_tests (mem (a + 1) (map own (members set))) (any both (upto 512)) there back
      where
        own : ℕ → ℕ
        own = unmarked_owner pointers

        both : ℕ → Bool
        both v = has (own_reach w a) v && contains set v

        there : mem (a + 1) (map own (members set)) ≡ true → any both (upto 512) ≡ true
        there t =
            let x = Memᴰ.of_map own (members set) (mem_in (a + 1) (map own (members set)) t) in
            let v = x.0 in
            let m = member_is set v x.1 in
            let l : v < locals w = k.known v m.0 m.1 in
            let h : has (own_reach w a) v ≡ true = own_rows_are stage a v ∙ both_true (ltb v (locals w)) (eqb (own v) (a + 1)) (lt-ltb v (locals w) l) (eq-eqb (own v) (a + 1) x.2) in
            any_some both 0 512 v (omega arith) (omega (arith, m.0)) (both_true (has (own_reach w a) v) (contains set v) h m.1)

        back : any both (upto 512) ≡ true → mem (a + 1) (map own (members set)) ≡ true
        back t =
            let x = any_find both 0 512 t in
            let v = x.0 in
            let h : (ltb v (locals w) && eqb (own v) (a + 1)) ≡ true = sym (own_rows_are stage a v) ∙ and_true_left (has (own_reach w a) v) (contains set v) x.3 in
            let e : own v ≡ a + 1 = eqb-true (own v) (a + 1) (and_true_right (ltb v (locals w)) (eqb (own v) (a + 1)) h) in
            ap (λ (i : ℕ). mem i (map own (members set))) (sym e) ∙ in_mem (own v) (Memᴰ.map own (member_in set v x.2 (and_true_right (has (own_reach w a) v) (contains set v) x.3)))

    -- no local by which it lives: none is in the set
    none_lives : (a : ℕ) → own_reach w a ≡ replicate (locals w) false → any (λ v. has (own_reach w a) v && contains set v) (upto 512) ≡ false
    none_lives a e = any_none (λ v. has (own_reach w a) v && contains set v) 0 512 (λ v l h. ap (λ (t : Bool). t && contains set v) (ap (λ (s : Set). has s v) e ∙ none_in (locals w) v))

    -- an allocation owns a local of the set, unmarked, exactly where it is open
    pub owner_open : (a : ℕ) → a < length (allocs w) → mem (a + 1) (map (unmarked_owner pointers) (members set)) ≡ is_open w b o a
    owner_open a l = go (marked w a) refl
      where
        go : (m : Bool) → marked w a ≡ m → mem (a + 1) (map (unmarked_owner pointers) (members set)) ≡ (not m && lies b o (merged w a))
        go true e = owner_lives a ∙ none_lives a (own_marked w a e)
        go false e = owner_lives a ∙ some_lies (has (own_reach w a)) a e (λ v h. ap (λ (s : Set). has s v) (own_unmarked w a l e))

    pub owner_unknown : (a : ℕ) → length (allocs w) ≤ a → mem (a + 1) (map (unmarked_owner pointers) (members set)) ≡ false
    owner_unknown a l = owner_lives a ∙ none_lives a (own_unknown w a l)

    -- the unmarked owners of the locals of the set are the allocations that are open
    pub open_listed : {ids : List ℕ} → UnmarkedOwners pointers set ids → ids ≡ open_at w b o
    unfolding members
    open_listed x =
        x.listed
        ∙ keep_below (contains x.owners) (is_open w b o) (length (allocs w)) 512 (allocations_few stage) (λ a l. x.owner_is a (omega (arith, allocations_few stage)) ∙ owner_open a l)
        (λ a l h. x.owner_is a h ∙ owner_unknown a l)

-- owners that were added to an empty set
pub owners_added : (own : ℕ → ℕ) (ids : List ℕ) {t₀ owners : List ℕ} → t₀ ≡ replicate 8 0 → Adds t₀ (λ r a. mem (a + 1) (map own ids) && eqb r 0) owners → (a : ℕ) → a < 512 → contains owners a ≡ mem (a + 1) (map own ids)
owners_added own ids {t₀} {owners} e adds a h =
    let at : a ≡ 512 * 0 + a = omega arith in
    ap (contains owners) at ∙ adds.same 0 a (omega (arith, cleared_long t₀ 8 e)) h
    ∙ ap (λ (t : Bool). t || (mem (a + 1) (map own ids) && true)) (cleared_row t₀ 8 0 a e) ∙ and-true (mem (a + 1) (map own ids))

-- nothing is open in a block that was not visited
pub open_unvisited : {w : List ℕ} → WellFormed w → (b o : ℕ) → is_visited w b ≡ false → [] ≡ open_at w b o
open_unvisited {w} good b o e = sym ((open_rule w good).unvisited b o (λ v. none (is_visited w b) ((blocks_seen w b).0 ((blocks_visited w good b).1 v)) e))
