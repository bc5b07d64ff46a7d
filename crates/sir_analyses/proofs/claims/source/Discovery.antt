-- The source's `discover_allocations` finds the allocations, gives every base to its own, and fails its assertion just where refusal 12
-- applies.
use mathlib.Core.Path.{◌≡◌, refl, sym, ap, ap₂, ◌∙◌, subst, fun_ext}
use mathlib.Core.Bool.{Bool, true, false, not, ◌&&◌, ◌||◌, cond, or-true, or-false}
use Prim.Native.Nat.{ℕ, suc, ◌<◌}
use native.Mathlib.Omega.{arith}
use native.Mathlib.Numerals.{add-one}
use mathlib.Core.List.{List, [], ◌∷◌, ◌++◌, map, append-nil, append_assoc, Memᴰ}
use lib.ListN.{length, get_or, set, replicate, drop, length-append, length-set, length-replicate, get_or-replicate}
use lib.Seq.{get_or-set_same, get_or-set_other, get_or-drop, drop-drop}
use lib.Dec.{eqb}
use borrow.Author.Tests.{eqb-true, eqb-false, ne_eqb}
use Rattle.plank_core.specs.Lists.{foldl, keep, mem, distinct, count, upto}
use Rattle.plank_core.specs.laws.Lists.{mem_snoc, mem_place}
use Rattle.plank_core.specs.laws.Loops.{map_append}
use Rattle.sir_data.specs.Records.{locals, ops, code}
use Rattle.sir_data.specs.Codes.{is_alloc}
use Rattle.sir_data.specs.inner.WellFormed.{WellFormed}
use Rattle.sir_analyses.specs.Order.{blocks_rpo}
use Rattle.sir_analyses.specs.Liveness.{Use, uses}
use Rattle.sir_analyses.specs.Allocation.{Alloc, allocs, no_alloc, base, bases, rule12}
use Rattle.sir_analyses.specs.Propagation.{State, start}
use Rattle.sir_analyses.specs.Source.{Discoveries, push_allocation, discover_operation, discovered, source_start, propagate, source_after}
use Rattle.sir_analyses.proofs.claims.marks.Marks.{base_less}
use Rattle.sir_analyses.proofs.claims.source.Tables.{source_uses_row}
use Rattle.plank_core.specs.laws.Folds.{fold_bind}
use Rattle.plank_core.specs.laws.Distinct.{eqb_swap}

-- ---- operation by operation, and allocation by allocation

module _ (w : List ℕ) where
  abbrev at : ℕ → ℕ → Alloc
  at b o = record { block = b; op = o }

  abbrev none_yet : Discoveries
  none_yet = record { allocations = []; owner = replicate (locals w) 0; failed = false }

  block_found : (b : ℕ) (os : List ℕ) (d : Discoveries) → foldl (discover_operation w b) d os ≡ foldl (push_allocation w) d (map (at b) (keep (λ o. is_alloc (code w o)) os))
  block_found b [] d = refl
  block_found b (o ∷ os) d = block_found b os (discover_operation w b d o) ∙ go (is_alloc (code w o))
    where
      go : (t : Bool) → foldl (push_allocation w) (cond t (push_allocation w d (at b o)) d) (map (at b) (keep (λ o. is_alloc (code w o)) os))
          ≡ foldl (push_allocation w) d (map (at b) (cond t (o ∷ keep (λ o. is_alloc (code w o)) os) (keep (λ o. is_alloc (code w o)) os)))
      go true = refl
      go false = refl

  all_found : discovered w ≡ foldl (push_allocation w) none_yet (allocs w)
  all_found =
      ap (λ (f : Discoveries → ℕ → Discoveries). foldl f none_yet (blocks_rpo w)) (fun_ext (λ d. fun_ext (λ b. block_found b (ops w b) d)))
      ∙ fold_bind (push_allocation w) (λ b. map (at b) (keep (λ o. is_alloc (code w o)) (ops w b))) (blocks_rpo w) none_yet

  pushed : (xs : List Alloc) (d : Discoveries) → (foldl (push_allocation w) d xs).allocations ≡ d.allocations ++ xs
  pushed [] d = sym (append-nil d.allocations)
  pushed (a ∷ xs) d = pushed xs (push_allocation w d a) ∙ append_assoc d.allocations (a ∷ []) xs

  pub source_allocations : (discovered w).allocations ≡ allocs w
  source_allocations = ap (λ (d : Discoveries). d.allocations) all_found ∙ pushed (allocs w) none_yet

  -- ---- owners

  -- full are all allocations, and xs those from number k on
  owned : (full xs : List Alloc) (k : ℕ) (d : Discoveries) → length d.allocations ≡ k → drop k full ≡ xs
      → (foldl (push_allocation w) d xs).owner ≡ foldl (λ owner a. set owner (base w (get_or full a no_alloc)) (suc a)) d.owner (count k (length xs))
  owned full [] k d e h = refl
  owned full (a ∷ xs) k d e h =
      let here : get_or full k no_alloc ≡ a =
      ap (λ (n : ℕ). get_or full n no_alloc) (omega arith) ∙ sym (get_or-drop k full 0 no_alloc) ∙ ap (λ (ys : List Alloc). get_or ys 0 no_alloc) h in
      let behind : drop (suc k) full ≡ xs = ap (λ (n : ℕ). drop n full) (sym (add-one k)) ∙ sym (drop-drop 1 k full) ∙ ap (drop 1) h in
      owned full xs (suc k) (push_allocation w d a) (omega (arith, length-append d.allocations (a ∷ []))) behind
      ∙ ap (λ (o : List ℕ). foldl (λ owner a. set owner (base w (get_or full a no_alloc)) (suc a)) o (count (suc k) (length xs)))
      (ap₂ (λ (x : Alloc) (n : ℕ). set d.owner (base w x) (suc n)) (sym here) e)

  pub source_bases : (discovered w).owner ≡ bases w
  source_bases = ap (λ (d : Discoveries). d.owner) all_found ∙ owned (allocs w) (allocs w) 0 none_yet refl refl

  -- ---- the assertion

  distinct_snoc : (xs : List ℕ) (x : ℕ) → distinct (xs ++ (x ∷ [])) ≡ (distinct xs && not (mem x xs))
  distinct_snoc [] x = refl
  distinct_snoc (y ∷ xs) x =
      ap₂ (λ s t. not s && t) (mem_snoc y x xs) (distinct_snoc xs x) ∙ ap (λ (e : Bool). not (mem y xs || e) && (distinct xs && not (mem x xs))) (eqb_swap y x)
      ∙ go (mem y xs) (eqb x y) (distinct xs) (mem x xs)
    where
      go : (m e d n : Bool) → (not (m || e) && (d && not n)) ≡ ((not m && d) && not (e || n))
      go true e d n = refl
      go false true true n = refl
      go false true false n = refl
      go false false d n = refl

  abbrev bases_of : List Alloc → List ℕ
  bases_of = map (base w)

  -- a local has an owner just where it is a base so far, and the assertion failed just where one was a base twice
  record Known (d : Discoveries) : Type 0 where
    wide : length d.owner ≡ locals w
    owns : (v : ℕ) → v < locals w → eqb (get_or d.owner v 0) 0 ≡ not (mem v (bases_of d.allocations))
    fails : d.failed ≡ not (distinct (bases_of d.allocations))

  push_known : (d : Discoveries) (a : Alloc) → base w a < locals w → Known d → Known (push_allocation w d a)
  push_known d a l h = record {
    wide = length-set d.owner (base w a) (suc n) ∙ h.wide;
    owns = λ v k. owns v k (eqb v (base w a)) refl ∙ ap not (sym (mem_snoc v (base w a) bs)) ∙ ap (λ (xs : List ℕ). not (mem v xs)) (sym more);
    fails =
        ap₂ (λ s t. s || not t) h.fails (h.owns (base w a) l) ∙ tests (distinct bs) (mem (base w a) bs)
        ∙ ap not (sym (distinct_snoc bs (base w a))) ∙ ap (λ (xs : List ℕ). not (distinct xs)) (sym more);
  }
    where
      n : ℕ
      n = length d.allocations

      bs : List ℕ
      bs = bases_of d.allocations

      more : bases_of (d.allocations ++ (a ∷ [])) ≡ bs ++ (base w a ∷ [])
      more = map_append (base w) d.allocations (a ∷ [])

      owns : (v : ℕ) → v < locals w → (t : Bool) → eqb v (base w a) ≡ t → eqb (get_or (set d.owner (base w a) (suc n)) v 0) 0 ≡ not (mem v bs || t)
      owns v k true e =
          let q : v ≡ base w a = eqb-true v (base w a) e in
          let g : get_or (set d.owner (base w a) (suc n)) v 0 ≡ suc n =
          subst (λ (u : ℕ). get_or (set d.owner u (suc n)) v 0 ≡ suc n) q (get_or-set_same d.owner v (suc n) 0 (subst (λ (m : ℕ). v < m) (sym h.wide) k)) in
          ap (λ (m : ℕ). eqb m 0) g ∙ ne_eqb (suc n) 0 (λ z. omega arith) ∙ sym (ap not (or-true (mem v bs)))
      owns v k false e =
          ap (λ (m : ℕ). eqb m 0) (get_or-set_other d.owner (base w a) v (suc n) 0 (eqb-false v (base w a) e)) ∙ h.owns v k ∙ ap not (sym (or-false (mem v bs)))

      tests : (d m : Bool) → (not d || not (not m)) ≡ not (d && not m)
      tests true true = refl
      tests true false = refl
      tests false m = refl

  all_known : (xs : List Alloc) → ((a : Alloc) → Memᴰ a xs → base w a < locals w) → (d : Discoveries) → Known d → Known (foldl (push_allocation w) d xs)
  all_known [] l d h = h
  all_known (a ∷ xs) l d h = all_known xs (λ b m. l b (Memᴰ.tail m)) (push_allocation w d a) (push_known d a (l a (Memᴰ.head refl)) h)

  module _ (good : WellFormed w) where
    known : Known (discovered w)
    known =
        subst Known (sym all_found)
        (all_known (allocs w) (λ a m. let p = mem_place no_alloc m in subst (λ (x : Alloc). base w x < locals w) p.2 (base_less w good p.0 p.1)) none_yet
        (record { wide = length-replicate (locals w) 0; owns = λ v k. ap (λ (n : ℕ). eqb n 0) (get_or-replicate (locals w) v 0 0 k); fails = refl }))

    -- refusal 12 is the source's assertion
    pub assertion_fails : (discovered w).failed ≡ rule12 w
    assertion_fails = known.fails ∙ ap (λ (xs : List Alloc). not (distinct (bases_of xs))) source_allocations

    -- ---- the allocations propagate by the uses and from the start of the definitions

    starts : source_start w ≡ start w
    starts = ap₂ (λ (o : List ℕ) (xs : List Alloc). record { owner = o; marks = replicate (length xs) false; work = [] }) source_bases source_allocations

    pub after_same : (n : ℕ) → source_after w n ≡ foldl (propagate (uses w) w) (start w) (upto n)
    after_same n = ap₂ (λ (uses_of : ℕ → List Use) (s : State). foldl (propagate uses_of w) s (upto n)) (fun_ext (source_uses_row w good)) starts
