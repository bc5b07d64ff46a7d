-- The ends that are open for the allocations in a block, as its operations are passed backwards with the live set.
use mathlib.Core.Path.{◌≡◌, refl, sym, ap, ap₂, ◌∙◌}
use mathlib.Core.Bool.{Bool, true, false, not, ◌&&◌, ◌||◌, cond, and-false, or-false, and-true}
use mathlib.Core.List.Memᴰ
use mathlib.Core.List.{List, [], ◌∷◌, map}
use Prim.Native.Nat.{ℕ, zero, suc, ◌+◌, ◌*◌, ◌≤◌, ◌<◌}
use native.Mathlib.Omega.{arith}
use lib.ListN.{length, replicate}
use lib.Dec.{eqb}
use borrow.Author.Tests.{eqb-true, not-true, not-false}
use Rattle.plank_core.specs.Lists.{count, range, mem, any}
use Rattle.plank_core.specs.laws.Lists.{or_false_left, or_false_right, and_true_left, and_true_right, any_find, in_mem, mem_in, refuted, none}
use Rattle.plank_core.specs.inner.DenseIndexSet.{contains, members, meets, row_of}
use Rattle.plank_core.specs.laws.DenseIndexSet.{contains_row}
use Rattle.sir_data.specs.Records.{blocks, operations, block_word, ops}
use Rattle.sir_data.specs.inner.WellFormed.{WellFormed}
use Rattle.sir_analyses.specs.Liveness.{block_end, end_open}
use Rattle.sir_analyses.specs.inner.Stages.{LivenessStage, reads_in, writes_in}
use Rattle.sir_analyses.specs.inner.Tables.{Adds}
use Rattle.sir_answers.specs.inner.Scatter.{number_at}
use Rattle.sir_answers.specs.inner.IntervalPieces.{closed_pieces}
use Rattle.sir_answers.specs.inner.AllocationPieces.{own_reach, swept_to, lives_at, swept_end, SweptEnds, swept_by, swept_pieces, open_pieces, own_rows_in, owner_in, OwnedTables, OwnedListed, owns_one, lives_in, side, LiveOwners, SplitOwners}
use Rattle.sir_analyses.proofs.Tables.{cleared_row, cleared_long}
use Rattle.sir_analyses.proofs.merged_intervals.SweepSteps.{note_open}
use Rattle.sir_analyses.proofs.merged_intervals.MergedIntervals.{note_till, live_test}
use Rattle.sir_answers.proofs.LiveSets.{LiveBefore, live_more}
use Rattle.sir_answers.proofs.all_intervals.OpenEnds.{mem_members, closed_members}
use Rattle.sir_answers.proofs.all_allocations.AllocationPieces.{own_length}

-- ---- one is open exactly where something is live

open_lives : (w : List ℕ) (b a : ℕ) (os : List ℕ) → not (eqb (swept_end w b a os) 0) ≡ lives_at w b a os
unfolding swept_to
open_lives w b a [] = go (lives_at w b a [])
  where
    go : (t : Bool) → not (eqb (end_open t) 0) ≡ t
    go true = refl
    go false = refl
open_lives w b a (o ∷ os) = note_open b o (lives_at w b a (o ∷ os)) (swept_to w b a os).spans

none_open : (w : List ℕ) (b a : ℕ) (os : List ℕ) → lives_at w b a os ≡ false → swept_end w b a os ≡ 0
none_open w b a os e = eqb-true (swept_end w b a os) 0 (not-false (eqb (swept_end w b a os) 0) (open_lives w b a os ∙ e))

some_open : (w : List ℕ) (b a : ℕ) (os : List ℕ) → lives_at w b a os ≡ true → eqb (swept_end w b a os) 0 ≡ false
some_open w b a os e = not-true (eqb (swept_end w b a os) 0) (open_lives w b a os ∙ e)

-- ---- a set meets the same of two sets that differ only elsewhere

meets_same : (r s t : List ℕ) → ((v : ℕ) → v < 512 → contains r v ≡ true → contains s v ≡ contains t v) → meets r s ≡ meets r t
unfolding meets
meets_same r s t e = go 0 512 (omega arith)
  where
    one : (v : ℕ) → v < 512 → (x : Bool) → contains r v ≡ x → (x && contains s v) ≡ (x && contains t v)
    one v h true q = e v h q
    one v h false q = refl

    go : (k n : ℕ) → k + n ≤ 512 → any (λ v. contains r v && contains s v) (count k n) ≡ any (λ v. contains r v && contains t v) (count k n)
    go k zero h = refl
    go k (suc n) h = ap₂ (λ (x y : Bool). x || y) (one k (omega arith) (contains r k) refl) (go (suc k) n (omega arith))

map_mem : (f : ℕ → ℕ) (v : ℕ) (vs : List ℕ) → mem v vs ≡ true → mem (f v) (map f vs) ≡ true
map_mem f v vs e = in_mem (f v) (Memᴰ.map f (mem_in v vs e))

-- ---- the owners of some locals, put in two rows of an empty table

module _ (owned set ids : List ℕ) {split : List ℕ} (t₀ : List ℕ) (e : t₀ ≡ replicate 16 0) (adds : Adds t₀ (λ r a. owns_one owned ids a && eqb r (side owned set a)) split) where
  split_told : (r a : ℕ) → r < 2 → a < 512 → contains split (512 * r + a) ≡ (owns_one owned ids a && eqb r (side owned set a))
  split_told r a q h = adds.same r a (omega (arith, cleared_long t₀ 16 e)) h ∙ ap (λ (t : Bool). t || (owns_one owned ids a && eqb r (side owned set a))) (cleared_row t₀ 16 r a e)

  -- of all locals of a set
  pub live_listed : {w : List ℕ} → OwnedTables w owned → OwnedListed owned set ids → {listed : List ℕ} → listed ≡ members (row_of split 0) → LiveOwners owned set listed
  unfolding meets
  live_listed tables f l = record {
    owners = row_of split 0;
    listed = l;
    live_is = λ a h. contains_row split 0 a h ∙ split_told 0 a (omega arith) h ∙ go a h (lives_in owned set a) refl;
  }
    where
      owning : (a : ℕ) → a < 512 → lives_in owned set a ≡ true → owns_one owned ids a ≡ true
      owning a h t =
          let r = any_find (λ v. contains (row_of (own_rows_in owned) a) v && contains set v) 0 512 t in
          let v = r.0 in
          let x : contains (row_of (own_rows_in owned) a) v ≡ true = and_true_left (contains (row_of (own_rows_in owned) a) v) (contains set v) r.3 in
          let y : contains set v ≡ true = and_true_right (contains (row_of (own_rows_in owned) a) v) (contains set v) r.3 in
          let o : owner_in owned v ≡ a + 1 = eqb-true (owner_in owned v) (a + 1) (sym (tables.row_is a v h r.2) ∙ sym (contains_row (own_rows_in owned) a v r.2) ∙ x) in
          ap (λ (i : ℕ). mem i (map (owner_in owned) ids)) (sym o) ∙ map_mem (owner_in owned) v ids (f.listed_is v r.2 (λ z. omega arith) ∙ y)

      go : (a : ℕ) → a < 512 → (t : Bool) → lives_in owned set a ≡ t → (owns_one owned ids a && eqb 0 (cond t 0 1)) ≡ t
      go a h true q = ap (λ (t : Bool). t && true) (owning a h q)
      go a h false q = and-false (owns_one owned ids a)

  -- of the locals that operation o reads or writes
  pub touched_split : (live : List ℕ) (o : ℕ) (touched : List ℕ) → OwnedListed owned touched ids → ((v : ℕ) → v < 512 → contains touched v ≡ (contains (writes_in live) (512 * o + v) || contains (reads_in live) (512 * o + v))) → SplitOwners live o owned set split
  touched_split live o touched f g = record {
    touched = ids;
    touched_is = λ v h n. f.listed_is v h n ∙ g v h;
    long = adds.long ∙ cleared_long t₀ 16 e;
    split_is = split_told;
  }

module _ {w live : List ℕ} (stage : LivenessStage w live) {owned : List ℕ} (tables : OwnedTables w owned) {b : ℕ} (l : b < blocks w) where
  good : WellFormed w
  good = stage.well_formed

  -- the words tell whether a local of an allocation is live
  lives_told : (os set : List ℕ) → LiveBefore w b os set → (a : ℕ) → a < 512 → lives_in owned set a ≡ lives_at w b a os
  unfolding swept_to
  lives_told os set k a h = live_test (row_of (own_rows_in owned) a) good b l os set k.lives (own_reach w a) (own_length w good a) (λ v q. contains_row (own_rows_in owned) a v q ∙ tables.reach_is a v h q)

  -- ---- after the operations

  pub swept_none : (till : List ℕ) {set ids till' : List ℕ} → LiveBefore w b [] set → LiveOwners owned set ids → length till' ≡ 512 → ((a : ℕ) → number_at till a ≡ 0) → ((a : ℕ) → number_at till' a ≡ cond (mem a ids) block_end (number_at till a)) → SweptEnds w b [] till'
  unfolding swept_to
  swept_none till {set} {ids} k x long z f = record {
    long = long;
    end_is = λ a h.
        f a ∙ ap₂ (λ (t : Bool) (n : ℕ). cond t block_end n) (ap (mem a) x.listed ∙ mem_members x.owners a h ∙ x.live_is a h ∙ lives_told [] set k a h) (z a);
  }

  -- ---- one operation

  module _ {os set till : List ℕ} (k : LiveBefore w b os set) (e : SweptEnds w b os till) {o : ℕ} (m : o < operations w) {set' : List ℕ}
      (f : (v : ℕ) → v < 512 → contains set' v ≡ ((contains set v && not (contains (writes_in live) (512 * o + v))) || contains (reads_in live) (512 * o + v))) where
    live_next : length set' ≡ 8 → LiveBefore w b (o ∷ os) set'
    live_next long = live_more stage l k m f long

    module _ (long : length set' ≡ 8) {split : List ℕ} (x : SplitOwners live o owned set' split) where
      -- an allocation none of whose locals the operation touches lives before it as it does after it
      untouched : (a : ℕ) → a < 512 → owns_one owned x.touched a ≡ false → lives_at w b a (o ∷ os) ≡ lives_at w b a os
      untouched a h n =
          sym (lives_told (o ∷ os) set' (live_next long) a h)
          ∙ meets_same (row_of (own_rows_in owned) a) set' set (λ v q r. same v q (eqb-true (owner_in owned v) (a + 1) (sym (tables.row_is a v h q) ∙ sym (contains_row (own_rows_in owned) a v q) ∙ r)))
          ∙ lives_told os set k a h
        where
          apart : (v : ℕ) → owner_in owned v ≡ a + 1 → mem v x.touched ≡ false
          apart v q = refuted (mem v x.touched) (λ r. none (owns_one owned x.touched a) (ap (λ (i : ℕ). mem i (map (owner_in owned) x.touched)) (sym q) ∙ map_mem (owner_in owned) v x.touched r) n)

          same : (v : ℕ) → v < 512 → owner_in owned v ≡ a + 1 → contains set' v ≡ contains set v
          same v h q =
              let c : Bool = contains (writes_in live) (512 * o + v) in
              let d : Bool = contains (reads_in live) (512 * o + v) in
              let z : (c || d) ≡ false = sym (x.touched_is v h (λ z. omega arith)) ∙ apart v q in
              f v h ∙ rw (or_false_left c d z, or_false_right c d z) (or-false (contains set v && true) ∙ and-true (contains set v))

      told : (r a : ℕ) → r < 2 → a < 512 → contains (row_of split r) a ≡ (owns_one owned x.touched a && eqb r (cond (lives_at w b a (o ∷ os)) 0 1))
      told r a q h = contains_row split r a h ∙ x.split_is r a q h ∙ ap (λ (t : Bool). owns_one owned x.touched a && eqb r (cond t 0 1)) (lives_told (o ∷ os) set' (live_next long) a h)

      -- what it closes
      pub swept_closed : os ≡ range (o + 1) (block_word w b 5) → closed_pieces b (o + 1) (number_at till) (members (row_of split 1)) ≡ swept_pieces w b o
      unfolding swept_pieces
      swept_closed p =
          closed_members (row_of split 1) till b (o + 1) (swept_by w b o (range (o + 1) (block_word w b 5)))
          (λ a h. ap (λ (ps : List ℕ). swept_by w b o ps a) (sym p) ∙ go a h (owns_one owned x.touched a) refl (lives_at w b a (o ∷ os)) refl ∙ ap₂ (λ (t : Bool) (n : ℕ). cond t n 0) (sym (told 1 a (omega arith) h)) (sym (e.end_is a h)))
        where
          go : (a : ℕ) → a < 512 → (u : Bool) → owns_one owned x.touched a ≡ u → (t : Bool) → lives_at w b a (o ∷ os) ≡ t → cond t 0 (swept_end w b a os) ≡ cond (u && eqb 1 (cond t 0 1)) (swept_end w b a os) 0
          go a h true p true q = refl
          go a h true p false q = refl
          go a h false p true q = refl
          go a h false p false q = none_open w b a os (sym (untouched a h p) ∙ q)

      -- what is open before it
      pub swept_more : (till₁ : List ℕ) {till₂ : List ℕ} → length till₂ ≡ 512 → ((a : ℕ) → number_at till₁ a ≡ cond (mem a (members (row_of split 1))) 0 (number_at till a))
          → ((a : ℕ) → number_at till₂ a ≡ cond (mem a (members (row_of split 0)) && eqb (number_at till₁ a) 0) (o + 1) (number_at till₁ a)) → SweptEnds w b (o ∷ os) till₂
      unfolding swept_to
      swept_more till₁ long₂ g₁ g₂ = record {
        long = long₂;
        end_is = λ a h.
            g₂ a
            ∙ ap₂ (λ (t : Bool) (n : ℕ). cond (t && eqb n 0) (o + 1) n) (mem_members (row_of split 0) a h ∙ told 0 a (omega arith) h) (g₁ a ∙ ap₂ (λ (t : Bool) (n : ℕ). cond t 0 n) (mem_members (row_of split 1) a h ∙ told 1 a (omega arith) h) (e.end_is a h))
            ∙ go a h (owns_one owned x.touched a) refl (lives_at w b a (o ∷ os)) refl
            ∙ sym (note_till b o (lives_at w b a (o ∷ os)) (swept_to w b a os).spans);
      }
        where
          go : (a : ℕ) → a < 512 → (u : Bool) → owns_one owned x.touched a ≡ u → (t : Bool) → lives_at w b a (o ∷ os) ≡ t
              → (let n : ℕ = cond (u && eqb 1 (cond t 0 1)) 0 (swept_end w b a os) in cond ((u && eqb 0 (cond t 0 1)) && eqb n 0) (o + 1) n) ≡ cond t (cond (eqb (swept_end w b a os) 0) (o + 1) (swept_end w b a os)) 0
          go a h true p true q = refl
          go a h true p false q = refl
          go a h false p true q = sym (ap (λ (z : Bool). cond z (o + 1) (swept_end w b a os)) (some_open w b a os (sym (untouched a h p) ∙ q)))
          go a h false p false q = none_open w b a os (sym (untouched a h p) ∙ q)

  -- ---- the start of the block

  pub open_closed : {set ids till : List ℕ} → LiveBefore w b (ops w b) set → LiveOwners owned set ids → SweptEnds w b (ops w b) till → closed_pieces b 0 (number_at till) ids ≡ open_pieces w b
  unfolding open_pieces
  open_closed {set} {ids} {till} k x e =
      ap (closed_pieces b 0 (number_at till)) x.listed
      ∙ closed_members x.owners till b 0 (λ a. swept_end w b a (ops w b)) (λ a h. go a (lives_at w b a (ops w b)) refl ∙ ap₂ (λ (t : Bool) (n : ℕ). cond t n 0) (sym (x.live_is a h ∙ lives_told (ops w b) set k a h)) (sym (e.end_is a h)))
    where
      go : (a : ℕ) (t : Bool) → lives_at w b a (ops w b) ≡ t → swept_end w b a (ops w b) ≡ cond t (swept_end w b a (ops w b)) 0
      go a true q = refl
      go a false q = none_open w b a (ops w b) q
