-- The first operation that is common to two unmarked allocations: in a block, and over the blocks by id.
use mathlib.Core.Path.{◌≡◌, refl, sym, ap, ap₂, ◌∙◌}
use Rattle.std.proofs.Common.{Option, Some, None}
use Rattle.std.specs.Prelude.{option_map}
use Rattle.plank_core.specs.declared.index.OpIdx.{OpIdx}
use mathlib.Core.Bool.{Bool, true, false, not, ◌&&◌, ◌||◌, cond}
use mathlib.Core.List.Memᴰ
use mathlib.Core.List.{List, [], ◌∷◌, ◌++◌, map, Memᴰ}
use Prim.Native.Nat.{ℕ, suc, ◌+◌, ◌-◌, ◌*◌, ◌≤◌, ◌<◌}
use native.Mathlib.Omega.{arith}
use lib.ListN.{length, get_or}
use lib.Dec.{eqb, ltb}
use Rattle.plank_core.specs.Lists.{keep, bind, range, ◌∈◌}
use Rattle.plank_core.specs.laws.Lists.{none, keep_out, no_members, and_true_left, count_mem}
use Rattle.plank_core.specs.laws.Loops.{keep_append, bind_all, bind_step, bind_end}
use Rattle.plank_core.specs.inner.DenseIndexSet.{contains, meets}
use Rattle.sir_data.specs.Records.{blocks, operations, locals, block_word, ops}
use Rattle.sir_data.specs.inner.WellFormed.{WellFormed}
use Rattle.sir_analyses.specs.Order.{blocks_rpo, is_visited}
use Rattle.sir_analyses.specs.Allocation.{allocs, marked, merged}
use Rattle.sir_analyses.specs.Open.{lies, Place, place_of, places, is_common, first_of, crossing}
use Rattle.sir_analyses.specs.inner.Stages.{LivenessStage, PointerStage, reads_in, writes_in, owners_in}
use Rattle.sir_answers.specs.inner.LiveAround.{LiveAround, ReachOf, first_passing}
use Rattle.sir_analyses.proofs.claims.order.OrderProof.{blocks_seen}
use Rattle.sir_analyses.proofs.claims.lifetimes.OpenProof.{covered_lies, local_out, merged_out}
use Rattle.sir_analyses.proofs.allocation_answers.AllocationWords.{owned_unmarked}
use Rattle.sir_answers.proofs.LiveSets.{LiveBefore, ScanStart, around_here, live_passed}
use Rattle.sir_answers.proofs.open_allocations.OpenOwners.{meets_lies}

-- ---- the first operation of a block

module _ (f : Place → Bool) (b : ℕ) where
  -- the operations that pass
  abbrev passing : List ℕ → List Place
  passing os = keep f (map (place_of b) os)

  -- the first of them
  abbrev first_in : List ℕ → Option ℕ
  first_in os = first_passing (λ o. f (place_of b o)) os

  -- none passes
  pub none_passes : (os : List ℕ) → first_in os ≡ None → passing os ≡ []
  none_passes [] e = refl
  none_passes (o ∷ os) e = go (f (place_of b o)) (none_passes os) e
    where
      go : (t : Bool) → (first_in os ≡ None → passing os ≡ []) → cond t (Some o) (first_in os) ≡ None → cond t (place_of b o ∷ passing os) (passing os) ≡ []
      go true h e = cc
      go false h e = h e

  -- one passes: the three words name the first
  pub first_passes : (os : List ℕ) (rest : List Place) (n : ℕ) → Some n ≡ first_in os → first_of (passing os ++ rest) ≡ 1 ∷ suc b ∷ suc n ∷ []
  first_passes [] rest n e = cc
  first_passes (o ∷ os) rest n e = go (f (place_of b o)) (first_passes os rest n) e
    where
      go : (t : Bool) → (Some n ≡ first_in os → first_of (passing os ++ rest) ≡ 1 ∷ suc b ∷ suc n ∷ []) → Some n ≡ cond t (Some o) (first_in os)
          → first_of (cond t (place_of b o ∷ passing os) (passing os) ++ rest) ≡ 1 ∷ suc b ∷ suc n ∷ []
      go true h e = cc
      go false h e = h e

-- the locals that an unmarked allocation owns show its reach
pub owned_reach : {w pointers : List ℕ} → PointerStage w pointers → {a : ℕ} → a < length (allocs w) → marked w a ≡ false → {set : List ℕ}
    → (length set ≡ 8) × ((v : ℕ) → v < 512 → contains set v ≡ (ltb v (locals w) && eqb (get_or (owners_in pointers) v 0) (a + 1))) → ReachOf w a set
owned_reach p l u s = owned_unmarked p.well_formed p.discovered l u (record { known = l; block_is = refl; op_is = refl }) s

-- the test by words is that of the intervals
pub common_told : {w : List ℕ} → WellFormed w → {b o : ℕ} → b ∈ blocks_rpo w → o ∈ ops w b → {set one other : List ℕ} → LiveAround w b o set → {a c : ℕ} → ReachOf w a one → ReachOf w c other
    → (meets one set && meets other set) ≡ is_common (merged w a) (merged w c) (place_of b o)
common_told good mb mo {one = one} {other} k {a} {c} x y = ap₂ (λ (s t : Bool). s && t) (meets_lies good mb mo k one a x.unmarked x.same) (meets_lies good mb mo k other c y.unmarked y.same)

-- ---- the scan of a block

-- the number of an operation, where there is one
abbrev pub raw : Option OpIdx → Option ℕ
raw o = option_map (λ o. o.0) o

-- the operations os, the last of block b, are passed: what is live before them, and the first of them that is common
pub record CommonScan (w one other : List ℕ) (b : ℕ) (os set : List ℕ) (found : Option OpIdx) : Type 0 where
  pub live : LiveBefore w b os set
  pub first_is : (a c : ℕ) → ReachOf w a one → ReachOf w c other → raw found ≡ first_passing (λ o. is_common (merged w a) (merged w c) (place_of b o)) os

module _ {w live : List ℕ} (stage : LivenessStage w live) {one other : List ℕ} {first end : ℕ} {set₀ : List ℕ} {b : ℕ} (s : ScanStart w first end set₀ b) where
  pub scan_none : {os : List ℕ} → os ≡ [] → CommonScan w one other b os set₀ None
  scan_none e = rw e (record { live = s.live; first_is = λ a c x y. refl })

  module _ {o : ℕ} {set : List ℕ} {found : Option OpIdx} (k : CommonScan w one other b (range (o + 1) end) set found) (h : first ≤ o) (q : o < end) where
    held : o ∈ ops w b
    held = let e = s.end_is in let f = s.start_is in count_mem o (block_word w b 4) (block_word w b 5 - block_word w b 4) (omega arith) (omega arith)

    few : o < operations w
    few = omega (arith, s.end_is, stage.well_formed.in_range.ops_range b s.below)

    pub scan_more : (around : List ℕ) {set' : List ℕ} {common : Bool} {found' : Option OpIdx}
        → ((v : ℕ) → v < 512 → contains around v ≡ (contains set v || contains (reads_in live) (512 * o + v))) → length around ≡ 8
        → common ≡ (meets one around && meets other around) → raw found' ≡ cond common (Some o) (raw found)
        → ((v : ℕ) → v < 512 → contains set' v ≡ ((contains around v && not (contains (writes_in live) (512 * o + v))) || contains (reads_in live) (512 * o + v))) → length set' ≡ 8
        → CommonScan w one other b (o ∷ range (o + 1) end) set' found'
    scan_more around f long m n g long' = record {
      live = live_passed stage s.below k.live few around f g long';
      first_is = λ a c x y.
          n ∙ ap₂ (λ (t : Bool) (r : Option ℕ). cond t (Some o) r) (m ∙ common_told stage.well_formed s.visited held here x y) (k.first_is a c x y);
    }
      where
        here : LiveAround w b o around
        here = around_here stage s.below k.live few around f held (ap (range (o + 1)) s.end_is) long

-- ---- the blocks by id

module _ (w : List ℕ) (a c : ℕ) where
  -- is an operation common to both?
  abbrev common : Place → Bool
  common = is_common (merged w a) (merged w c)

  abbrev in_block : ℕ → List Place
  in_block b = map (place_of b) (ops w b)

  -- the three words for the blocks from b on
  abbrev pub crossing_from : ℕ → List ℕ
  crossing_from b = first_of (keep common (bind (range b (blocks w)) in_block))

  -- a marked one crosses every one
  pub crossing_marked : (marked w a || marked w c) ≡ true → 1 ∷ 0 ∷ 0 ∷ [] ≡ crossing w a c
  crossing_marked e = sym (ap (λ (t : Bool). cond t (1 ∷ 0 ∷ 0 ∷ []) (first_of (keep common (places w)))) e)

  pub crossing_starts : marked w a ≡ false → marked w c ≡ false → crossing w a c ≡ crossing_from 0
  crossing_starts u v = go (marked w a) (marked w c) u v ∙ ap (λ (ps : List Place). first_of (keep common ps)) (bind_all in_block (blocks w))
    where
      go : (s t : Bool) → s ≡ false → t ≡ false → cond (s || t) (1 ∷ 0 ∷ 0 ∷ []) (first_of (keep common (places w))) ≡ first_of (keep common (places w))
      go s t e d = rw (e, d)

  pub crossing_ends : (b : ℕ) → blocks w ≤ b → crossing_from b ≡ 0 ∷ 0 ∷ 0 ∷ []
  crossing_ends b l = ap (λ (ps : List Place). first_of (keep common ps)) (bind_end in_block b (blocks w) l)

  module _ (b : ℕ) (l : b < blocks w) where
    step : keep common (bind (range b (blocks w)) in_block) ≡ keep common (in_block b) ++ keep common (bind (range (b + 1) (blocks w)) in_block)
    step = ap (keep common) (bind_step in_block b (blocks w) l) ∙ keep_append common (in_block b) (bind (range (b + 1) (blocks w)) in_block)

    -- nothing is common in block b
    pub crossing_on : keep common (in_block b) ≡ [] → crossing_from b ≡ crossing_from (b + 1)
    crossing_on e = ap first_of (step ∙ ap (λ (ps : List Place). ps ++ keep common (bind (range (b + 1) (blocks w)) in_block)) e)

    pub crossing_found : {n : ℕ} → Some n ≡ first_passing (λ o. common (place_of b o)) (ops w b) → 1 ∷ (b + 1) ∷ (n + 1) ∷ [] ≡ crossing_from b
    crossing_found {n} e =
        let k : b + 1 ≡ suc b = omega arith in
        let m : n + 1 ≡ suc n = omega arith in
        rw (k, m) (sym (ap first_of step ∙ first_passes common b (ops w b) (keep common (bind (range (b + 1) (blocks w)) in_block)) n e))

    -- nothing is common in a block that was not visited
    pub unvisited_apart : marked w a ≡ false → is_visited w b ≡ false → keep common (in_block b) ≡ []
    unvisited_apart u e = no_members (keep common (in_block b)) (λ p m. nothing p (keep_out common (in_block b) m))
      where
        nothing : (p : Place) → Memᴰ p (in_block b) × (common p ≡ true) → ⊥
        nothing p x =
            let q = Memᴰ.of_map (place_of b) (ops w b) x.0 in
            let t : lies p.block p.op (merged w a) ≡ true = and_true_left (lies p.block p.op (merged w a)) (lies p.block p.op (merged w c)) x.1 in
            let y = merged_out w a u (covered_lies p.block p.op (merged w a) t) in
            let i : p.block ≡ b = ap (λ (r : Place). r.block) (sym q.2) in
            none (is_visited w b) (rw i at ((blocks_seen w p.block).0 (local_out w y.0 y.2).0)) e
