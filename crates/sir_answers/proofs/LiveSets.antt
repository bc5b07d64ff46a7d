-- The live sets of a block in words, as its operations are passed backwards.
use mathlib.Core.Path.{◌≡◌, refl, sym, ap, ap₂, ◌∙◌}
use mathlib.Core.Logic.{◌⊎◌, inl, inr}
use mathlib.Core.Bool.{Bool, true, false, not, ◌&&◌, ◌||◌}
use mathlib.Core.List.Memᴰ
use mathlib.Core.List.{List, [], ◌∷◌}
use Prim.Native.Nat.{ℕ, suc, ◌+◌, ◌*◌, ◌<◌}
use native.Mathlib.Numerals.{add-one}
use native.Mathlib.Omega.{arith}
use lib.ListN.{length}
use Rattle.plank_core.specs.Lists.{range, mem, ◌∈◌}
use Rattle.plank_core.specs.laws.Lists.{or_cases, and_true_left, mem_range, mem_in}
use Rattle.plank_core.specs.laws.Loops.{range_next}
use Rattle.plank_core.specs.inner.DenseIndexSet.{contains}
use Rattle.sir_data.specs.Records.{blocks, operations, locals, block_word, ops, ins, outs, condition, returned}
use Rattle.sir_data.specs.inner.WellFormed.{WellFormed}
use Rattle.sir_analyses.specs.Order.{blocks_rpo}
use Rattle.sir_analyses.specs.Liveness.{Set, has, remove_all, end_reads, exit_set}
use Rattle.sir_analyses.specs.inner.Stages.{LivenessStage, reads_in, writes_in, ends_in, exits_in}
use Rattle.sir_analyses.proofs.SetLaws.{has_less, has_add_all, has_remove_all, length_remove_all}
use Rattle.sir_analyses.proofs.Accepted.{returned_below}
use Rattle.sir_analyses.proofs.claims.liveness.GenKill.{length_through}
use Rattle.sir_analyses.proofs.claims.liveness.LivenessProof.{exit_size}
use Rattle.sir_analyses.proofs.claims.lifetimes.Scans.{live_in}
use Rattle.sir_analyses.proofs.merged_intervals.MergedIntervals.{lives_none, lives_more}
use Rattle.sir_answers.specs.inner.LiveAround.{is_around, LiveAround}

-- a set of words has the locals that are live before the operations os, which are the last of block b
pub record LiveBefore (w : List ℕ) (b : ℕ) (os set : List ℕ) : Type 0 where
  pub long : length set ≡ 8
  pub known : (v : ℕ) → v < 512 → contains set v ≡ true → v < locals w
  pub lives : (v : ℕ) → v < locals w → contains set v ≡ has (live_in w b os) v

-- a scan is to start after the operations of block b, which is visited
pub record ScanStart (w : List ℕ) (first end : ℕ) (set : List ℕ) (b : ℕ) : Type 0 where
  pub below : b < blocks w
  pub visited : b ∈ blocks_rpo w
  pub start_is : first ≡ block_word w b 4
  pub end_is : end ≡ block_word w b 5
  pub live : LiveBefore w b [] set

-- live before or after: what is read is added to what is live after
either : (x y z : Bool) → (((x && not y) || z) || x) ≡ (x || z)
either true true true = refl
either true true false = refl
either true false z = refl
either false y true = refl
either false y false = refl

-- what was added is removed and added again
again : (x y z : Bool) → (((x || z) && not y) || z) ≡ ((x && not y) || z)
again true y z = refl
again false true true = refl
again false false true = refl
again false y false = refl

module _ {w live : List ℕ} (stage : LivenessStage w live) {b : ℕ} (l : b < blocks w) where
  good : WellFormed w
  good = stage.well_formed

  -- after the operations
  pub live_none : {set : List ℕ} → length set ≡ 8 → ((v : ℕ) → v < 512 → contains set v ≡ (contains (exits_in live) (512 * b + v) || contains (ends_in live) (512 * b + v))) → LiveBefore w b [] set
  live_none {set} long f = record {
    long = long;
    known = λ v h t. known v h (or_cases (contains (exits_in live) (512 * b + v)) (contains (ends_in live) (512 * b + v)) (sym (f v h) ∙ t));
    lives = lives_none good b l (exits_in live) (ends_in live) set stage.sets.exit_rows stage.ends f;
  }
    where
      known : (v : ℕ) → v < 512 → (contains (exits_in live) (512 * b + v) ≡ true) ⊎ (contains (ends_in live) (512 * b + v) ≡ true) → v < locals w
      known v h (inl t) = omega (arith, has_less (exit_set w b) v (sym (stage.sets.exit_rows b v l h) ∙ t), exit_size w good b l)
      known v h (inr t) = end_known v (Memᴰ.append_cases (condition w b) (mem_in v (end_reads w b) (sym (stage.ends.ended b v l h) ∙ t)))
        where
          end_known : (v : ℕ) → (v ∈ condition w b) ⊎ (v ∈ returned w b) → v < locals w
          end_known v (inl m) = good.in_range.tested b v l m
          end_known v (inr m) = returned_below w good b v l m

  module _ {os set : List ℕ} (k : LiveBefore w b os set) {o : ℕ} (m : o < operations w) where
    read_known : (v : ℕ) → v < 512 → contains (reads_in live) (512 * o + v) ≡ true → v < locals w
    read_known v h t = good.in_range.read o v m (mem_in v (ins w o) (sym (stage.operands.read o v m h) ∙ t))

    -- before one operation more
    pub live_more : {set' : List ℕ} → ((v : ℕ) → v < 512 → contains set' v ≡ ((contains set v && not (contains (writes_in live) (512 * o + v))) || contains (reads_in live) (512 * o + v))) → length set' ≡ 8 → LiveBefore w b (o ∷ os) set'
    live_more {set'} f long = record { long = long; known = λ v h t. more v h (or_cases (contains set v && not (contains (writes_in live) (512 * o + v))) (contains (reads_in live) (512 * o + v)) (sym (f v h) ∙ t)); lives = lives_more good b l os set k.lives (reads_in live) (writes_in live) o stage.operands m set' f }
      where
        more : (v : ℕ) → v < 512 → ((contains set v && not (contains (writes_in live) (512 * o + v))) ≡ true) ⊎ (contains (reads_in live) (512 * o + v) ≡ true) → v < locals w
        more v h (inl t) = k.known v h (and_true_left (contains set v) (not (contains (writes_in live) (512 * o + v))) t)
        more v h (inr t) = read_known v h t

    module _ (set' : List ℕ) (f : (v : ℕ) → v < 512 → contains set' v ≡ (contains set v || contains (reads_in live) (512 * o + v))) where
      -- around that operation
      pub around_here : o ∈ ops w b → os ≡ range (o + 1) (block_word w b 5) → length set' ≡ 8 → LiveAround w b o set'
      unfolding is_around
      around_here h e long = record { long = long; known = λ v q t. known v q (or_cases (contains set v) (contains (reads_in live) (512 * o + v)) (sym (f v q) ∙ t)); around_is = each }
        where
          known : (v : ℕ) → v < 512 → (contains set v ≡ true) ⊎ (contains (reads_in live) (512 * o + v) ≡ true) → v < locals w
          known v q (inl t) = k.known v q t
          known v q (inr t) = read_known v q t

          s : Set
          s = live_in w b os

          ahead : range o (block_word w b 5) ≡ o ∷ os
          ahead = range_next o (block_word w b 5) (mem_range o (block_word w b 4) (block_word w b 5) h).1 ∙ ap (λ (ps : List ℕ). o ∷ ps) (sym e)

          after : range (suc o) (block_word w b 5) ≡ os
          after = ap (λ (n : ℕ). range n (block_word w b 5)) (sym (add-one o)) ∙ sym e

          each : (v : ℕ) → v < locals w → contains set' v ≡ is_around w b o v
          each v q =
              let i : v < 512 = omega (arith, good.sized.locals_most) in
              let a : v < length s = omega (arith, length_through w (end_reads w b) os (exit_set w b), exit_size w good b l) in
              let d : v < length (remove_all s (outs w o)) = omega (arith, length_remove_all s (outs w o)) in
              f v i ∙ ap₂ (λ (x z : Bool). x || z) (k.lives v q) (stage.operands.read o v m i)
              ∙ sym (either (has s v) (mem v (outs w o)) (mem v (ins w o)))
              ∙ sym (ap₂ (λ (ps qs : List ℕ). has (live_in w b ps) v || has (live_in w b qs) v) ahead after
              ∙ ap (λ (x : Bool). x || has s v) (has_add_all (remove_all s (outs w o)) (ins w o) v d ∙ ap (λ (x : Bool). x || mem v (ins w o)) (has_remove_all s (outs w o) v a)))

      -- and before it, once it is passed
      pub live_passed : {set'' : List ℕ} → ((v : ℕ) → v < 512 → contains set'' v ≡ ((contains set' v && not (contains (writes_in live) (512 * o + v))) || contains (reads_in live) (512 * o + v))) → length set'' ≡ 8 → LiveBefore w b (o ∷ os) set''
      live_passed {set''} g long = live_more each long
        where
          each : (v : ℕ) → v < 512 → contains set'' v ≡ ((contains set v && not (contains (writes_in live) (512 * o + v))) || contains (reads_in live) (512 * o + v))
          each v h =
              let y : Bool = contains (writes_in live) (512 * o + v) in
              let z : Bool = contains (reads_in live) (512 * o + v) in
              g v h ∙ ap (λ (x : Bool). (x && not y) || z) (f v h) ∙ again (contains set v) y z
