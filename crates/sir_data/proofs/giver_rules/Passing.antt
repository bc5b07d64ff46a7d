-- One pass over some locals with a set of those passed: what holds between two steps, and what a step does to it.
use Rattle.std.proofs.Common.{◌≡◌, ℕ, ◌+◌, ◌<◌, ◌≤◌, true, false, ◌&&◌, List, ◌++◌, length, sym, ◌∙◌, arith}
use Rattle.plank_core.specs.Lists.{range, upto, bind, ◌∈◌}
use Rattle.plank_core.specs.laws.Lists.{mem_range, bind_out}
use Rattle.plank_core.specs.laws.Loops.{range_next}
use Rattle.plank_core.specs.inner.DenseIndexSet.{added, added_all, fresh}
use Rattle.plank_core.specs.laws.Folds.{foldl_append}
use Rattle.plank_core.specs.laws.Distinct.{fresh_append, length_added_all}

-- the set was `before` when all of `xs` was to be passed, and is `now` where `left` is left: that decides, and goes into the set
pub record Passing (before xs now left : List ℕ) : Type 0 where
  pub wide : length now ≡ 8
  pub new : fresh now left ≡ fresh before xs
  pub adds : added_all now left ≡ added_all before xs

abbrev pub Locals : List ℕ → Type 0
Locals xs = (v : ℕ) → v ∈ xs → v < 512

module _ {before xs now : List ℕ} (ys left : List ℕ) (fit : Locals (ys ++ left)) (p : Passing before xs now (ys ++ left)) where
  -- those to come now, and then those left
  parted : fresh now (ys ++ left) ≡ (fresh now ys && fresh (added_all now ys) left)
  parted = fresh_append now ys left (λ v m. omega (arith, fit v m, p.wide))

  -- they are new, and go into the set
  pub step : {next : List ℕ} → fresh now ys ≡ true → next ≡ added_all now ys → Passing before xs next left
  step e more =
      record {
        wide = rw more (length_added_all now ys ∙ p.wide);
        new = rw more (sym (parted ∙ rw e)) ∙ p.new;
        adds = rw more (sym (foldl_append added now ys left)) ∙ p.adds;
      }

  -- one of them is not
  pub stop : fresh now ys ≡ false → false ≡ fresh before xs
  stop e = sym (parted ∙ rw e) ∙ p.new

-- ---- the runs that f has for 0, .., n - 1: those from i on are left

module _ (before : List ℕ) (f : ℕ → List ℕ) (n : ℕ) where
  abbrev pub PassingRuns : List ℕ → ℕ → Type 0
  PassingRuns now i = (i ≤ n) × Passing before (bind (upto n) f) now (bind (range i n) f)

  module _ {now : List ℕ} {i : ℕ} (small : (j : ℕ) → j < n → Locals (f j)) (h : i < n) (p : PassingRuns now i) where
    abbrev rest : List ℕ
    rest = bind (range (i + 1) n) f

    fit : Locals (f i ++ rest)
    fit v m = let at = bind_out {y = v} f (range i n) (rw (range_next i n h) m) in small at.0 (omega (arith, mem_range at.0 i n at.1)) v at.2

    pub step_run : {next : List ℕ} → fresh now (f i) ≡ true → next ≡ added_all now (f i) → PassingRuns next (i + 1)
    step_run e more = (omega arith, step (f i) rest fit (rw (range_next i n h) at p.1) e more)

    pub stop_run : fresh now (f i) ≡ false → false ≡ fresh before (bind (upto n) f)
    stop_run e = stop (f i) rest fit (rw (range_next i n h) at p.1) e
