-- How long the order is, and that its blocks are the image's.
use mathlib.Core.Path.{◌≡◌, refl, subst}
use mathlib.Core.List.{List, [], ◌∷◌}
use Prim.Native.Nat.{ℕ, ◌+◌, ◌*◌, ◌≤◌, ◌<◌}
use native.Mathlib.Omega.{arith}
use lib.ListN.{length, length-append}
use Rattle.plank_core.specs.Lists.{bind, ◌∈◌}
use Rattle.plank_core.specs.laws.Loops.{once_most}
use Rattle.plank_core.specs.laws.Lists.{one_if_most}
use Rattle.sir_data.specs.Records.{functions, blocks}
use Rattle.sir_data.specs.inner.WellFormed.{WellFormed}
use Rattle.sir_analyses.specs.Order.{visited, functions_rpo, function_blocks, blocks_rpo, is_visited}
use Rattle.sir_analyses.specs.Claims.{function}
use Rattle.sir_analyses.proofs.claims.order.OrderLaws.{seen}
use Rattle.sir_analyses.proofs.claims.order.OrderProof.{blocks_times, functions_times, blocks_below, functions_below}
use Rattle.sir_analyses.specs.Answers.{order_answer}

-- ---- how long the order is

module _ (w : List ℕ) (good : WellFormed w) where
  pub blocks_most : length (blocks_rpo w) ≤ blocks w
  blocks_most = once_most (blocks_rpo w) (blocks w) (λ b. omega (arith, blocks_times w b, one_if_most (is_visited w b))) (blocks_below w good)

  pub functions_most : length (functions_rpo w) ≤ functions w
  functions_most = once_most (functions_rpo w) (functions w) (λ f. omega (arith, functions_times w f, one_if_most (seen w (visited w) (function f)))) (functions_below w good)

  pub order_most : length (order_answer w) ≤ 2 * functions w + blocks w
  order_most = omega (arith, headed (functions_rpo w), functions_most, blocks_most)
    where
      headed : (fs : List ℕ) → length (bind fs (λ f. f ∷ length (function_blocks w f) ∷ function_blocks w f)) ≡ 2 * length fs + length (bind fs (function_blocks w))
      headed [] = refl
      headed (f ∷ fs) =
          let a = length-append (function_blocks w f) (bind fs (λ f. f ∷ length (function_blocks w f) ∷ function_blocks w f)) in
          let b = length-append (function_blocks w f) (bind fs (function_blocks w)) in
          omega (arith, headed fs)

  -- of an array that holds the order's sequence
  pub rpo_below : {rpo : List ℕ} → rpo ≡ blocks_rpo w → (b : ℕ) → b ∈ rpo → b < blocks w
  rpo_below e b m = blocks_below w good b (subst (λ (l : List ℕ). b ∈ l) e m)
