-- The words of a local's uses, part by part.
use Rattle.std.specs.Prelude.{◌≡◌, List, [], ◌∷◌, ◌++◌, ℕ, ◌<◌, length, get_or}
use Rattle.plank_core.specs.Lists.{bind, upto}
use Rattle.sir_data.specs.Records.{operations, ops, ins, condition, outputs}
use Rattle.sir_analyses.specs.Order.{blocks_rpo}
use Rattle.sir_analyses.specs.Liveness.{positions}

-- entry o of an array tells how often operation o reads the local
pub record InputCounts (w : List ℕ) (v : ℕ) (counts : List ℕ) : Type 0 where
  pub wide : length counts ≡ 1024
  pub count_is : (o : ℕ) → o < operations w → get_or counts o 0 ≡ length (positions v (ins w o) 0)

-- block b, kind 0, operation o, some times over
unfoldable pub repeated_uses : ℕ → ℕ → ℕ → List ℕ
repeated_uses b o n = bind (upto n) (λ k. b ∷ 0 ∷ o ∷ [])

-- the words of the uses by a block's operations
unfoldable pub operation_uses : List ℕ → List ℕ → ℕ → List ℕ
operation_uses w counts b = bind (ops w b) (λ o. repeated_uses b o (get_or counts o 0))

-- the words of the uses as a block's condition
abbrev pub condition_uses : List ℕ → ℕ → ℕ → List ℕ
condition_uses w v b = bind (positions v (condition w b) 0) (λ k. b ∷ 1 ∷ 0 ∷ [])

-- the words of the uses as a block's outputs
abbrev pub output_uses : List ℕ → ℕ → ℕ → List ℕ
output_uses w v b = bind (positions v (outputs w b) 0) (λ k. b ∷ 2 ∷ k ∷ [])

-- the words of the uses in a block
abbrev pub block_uses : List ℕ → List ℕ → ℕ → ℕ → List ℕ
block_uses w counts v b = operation_uses w counts b ++ condition_uses w v b ++ output_uses w v b

-- the words of all uses, by blocks in the sequence of the order
abbrev pub uses_of : List ℕ → List ℕ → ℕ → List ℕ
uses_of w counts v = bind (blocks_rpo w) (block_uses w counts v)
