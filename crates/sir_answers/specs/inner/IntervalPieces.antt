-- The pieces of the pass that finds the intervals of all locals: in each block of the order, from the last operation to the first, what
-- the operation closes, by id; then what is open at the block's start.
use Rattle.std.specs.Prelude.{◌≡◌, ◌||◌, List, [], ◌∷◌, ◌++◌, map, reverse, ℕ, ◌+◌, ◌<◌, length, get_or}
use Rattle.plank_core.specs.Lists.{bind, mem, upto, range}
use Rattle.sir_data.specs.Records.{block_word, ops, ins, outs}
use Rattle.sir_analyses.specs.Order.{blocks_rpo}
use Rattle.sir_analyses.specs.Liveness.{has, exit_set, end_reads, end_open, closing, Interval}
use Rattle.sir_analyses.specs.inner.Scanning.{open_before, closed_by}
use Rattle.sir_answers.specs.inner.Scatter.{Pieces}

-- intervals of one id
abbrev pub interval_pieces : ℕ → List Interval → Pieces
interval_pieces v is = map (λ i. (v, i.block ∷ i.from ∷ i.to ∷ [])) is

-- what a start closes for each of some ids, by the end that is open for it (0: none)
abbrev pub closed_pieces : ℕ → ℕ → (ℕ → ℕ) → List ℕ → Pieces
closed_pieces b from ends vs = bind vs (λ v. interval_pieces v (closing b from (ends v)))

-- the end that is open for v before the operations os, which are the last of block b
unfoldable pub open_end : List ℕ → ℕ → ℕ → List ℕ → ℕ
open_end w b v [] = end_open (has (exit_set w b) v || mem v (end_reads w b))
open_end w b v (o ∷ os) = open_before (mem v (outs w o)) (mem v (ins w o)) (o + 1) (open_end w b v os)

-- an array has the end that is open for each local
pub record OpenEnds (w : List ℕ) (b : ℕ) (os till : List ℕ) : Type 0 where
  pub long : length till ≡ 512
  pub end_is : (v : ℕ) → v < 512 → get_or till v 0 ≡ open_end w b v os

-- what operation o of block b closes
unfoldable pub operation_pieces : List ℕ → ℕ → ℕ → Pieces
operation_pieces w b o = closed_pieces b (o + 1) (λ v. closed_by (mem v (outs w o)) (open_end w b v (range (o + 1) (block_word w b 5)))) (upto 512)

-- what the operations of block b close, from the last to the first
abbrev pub operations_pieces : List ℕ → ℕ → Pieces
operations_pieces w b = bind (reverse (ops w b)) (operation_pieces w b)

-- what is open at the start of block b
unfoldable pub start_pieces : List ℕ → ℕ → Pieces
start_pieces w b = closed_pieces b 0 (λ v. open_end w b v (ops w b)) (upto 512)

-- all that is closed in block b
abbrev pub block_pieces : List ℕ → ℕ → Pieces
block_pieces w b = operations_pieces w b ++ start_pieces w b

-- all that is closed in the blocks of the order
abbrev pub local_pieces : List ℕ → Pieces
local_pieces w = bind (blocks_rpo w) (block_pieces w)
