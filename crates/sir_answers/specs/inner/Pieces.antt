-- The pieces of the passes that answer a question for all ids.
use Rattle.std.specs.Prelude.{◌≡◌, ℕ, suc, ◌*◌, ◌<◌, List, [], ◌∷◌, ◌++◌, length, get_or, replicate}
use Rattle.plank_core.specs.Lists.{bind, keep, upto, ◌∈◌}
use Rattle.sir_data.specs.Records.{blocks, operations, successors, ops, ins, condition, outputs}
use Rattle.sir_analyses.specs.Order.{is_visited, blocks_rpo}
use Rattle.sir_answers.specs.inner.Scatter.{Pieces, pieces_of}

-- for each of some ids the words that g gives of its place, counted from k
abbrev pub pieces_at : (ℕ → List ℕ) → List ℕ → ℕ → Pieces
pieces_at g [] k = []
pieces_at g (v ∷ vs) k = (v, g k) ∷ pieces_at g vs (suc k)

-- n words that are only counted
abbrev pub blanks : ℕ → List ℕ
blanks n = replicate n 0

-- ids below n
abbrev pub Known : ℕ → List ℕ → Type 0
Known n vs = (v : ℕ) → v ∈ vs → v < n

-- ---- predecessors

-- block p, for each of its successors in turn
abbrev pub edge_pieces : List ℕ → ℕ → Pieces
edge_pieces w p = pieces_at (λ k. p ∷ []) (successors w p) 0

-- each visited block by id, for each of its successors
abbrev pub predecessor_pieces : List ℕ → Pieces
predecessor_pieces w = bind (keep (is_visited w) (upto (blocks w))) (edge_pieces w)

-- ---- uses

-- block b, kind 0 and each of its operations in turn, for each input
abbrev pub input_use_pieces : List ℕ → ℕ → Pieces
input_use_pieces w b = bind (ops w b) (λ o. pieces_at (λ k. b ∷ 0 ∷ o ∷ []) (ins w o) 0)

-- block b and kind 1, for its condition
abbrev pub condition_pieces : List ℕ → ℕ → Pieces
condition_pieces w b = pieces_at (λ k. b ∷ 1 ∷ 0 ∷ []) (condition w b) 0

-- block b, kind 2 and the place, for each output
abbrev pub output_pieces : List ℕ → ℕ → Pieces
output_pieces w b = pieces_at (λ k. b ∷ 2 ∷ k ∷ []) (outputs w b) 0

-- block b after its operations
abbrev pub end_pieces : List ℕ → ℕ → Pieces
end_pieces w b = condition_pieces w b ++ output_pieces w b

-- block b
abbrev pub block_use_pieces : List ℕ → ℕ → Pieces
block_use_pieces w b = input_use_pieces w b ++ end_pieces w b

-- all blocks in the sequence of the order
abbrev pub use_pieces : List ℕ → Pieces
use_pieces w = bind (blocks_rpo w) (block_use_pieces w)

-- ---- uses, counted: operations may lie in many blocks, so the inputs of each are counted once, by how often it lies in a block

-- one word for each operation of block b
abbrev pub one_pieces : List ℕ → ℕ → Pieces
one_pieces w b = bind (ops w b) (λ o. (o, blanks 1) ∷ [])

-- an array has for each operation how often it lies in a block of the order
pub record OperationTimes (w often : List ℕ) : Type 0 where
  pub wide : length often ≡ 1024
  pub times_is : (o : ℕ) → o < operations w → get_or often o 0 ≡ length (pieces_of o (bind (blocks_rpo w) (one_pieces w)))

-- for each input of each operation the words of so many uses as an array has for the operation
abbrev pub input_pieces : List ℕ → List ℕ → Pieces
input_pieces w often = bind (upto (operations w)) (λ o. pieces_at (λ k. blanks (3 * get_or often o 0)) (ins w o) 0)
