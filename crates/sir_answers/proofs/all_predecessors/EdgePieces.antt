-- The pieces of the pass over edges: those for a block are its predecessors.
use mathlib.Core.Path.{◌≡◌, ◌∙◌}
use mathlib.Core.List.{List, [], ◌∷◌, map}
use Prim.Native.Nat.{ℕ}
use native.Mathlib.Omega.{arith}
use lib.Dec.{eqb}
use Rattle.plank_core.specs.Lists.{keep, upto}
use Rattle.plank_core.specs.laws.Lists.{keep_out, mem_upto}
use Rattle.plank_core.specs.laws.Loops.{bind_same}
use Rattle.plank_core.specs.laws.Folds.{bind_one}
use Rattle.sir_data.specs.Records.{blocks, successors}
use Rattle.sir_data.specs.inner.WellFormed.{WellFormed}
use Rattle.sir_analyses.specs.Order.{is_visited, edges_from, predecessors}
use Rattle.sir_answers.specs.inner.Scatter.{pieces_of, Below}
use Rattle.sir_analyses.proofs.predecessors.Edges.{predecessors_most}
use Rattle.sir_answers.proofs.scatter.AllAnswers.{Small}
use Rattle.sir_answers.specs.inner.Pieces.{pieces_at, edge_pieces, predecessor_pieces}
use Rattle.sir_answers.proofs.scatter.PieceLaws.{below_at, below_bind, pieces_same, pieces_bind}

edges_of : (p b : ℕ) (ss : List ℕ) (k : ℕ) → pieces_of b (pieces_at (λ k. p ∷ []) ss k) ≡ map (λ s. p) (keep (λ s. eqb s b) ss)
edges_of p b ss k = pieces_same b (p ∷ []) ss k ∙ bind_one (λ s. p) (keep (λ s. eqb s b) ss)

module _ (w : List ℕ) where
  pub predecessor_pieces_lem : (b : ℕ) → pieces_of b (predecessor_pieces w) ≡ predecessors w b
  predecessor_pieces_lem b =
      pieces_bind b (edge_pieces w) (keep (is_visited w) (upto (blocks w)))
      ∙ bind_same (λ p. pieces_of b (edge_pieces w p)) (λ p. edges_from w p b) (keep (is_visited w) (upto (blocks w))) (λ p. edges_of p b (successors w p) 0)

  pub predecessors_small : WellFormed w → Small (blocks w) (predecessors w)
  predecessors_small good = record { ids = omega (arith, good.sized.blocks_most); words = λ b l. omega (arith, predecessors_most w good b) }

  -- every piece is for a block
  pub predecessors_below : WellFormed w → Below (blocks w) (predecessor_pieces w)
  predecessors_below good =
      below_bind (blocks w) (edge_pieces w) (keep (is_visited w) (upto (blocks w)))
      (λ p m. below_at (blocks w) (λ k. p ∷ []) (successors w p) 0 (λ s n. good.in_range.successor p s (mem_upto p (blocks w) (keep_out (is_visited w) (upto (blocks w)) m).0) n))
