-- `scan_edges` meets its contract. The invariant: the pieces of the successors left are to be put.
use mathlib.Core.List.{◌∷◌, []}
use lib.ListN.{drop}
use Rattle.sir_data.specs.Records.{successors}
use Rattle.sir_answers.specs.inner.Scatter.{forward}
use Rattle.sir_answers.specs.inner.Pieces.{pieces_at, edge_pieces}
use Rattle.sir_answers.proofs.scatter.Scattering.{Scattering}
use Rattle.sir_answers.proofs.all_predecessors.scan_edges.Given as goal

abbrev pub invariant-loop-i : goal.invariant-loop-i
invariant-loop-i l = Scattering forward (edge_pieces l.p.image.words.now l.p.id.0) l.initial.cursors l.initial.out (pieces_at (λ k. l.p.id.0 ∷ []) (drop l.i (successors l.p.image.words.now l.p.id.0)) l.i) l.cursors l.out
