-- `count_predecessors` meets its contract.
use mathlib.Core.Path.{ap}
use lib.ListN.{length}
use native.Mathlib.Omega.{arith}
use Rattle.sir_answers.proofs.all_predecessors.EdgePieces.{predecessor_pieces_lem, predecessors_small}
use Rattle.sir_answers.proofs.scatter.AllAnswers.{zero_fits, counted_all}
use Rattle.sir_answers.proofs.all_predecessors.count_predecessors.Goals as goal

pub scan_predecessors-requires : goal.scan_predecessors-requires
scan_predecessors-requires c =
    let w = c.args.visited.image.words.now in
    record { cursors_len = (c.requires.cursors_len.0, zero_fits c.requires.cursors_len.0 c.requires.cursors_len.1 (λ v h. ap length (predecessor_pieces_lem w v)) (predecessors_small w c.args.visited.visit_stage.well_formed)) }

pub returns : goal.returns
returns c =
    counted_all c.requires.cursors_len.0 c.requires.cursors_len.1 (λ v h. ap length (predecessor_pieces_lem c.args.visited.image.words.now v)) (omega arith) c.scan_predecessors.ensures
