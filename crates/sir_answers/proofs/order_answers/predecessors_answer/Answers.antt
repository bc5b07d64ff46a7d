-- `predecessors_answer` meets its contract.
use native.Mathlib.Omega.{arith}
use Rattle.std.proofs.Common.{rules}
use Rattle.sir_analyses.specs.Order.{predecessors}
use Rattle.sir_analyses.specs.inner.Writing.{Puts}
use Rattle.sir_analyses.proofs.predecessors.Edges.{predecessors_most}
use Rattle.sir_answers.proofs.order_answers.predecessors_answer.Goals as goal

pub counted_answer-requires-clause-few : goal.counted_answer-requires-clause-few
counted_answer-requires-clause-few c =
    λ s n t p.
    let w = c.args.visited.image.words.now in
    let b = c.args.b.0 in
    let put : Puts 0 (predecessors w b) s.now t.now n = search rules in
    omega (arith, put.next, predecessors_most w c.args.visited.visit_stage.well_formed b)
