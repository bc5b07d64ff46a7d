-- `all_predecessors_answer` meets its contract.
use mathlib.Core.Path.{◌∙◌}
use Prim.Native.Nat.{◌≤◌}
use native.Mathlib.Omega.{arith}
use Rattle.sir_answers.proofs.scatter.AllAnswers.{zero_long, zero_prefix}
use Rattle.sir_answers.proofs.all_predecessors.all_predecessors_answer.Goals as goal

pub fill_predecessors-requires : goal.fill_predecessors-requires
fill_predecessors-requires c =
    let n = c.block_count-n.result in
    let h : n ≤ 256 = omega (arith, c.args.visited.visit_stage.well_formed.sized.blocks_most) in
    record { cursors_len = (zero_long n 256 h ∙ c.block_count-n.ensures, λ v. zero_prefix n 256 v) }
