-- `all_uses_answer` meets its contract.
use mathlib.Core.Path.{◌∙◌}
use Prim.Native.Nat.{◌≤◌}
use native.Mathlib.Omega.{arith}
use Rattle.sir_answers.proofs.scatter.AllAnswers.{zero_long, zero_prefix}
use Rattle.sir_answers.proofs.all_uses.all_uses_answer.Goals as goal

pub fill_uses-requires : goal.fill_uses-requires
fill_uses-requires c =
    let n = c.local_count-n.result in
    let h : n ≤ 512 = omega (arith, c.args.visited.visit_stage.well_formed.sized.locals_most) in
    record { cursors_len = (zero_long n 512 h ∙ c.local_count-n.ensures, λ v. zero_prefix n 512 v) }
