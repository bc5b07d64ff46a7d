-- `all_intervals_answer` meets its contract.
use mathlib.Core.Path.{◌∙◌}
use Prim.Native.Nat.{◌≤◌}
use native.Mathlib.Omega.{arith}
use Rattle.sir_answers.proofs.scatter.AllAnswers.{zero_long, zero_prefix}
use Rattle.sir_answers.proofs.all_intervals.all_intervals_answer.Goals as goal

pub fill_intervals-requires : goal.fill_intervals-requires
fill_intervals-requires c =
    let n = c.local_count-n in
    let h : n.result ≤ 512 = omega (arith, n.ensures, c.args.analysed.visit_stage.well_formed.sized.locals_most) in
    record { cursors_len = (zero_long n.result 512 h ∙ n.ensures, λ v. zero_prefix n.result 512 v) }
