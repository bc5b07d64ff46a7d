-- `counted_answer` meets its contract.
use Rattle.std.proofs.Common.{refl, rules}
use Rattle.sir_analyses.proofs.answers.Calls.{count_write, count_short}
use Rattle.sir_answers.proofs.counted.counted_answer.Goals as goal

pub returns-in_err-end : goal.returns-in_err-end
returns-in_err-end g c =
    λ xs p. count_short xs c.args.out.now (p _ _ _ c.put-n.ensures) c.in_err-end.ensures (search rules)

pub returns : goal.returns
returns g c =
    λ xs p. count_write xs c.args.out.now (p _ _ _ c.put-n.ensures) c.in_ok-end.ensures (p _ _ _ c.put.ensures) refl
