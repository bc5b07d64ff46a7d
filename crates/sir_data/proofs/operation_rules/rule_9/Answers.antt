-- `rule_9` meets its contract.
use native.Mathlib.Omega.{arith}
use borrow.Author.Tests.{tests}
use Rattle.std.proofs.Common.{rules, ap, not, length}
use Rattle.plank_core.specs.laws.Ranges.{all_range}
use Rattle.sir_data.specs.Records.{operations, code, ins, outs}
use Rattle.sir_data.specs.Codes.{arity_ok}
use Rattle.sir_data.specs.Rules.{rule9}
use Rattle.sir_data.proofs.operation_rules.rule_9.Goals as goal

pub returns : goal.returns
unfolding rule9
returns c =
    let w = c.args.ranged.records.words.now in
    ap not (all_range (λ o. arity_ok (code w o) (length (ins w o)) (length (outs w o))) 0 c.operation_count.result (operations w) (omega (arith, c.operation_count.ensures)) c.all.result c.all.ensures.ran (λ x t q k. search (rules, tests)))
