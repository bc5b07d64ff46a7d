-- `each_op_fields_ok` meets its contract.
use native.Mathlib.Omega.{arith}
use borrow.Author.Tests.{tests}
use Rattle.std.proofs.Common.{rules}
use Rattle.plank_core.specs.laws.Ranges.{all_range}
use Rattle.sir_data.specs.Records.{operations}
use Rattle.sir_data.specs.Rules.{op_fields_ok}
use Rattle.sir_data.proofs.operation_rules.each_op_fields_ok.Goals as goal

pub returns : goal.returns
returns c =
    let w = c.args.records.words.now in
    all_range (op_fields_ok w) 0 c.operation_count.result (operations w) (omega (arith, c.operation_count.ensures)) c.all.result c.all.ensures.ran (λ x t q k. search (rules, tests))
