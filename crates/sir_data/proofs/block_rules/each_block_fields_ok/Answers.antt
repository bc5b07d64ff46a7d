-- `each_block_fields_ok` meets its contract.
use native.Mathlib.Omega.{arith}
use borrow.Author.Tests.{tests}
use Rattle.std.proofs.Common.{rules}
use Rattle.plank_core.specs.laws.Ranges.{all_range}
use Rattle.sir_data.specs.Records.{blocks}
use Rattle.sir_data.specs.Rules.{block_fields_ok}
use Rattle.sir_data.proofs.block_rules.each_block_fields_ok.Goals as goal

pub returns : goal.returns
returns c =
    let w = c.args.records.words.now in
    all_range (block_fields_ok w) 0 c.block_count.result (blocks w) (omega (arith, c.block_count.ensures)) c.all.result c.all.ensures.ran (λ x t q k. search (rules, tests))
