-- `rule_11` meets its contract.
use native.Mathlib.Omega.{arith}
use borrow.Author.Tests.{tests}
use Rattle.std.proofs.Common.{rules, ap, not}
use Rattle.plank_core.specs.laws.Ranges.{all_range}
use Rattle.plank_core.specs.Lists.{distinct}
use Rattle.sir_data.specs.Records.{blocks, inputs}
use Rattle.sir_data.specs.Rules.{rule11}
use Rattle.sir_data.proofs.block_rules.rule_11.Goals as goal

pub returns : goal.returns
unfolding rule11
returns c =
    let w = c.args.ranged.records.words.now in
    ap not (all_range (λ b. distinct (inputs w b)) 0 c.block_count.result (blocks w) (omega (arith, c.block_count.ensures)) c.all.result c.all.ensures.ran (λ x t q k. search (rules, tests)))
