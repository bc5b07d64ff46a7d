-- `rule_10` meets its contract.
use native.Mathlib.Omega.{arith}
use borrow.Author.Tests.{tests}
use Rattle.std.proofs.Common.{rules, ℕ, Bool, ap, not, eqb, length}
use Rattle.plank_core.specs.laws.Ranges.{all_range}
use Rattle.plank_core.specs.Lists.{all}
use Rattle.sir_data.specs.Records.{blocks, inputs, outputs, successors}
use Rattle.sir_data.specs.Rules.{rule10}
use Rattle.sir_data.proofs.block_rules.rule_10.Goals as goal

pub returns : goal.returns
unfolding rule10
returns c =
    let w = c.args.ranged.records.words.now in
    let passed : ℕ → Bool = λ b. all (λ s. eqb (length (outputs w b)) (length (inputs w s))) (successors w b) in
    ap not (all_range passed 0 c.block_count.result (blocks w) (omega (arith, c.block_count.ensures)) c.all.result c.all.ensures.ran (λ x t q k. search (rules, tests)))
