-- `zero_from` meets its contract.
use borrow.Author.Tests.{tests}
use Rattle.std.proofs.Common.{rules, refl, eqb}
use Rattle.plank_core.specs.laws.Ranges.{all_range}
use Rattle.sir_data.specs.Records.{field}
use Rattle.sir_data.proofs.block_rules.zero_from.Goals as goal

pub returns : goal.returns
returns c = all_range (λ j. eqb (field c.args.records.words.now c.args.b.0 j) 0) c.args.k 4 _ refl c.all.result c.all.ensures.ran (λ x t q k. search (rules, tests))
