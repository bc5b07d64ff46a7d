-- `padding_bad` meets its contract.
use borrow.Author.Tests.{tests}
use Rattle.std.proofs.Common.{rules, not, eqb, ap, ◌∙◌}
use Rattle.std.proofs.lemmas.Iterator.{YieldsList-from_slice}
use Rattle.std.proofs.lemmas.Iterator.Search.{any_from_yields_List}
use Rattle.plank_core.specs.Lists.{any}
use Rattle.plank_core.specs.laws.Loops.{lent_end}
use Rattle.sir_data.proofs.rules.padding_bad.Goals as goal

pub returns : goal.returns
returns c =
    any_from_yields_List (λ x. not (eqb x 0)) c.any.new.self _ c.any.result c.any.ensures.ran (YieldsList-from_slice _ c.iter.ensures.rest) (λ x t q k. search (rules, tests))
    ∙ ap (λ l. any (λ x. not (eqb x 0)) l) (lent_end c.args.start c.args.words.now)
