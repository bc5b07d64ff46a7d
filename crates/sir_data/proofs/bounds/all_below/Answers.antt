-- `all_below` meets its contract.
use borrow.Author.Tests.{tests}
use Rattle.std.proofs.Common.{◌≡◌, ◌+◌, ◌-◌, ap, ◌∙◌, arith, rules, ltb, take, drop}
use Rattle.std.proofs.lemmas.Iterator.{YieldsList-from_slice}
use Rattle.std.proofs.lemmas.Iterator.Search.{all_from_yields_List}
use Rattle.plank_core.specs.Lists.{all}
use Rattle.plank_core.specs.laws.Ranges.{all_part}
use Rattle.sir_data.proofs.bounds.all_below.Goals as goal

pub returns : goal.returns
returns c =
    let a = c.args in
    let n : a.start + a.count - a.start ≡ a.count = omega arith in
    all_from_yields_List (λ x. ltb x a.n) c.all.new.self _ c.all.result c.all.ensures.ran (YieldsList-from_slice _ c.iter.ensures.rest) (λ x t q k. search (rules, tests))
    ∙ ap (λ m. all (λ x. ltb x a.n) (take m (drop a.start a.words.now))) n
    ∙ all_part (λ x. ltb x a.n) a.words.now a.start a.count c.requires
