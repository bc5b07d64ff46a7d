-- `number_bad` meets its contract.
use native.Mathlib.Omega.{arith}
use borrow.Author.Tests.{tests}
use Rattle.std.proofs.Common.{rules, ◌/◌, not, eqb, length}
use Rattle.plank_core.specs.laws.Ranges.{any_range}
use Rattle.sir_data.specs.Pages.{page_word, pages}
use Rattle.sir_data.proofs.pages.number_bad.Goals as goal

pub returns : goal.returns
returns c =
    let s = c.args.image.now in
    any_range (λ p. not (eqb (page_word s p 0) p)) 0 (length s / 512) (pages s) (omega arith) c.any.result c.any.ensures.ran (λ x t q k. search (rules, tests))
