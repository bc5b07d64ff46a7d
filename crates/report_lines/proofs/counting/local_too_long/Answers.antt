-- `local_too_long` meets its contract.
use native.Mathlib.Omega.{arith}
use borrow.Author.Tests.{tests}
use Rattle.std.proofs.Common.{rules}
use Rattle.plank_core.specs.laws.Ranges.{any_range}
use Rattle.sir_data.specs.Records.{locals}
use Rattle.report_lines.specs.Counting.{local_too_long}
use Rattle.report_lines.proofs.TooLong.{long_local, long_is}
use Rattle.report_lines.proofs.counting.local_too_long.Goals as goal

pub returns : goal.returns
unfolding local_too_long
returns c =
    let w = c.args.analysed.image.words.now in
    any_range (long_local w) 0 c.local_count.result (locals w) (omega (arith, c.local_count.ensures)) c.any.result c.any.ensures.ran (λ x t q k. search (rules, tests, long_is))
