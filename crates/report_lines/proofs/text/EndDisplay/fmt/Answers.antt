-- `End` shows its text.
use Rattle.std.proofs.Common.{rules, ◌<◌, ◌-◌, ◌^◌, ◌≡◌}
use borrow.Author.Tests.{ne_eqb}
use Rattle.report_lines.proofs.Decimals.{decimal_is}
use Rattle.report_lines.proofs.text.EndDisplay.fmt.Goals as goal

pub returns-clause-writes : goal.returns-clause-writes
returns-clause-writes g c = λ plain ok.
    let small : c.args.self.now.0 - 1 < 2 ^ 32 = search rules in
    let less : c.saturating_sub-operation.result ≡ c.args.self.now.0 - 1 = search rules in
    rw (ne_eqb _ _ c.if-self.false) (rw (less, decimal_is (c.args.self.now.0 - 1) small) at (c.write-2.ensures.writes plain ok))
