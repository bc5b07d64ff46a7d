-- `RoundsLine` shows its text.
use Rattle.std.proofs.Common.{rules, ◌<◌, ◌^◌}
use Rattle.report_lines.proofs.Decimals.{decimal_is}
use Rattle.report_lines.proofs.lines.RoundsLineDisplay.fmt.Goals as goal

pub returns-clause-writes : goal.returns-clause-writes
returns-clause-writes g c = λ plain ok.
    let small : c.args.self.now.0 < 2 ^ 32 = search rules in
    rw (decimal_is c.args.self.now.0 small) at (c.write.ensures.writes plain ok)
