-- `Interval` shows its text.
use Rattle.std.proofs.Common.{rules, append_assoc, ◌<◌, ◌^◌}
use Rattle.report_lines.proofs.Decimals.{decimal_is}
use Rattle.report_lines.proofs.text.IntervalDisplay.fmt.Goals as goal

pub returns-clause-writes : goal.returns-clause-writes
returns-clause-writes g c = λ plain ok.
    let small : c.args.self.now.block < 2 ^ 32 = search rules in
    let wrote = rw (decimal_is c.args.self.now.block small) at (c.write.ensures.writes plain ok) in
    simp append_assoc wrote
