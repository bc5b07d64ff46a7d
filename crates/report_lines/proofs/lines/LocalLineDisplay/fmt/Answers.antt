-- `LocalLine` shows its text.
use Rattle.std.proofs.Common.{rules, append_assoc, ◌<◌, ◌^◌}
use Rattle.std.proofs.lemmas.Grind.{put_three}
use Rattle.report_lines.proofs.Decimals.{decimal_is}
use Rattle.report_lines.proofs.lines.LocalLineDisplay.fmt.Goals as goal

pub returns-clause-writes : goal.returns-clause-writes
returns-clause-writes g c = λ plain ok.
    let small : c.args.self.now.local.0 < 2 ^ 32 = search rules in
    let name = rw (decimal_is c.args.self.now.local.0 small) at (c.in_ok-write.ensures.writes plain (search rules)) in
    let intervals = c.in_ok-write_intervals.ensures name.plain (search rules) in
    let end = c.write-2.ensures.writes intervals.plain ok in
    put_three _ _ _ _ _ _ _ _ _ name intervals end (simp append_assoc)
