-- `BlockLine` shows its text.
use Rattle.std.proofs.Common.{rules, append_assoc, ◌<◌, ◌^◌}
use Rattle.std.proofs.lemmas.Grind.{put_five}
use Rattle.report_lines.proofs.Decimals.{decimal_is}
use Rattle.report_lines.proofs.lines.BlockLineDisplay.fmt.Goals as goal

pub returns-clause-writes : goal.returns-clause-writes
returns-clause-writes g c = λ plain ok.
    let small : c.args.self.now.block.0 < 2 ^ 32 = search rules in
    let name = rw (decimal_is c.args.self.now.block.0 small) at (c.in_ok-write.ensures.writes plain (search rules)) in
    let entry = c.in_ok-write_members.ensures name.plain (search rules) in
    let out = c.in_ok-write-2.ensures.writes entry.plain (search rules) in
    let exit = c.in_ok-write_members-2.ensures out.plain (search rules) in
    let end = c.write-3.ensures.writes exit.plain ok in
    put_five _ _ _ _ _ _ _ _ _ _ _ _ _ name entry out exit end (simp append_assoc)
