-- `operand_run` is a part of the words, and a run is that part.
use Rattle.std.proofs.Common.{◌≡◌, ◌+◌, ◌-◌, sym, arith}
use Rattle.sir_data.specs.Records.{operands_at}
use Rattle.sir_data.specs.laws.Records.{run_part}
use Rattle.sir_data.proofs.records.Records.operand_run.Goals as goal

pub returns : goal.returns
returns c =
    let w = c.args.self.words.now in
    let s = c.args.start in
    let e = c.args.end in
    let n : operands_at w + e - (operands_at w + s) ≡ e - s = omega arith in
    rw (c.operands_at-first.ensures, n) (sym (run_part w s e c.args.self.sized c.requires.start_le_end c.requires.end_bound))
