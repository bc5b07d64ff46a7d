-- `successor_count`, by control kind; a switch counts its targets and its fallback.
use Rattle.std.proofs.Common.{◌≡◌, length, ap, arith, rules}
use Rattle.sir_data.specs.Records.{control}
use Rattle.sir_data.specs.laws.Records.{switch_count}
use Rattle.sir_data.proofs.records.Records.successor_count.Goals as goal

pub returns-in-None : goal.returns-in-None
returns-in-None c =
    let w = c.args.self.words.now in
    let b = c.args.b.0 in
    let kind : control w b ≡ 4 = search rules in
    omega (arith, switch_count w b kind, ap length (rw c.in-None.is at c.fallback.ensures))

pub returns-in-Some : goal.returns-in-Some
returns-in-Some c =
    let w = c.args.self.words.now in
    let b = c.args.b.0 in
    let kind : control w b ≡ 4 = search rules in
    omega (arith, switch_count w b kind, ap length (rw c.in-Some.is at c.fallback.ensures))
