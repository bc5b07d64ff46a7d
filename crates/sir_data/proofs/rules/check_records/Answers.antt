-- `check_records` meets its contract: the head decides, then the fit, then what is after it.
use Rattle.std.proofs.Common.{sym, ◌∙◌}
use Rattle.sir_data.specs.laws.WellFormed.{sized, fits}
use Rattle.sir_data.proofs.rules.check_records.Goals as goal

pub invariant_of-check_sized : goal.invariant_of-check_sized
invariant_of-check_sized c =
    let w = c.args.words.now in
    record { sized = sized w (sym c.in_ok-check_head.ensures) (fits w (sym c.rule_6.ensures ∙ c.if-rule_6.false)) }
