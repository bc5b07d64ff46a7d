-- `check_sized` meets its contract: the fields decide, or the operands.
use Rattle.std.proofs.Common.{sym}
use Rattle.sir_data.specs.laws.WellFormed.{in_range}
use Rattle.sir_data.proofs.rules.check_sized.Goals as goal

pub invariant_of-check_operands : goal.invariant_of-check_operands
invariant_of-check_operands c = record { in_range = in_range c.args.records.words.now (sym c.in_ok-check_fields.ensures) }
