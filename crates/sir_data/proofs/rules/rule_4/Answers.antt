-- `rule_4` meets its contract.
use Rattle.std.proofs.Common.{refl}
use Rattle.sir_data.specs.Rules.{rule4}
use Rattle.sir_data.proofs.rules.rule_4.Goals as goal

pub returns : goal.returns
unfolding rule4
returns c = refl
