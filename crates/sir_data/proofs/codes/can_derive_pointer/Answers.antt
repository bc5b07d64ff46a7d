-- `can_derive_pointer`: the table against `derives`.
use Rattle.std.proofs.Common.{refl, rules}
use Rattle.plank_core.specs.laws.Table.{table_rule}
use Rattle.sir_data.specs.Codes.{derives}
use Rattle.sir_data.specs.inner.CodeRows.{row}
use Rattle.sir_data.proofs.codes.can_derive_pointer.Goals as goal

pub returns : goal.returns
returns c = table_rule row (λ r. r.3) derives 93 refl c.args.code _ (search rules)
