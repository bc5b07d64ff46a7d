-- `escapes_at`: the table against `escaping`, eight positions of each code in one test.
use Rattle.std.proofs.Common.{ℕ, ◌/◌, ◌^◌, Bool, false, eqb, map, get_or, refl, rules}
use lib.Bits.{bit_and}
use Rattle.plank_core.specs.Lists.{upto}
use Rattle.plank_core.specs.laws.Table.{agree, table_rule}
use Rattle.sir_data.specs.declared.codes.Operation.{Operation}
use Rattle.sir_data.specs.Codes.{escaping}
use Rattle.sir_data.specs.inner.CodeRows.{row}
use Rattle.sir_data.proofs.codes.escapes_at.Goals as goal

abbrev is_set : ℕ → ℕ → Bool
is_set k x = eqb (bit_and (x / 2 ^ k) 1) 1

abbrev none : Operation
none = record { 0 = 0; 1 = 0; 2 = 0; 3 = false }

pub returns : goal.returns
returns c =
    let code = c.args.code in
    agree (λ k. is_set k (get_or (map row (upto 93)) code none).2) (escaping code) 8
    (table_rule row (λ r. map (λ k. is_set k r.2) (upto 8)) (λ n. map (escaping n) (upto 8)) 93 refl code none (search rules))
    c.args.bit (search rules)
