-- The rows of the table of operation codes, as functions of the code.
use Rattle.std.specs.Prelude.{ℕ, ◌*◌, ◌^◌, map}
use Rattle.plank_core.specs.Lists.{upto, sum, one_if}
use Rattle.sir_data.specs.declared.codes.Operation.{Operation}
use Rattle.sir_data.specs.Codes.{arity, escaping, derives}

-- bit k of the mask for position k
abbrev pub mask : ℕ → ℕ
mask c = sum (map (λ k. one_if (escaping c k) * 2 ^ k) (upto 8))

abbrev pub row : ℕ → Operation
row c = record { 0 = (arity c).0; 1 = (arity c).1; 2 = mask c; 3 = derives c }
