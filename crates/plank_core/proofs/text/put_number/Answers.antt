-- `put_number` meets its contract.
use native.Mathlib.Omega.{arith}
use Rattle.plank_core.specs.laws.Text.{number_short}
use Rattle.plank_core.proofs.text.put_number.Goals as goal

pub put_digits-requires : goal.put_digits-requires
put_digits-requires c =
    omega (arith, c.requires, number_short c.args.n (omega arith))
