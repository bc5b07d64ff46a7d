-- `say_locals` meets its contract.
use Prim.Native.Nat.{◌<◌}
use native.Mathlib.Omega.{arith}
use Rattle.sir_data.specs.Records.{locals}
use Rattle.report_lines.proofs.TooLong.{local_short}
use Rattle.report_lines.proofs.printing.say_locals.Goals as goal

pub local_text-n-requires-clause-v_bound : goal.local_text-n-requires-clause-v_bound
local_text-n-requires-clause-v_bound g c =
    let l : c.loop-v.v < locals c.args.analysed.image.words.now = omega (arith, c.local_count-count.ensures, c.loop-v-test.true) in
    (l, local_short c.args.analysed.image.words.now c.requires.local_too_long_value l)
