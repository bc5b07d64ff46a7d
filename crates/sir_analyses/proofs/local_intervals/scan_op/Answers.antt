-- `scan_op` meets its contract.
use mathlib.Core.Path.{ap, ◌∙◌}
use lib.ListN.{length}
use Rattle.sir_analyses.proofs.stages.Parts.{length_part}
use native.Mathlib.Omega.{arith}
use Rattle.sir_analyses.proofs.local_intervals.scan_op.Goals as goal

pub row_contains-requires : goal.row_contains-requires
row_contains-requires c = (omega (arith, ap length c.writes.ensures ∙ length_part 8192 8192 c.args.live.now (omega (arith, c.told-live)), c.requires), c.requires.0)
