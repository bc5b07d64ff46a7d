-- `open_end` meets its contract.
use mathlib.Core.Path.{ap, ◌∙◌}
use lib.ListN.{length}
use Rattle.sir_analyses.proofs.stages.Parts.{length_part}
use native.Mathlib.Omega.{arith}
use Rattle.sir_analyses.proofs.local_intervals.open_end.Goals as goal

pub row_contains-requires : goal.row_contains-requires
row_contains-requires c = (omega (arith, ap length c.exits.ensures ∙ length_part 22528 2048 c.args.live.now (omega (arith, c.told-live)), c.requires), c.requires.1)

pub row_contains-requires-2 : goal.row_contains-requires-2
row_contains-requires-2 c =
    (omega (arith, ap length c.ends.ensures ∙ length_part 20480 2048 c.args.live.now (omega (arith, c.told-live)), c.requires), c.requires.1)
