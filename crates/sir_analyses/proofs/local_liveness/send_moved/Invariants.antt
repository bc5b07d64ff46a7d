-- `send_moved` meets its contract. The invariant: the outputs at the first k positions are added.
use mathlib.Core.Bool.{◌&&◌}
use mathlib.Core.List.{map}
use Prim.Native.Nat.{◌≤◌}
use lib.ListN.{length, get_or, take}
use lib.Dec.{eqb}
use Rattle.plank_core.specs.Lists.{mem}
use Rattle.sir_data.specs.Records.{blocks}
use Rattle.sir_analyses.specs.inner.Tables.{Sends}
use Rattle.sir_analyses.proofs.local_liveness.send_moved.Given as goal

abbrev pub invariant-loop-at : goal.invariant-loop-at
invariant-loop-at l = (l.at-index ≤ length l.moved) × Sends (blocks l.p.image.words.now) l.initial.exits (λ r i. eqb r l.row && mem i (map (λ j. get_or l.outputs j 0) (take l.at-index l.moved))) l.exits l.grew
