-- `add_to_successors` meets its contract. The invariant: p stands in the rows of its first i successors.
use mathlib.Core.Bool.{◌&&◌}
use Prim.Native.Nat.{◌≤◌}
use lib.ListN.{take}
use lib.Dec.{eqb}
use Rattle.plank_core.specs.Lists.{mem}
use Rattle.sir_data.specs.Records.{successors}
use Rattle.sir_analyses.specs.inner.Tables.{Adds}
use Rattle.sir_analyses.proofs.block_sets.add_to_successors.Given as goal

abbrev pub invariant-loop-i : goal.invariant-loop-i
invariant-loop-i l = (l.i ≤ l.count) × Adds l.initial.preds (λ b n. eqb n l.p.id.0 && mem b (take l.i (successors l.p.image.words.now l.p.id.0))) l.preds
