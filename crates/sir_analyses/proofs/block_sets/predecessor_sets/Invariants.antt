-- `predecessor_sets` meets its contract. The invariant: the visited ones among the blocks below p stand in the rows of their successors.
use mathlib.Core.Path.{◌≡◌}
use mathlib.Core.Bool.{◌&&◌}
use Prim.Native.Nat.{◌≤◌}
use lib.ListN.{length}
use lib.Dec.{ltb}
use Rattle.plank_core.specs.Lists.{mem}
use Rattle.sir_data.specs.Records.{successors}
use Rattle.sir_analyses.specs.Order.{is_visited}
use Rattle.sir_analyses.specs.inner.Tables.{Rows}
use Rattle.sir_analyses.proofs.block_sets.predecessor_sets.Given as goal

abbrev pub invariant-loop-p : goal.invariant-loop-p
invariant-loop-p l = (l.p ≤ l.count) × (length l.preds ≡ 2048) × Rows l.preds 256 (λ b i. ltb i l.p && (is_visited l.visited.image.words.now i && mem b (successors l.visited.image.words.now i)))
