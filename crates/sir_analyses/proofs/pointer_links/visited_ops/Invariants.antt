-- `visited_ops` meets its contract. The invariant: the operations of the first i blocks are added.
use Prim.Native.Nat.{◌+◌, ◌*◌, ◌≤◌}
use lib.ListN.{length, take}
use Rattle.plank_core.specs.Lists.{any, mem}
use Rattle.sir_data.specs.Records.{ops}
use Rattle.sir_analyses.specs.inner.Tables.{Adds}
use Rattle.sir_analyses.proofs.pointer_links.visited_ops.Given as goal

abbrev pub invariant-loop-b : goal.invariant-loop-b
invariant-loop-b l = (l.b-index ≤ length l.b-items) × Adds l.initial.seen (λ r n. any (λ b. mem (512 * r + n) (ops l.visited.image.words.now b)) (take l.b-index l.b-items)) l.seen
