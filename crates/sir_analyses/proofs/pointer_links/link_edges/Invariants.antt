-- `link_edges` meets its contract. The invariant: the edges to the first i successors are linked.
use Prim.Native.Nat.{◌≤◌}
use lib.ListN.{take}
use Rattle.plank_core.specs.Lists.{any}
use Rattle.sir_data.specs.Records.{successors}
use Rattle.sir_analyses.specs.inner.Tables.{Adds}
use Rattle.sir_analyses.specs.inner.Pointers.{passes_by}
use Rattle.sir_analyses.proofs.pointer_links.link_edges.Given as goal

abbrev pub invariant-loop-i : goal.invariant-loop-i
invariant-loop-i l = (l.i ≤ l.count) × Adds l.initial.links (λ v u. any (λ s. passes_by l.b.image.words.now l.b.id.0 s v u) (take l.i (successors l.b.image.words.now l.b.id.0))) l.links
