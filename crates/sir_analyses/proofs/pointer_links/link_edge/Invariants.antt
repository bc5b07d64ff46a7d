-- `link_edge` meets its contract. The invariant: the first k outputs are linked.
use Prim.Native.Nat.{◌≤◌}
use lib.ListN.{length}
use Rattle.plank_core.specs.Lists.{upto, any}
use Rattle.sir_analyses.specs.inner.Tables.{Adds}
use Rattle.sir_analyses.proofs.pointer_links.PointerLinks.{passed}
use Rattle.sir_analyses.proofs.pointer_links.link_edge.Given as goal

abbrev pub invariant-loop-k : goal.invariant-loop-k
invariant-loop-k l = (l.k ≤ length l.given) × Adds l.initial.links (λ v u. any (λ j. passed l.given l.taken j v u) (upto l.k)) l.links
