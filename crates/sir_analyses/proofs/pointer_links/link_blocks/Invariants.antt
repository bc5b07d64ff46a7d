-- `link_blocks` meets its contract. The invariant: the edges of the first i blocks are linked, and what these return is added.
use mathlib.Core.Bool.{◌&&◌}
use Prim.Native.Nat.{◌≤◌}
use lib.ListN.{length, take}
use lib.Dec.{eqb}
use Rattle.plank_core.specs.Lists.{any, mem}
use Rattle.sir_data.specs.Records.{successors, returned}
use Rattle.sir_analyses.specs.inner.Tables.{Adds}
use Rattle.sir_analyses.specs.inner.Pointers.{passes_by}
use Rattle.sir_analyses.proofs.pointer_links.link_blocks.Given as goal

abbrev pub invariant-loop-id : goal.invariant-loop-id
invariant-loop-id l = (l.id-index ≤ length l.id-items) × Adds l.initial.links (λ v u. any (λ b. any (λ s. passes_by l.visited.image.words.now b s v u) (successors l.visited.image.words.now b)) (take l.id-index l.id-items)) l.links × Adds l.initial.causes (λ r v. any (λ b. eqb r 1 && mem v (returned l.visited.image.words.now b)) (take l.id-index l.id-items)) l.causes
