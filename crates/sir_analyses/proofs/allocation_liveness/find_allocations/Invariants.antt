-- `find_allocations` meets its contract. The invariant: the sites of the blocks left are to be written.
use Prim.Native.Nat.{◌≤◌}
use lib.ListN.{length, drop}
use Rattle.plank_core.specs.Lists.{bind}
use Rattle.sir_analyses.specs.inner.Discovery.{alloc_sites, block_sites}
use Rattle.sir_analyses.proofs.Listing.{Listing}
use Rattle.sir_analyses.proofs.allocation_liveness.find_allocations.Given as goal

abbrev pub invariant-loop-b : goal.invariant-loop-b
invariant-loop-b l = (l.m ≤ length l.sites) × Listing (alloc_sites l.visited.image.words.now) 0 l.initial.sites (bind (drop l.b-index l.order) (block_sites l.visited.image.words.now)) l.sites l.m
