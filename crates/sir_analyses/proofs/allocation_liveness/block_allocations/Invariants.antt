-- `block_allocations` meets its contract. The invariant: the sites of the operations left are to be written.
use Prim.Native.Nat.{◌≤◌}
use lib.ListN.{length}
use Rattle.plank_core.specs.Lists.{range}
use Rattle.sir_analyses.specs.inner.Discovery.{block_sites}
use Rattle.sir_analyses.proofs.Listing.{Listing}
use Rattle.sir_analyses.proofs.allocation_liveness.Discovery.{sites_of}
use Rattle.sir_analyses.proofs.allocation_liveness.block_allocations.Given as goal

abbrev pub invariant-loop-o : goal.invariant-loop-o
invariant-loop-o l = (l.m ≤ length l.sites) × Listing (block_sites l.b.image.words.now l.b.id.0) l.at l.initial.sites (sites_of l.b.image.words.now l.b.id.0 (range l.o l.o-end)) l.sites l.m
