-- `store_sites` meets its contract. The invariant: the first a sites are stored.
use Prim.Native.Nat.{◌≤◌}
use lib.ListN.{length}
use Rattle.sir_analyses.proofs.allocation_liveness.PointerTables.{SitesTo}
use Rattle.sir_analyses.proofs.allocation_liveness.store_sites.Given as goal

abbrev pub invariant-loop-a : goal.invariant-loop-a
invariant-loop-a l = (l.a ≤ length l.sites) × SitesTo l.sites l.pointers l.a
