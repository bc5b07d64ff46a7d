-- `follow_local` meets its contract. The invariant: the first i of what the local carries on are linked.
use mathlib.Core.Path.{◌≡◌}
use Prim.Native.Nat.{ℕ, ◌<◌}
use lib.ListN.{length, get_or, take}
use Rattle.sir_analyses.specs.inner.Following.{link_all}
use Rattle.sir_analyses.specs.inner.Discovery.{links_in}
use Rattle.sir_analyses.specs.inner.Stages.{PointerStep}
use Rattle.sir_analyses.proofs.allocation_liveness.follow_local.Given as goal

abbrev pub invariant-loop-carried : goal.invariant-loop-carried
invariant-loop-carried l = (length l.carried-items ≡ length (links_in l.links l.local.0)) × ((k : ℕ) → k < length (links_in l.links l.local.0) → get_or l.carried-items k 0 ≡ get_or (links_in l.links l.local.0) k 0) × PointerStep (take l.carried-index (links_in l.links l.local.0)) l.a.0 (link_all l.a.0 (take l.carried-index (links_in l.links l.local.0))) l.initial.pointers l.pointers
