-- `pass_back` meets its contract. The invariant: the blocks from place k of the order on are done.
use Prim.Native.Nat.{◌≤◌}
use lib.ListN.{length}
use Rattle.sir_analyses.specs.inner.Stages.{PassStep}
use Rattle.sir_analyses.proofs.local_liveness.Passes.{from}
use Rattle.sir_analyses.proofs.local_liveness.pass_back.Given as goal

abbrev pub invariant-loop-k : goal.invariant-loop-k
invariant-loop-k l = (l.k ≤ length l.order) × PassStep l.visited.image.words.now (from l.visited.image.words.now l.order l.k) l.initial.live l.live l.sent l.grew
