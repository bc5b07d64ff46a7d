-- `fixpoint` meets its contract. The invariant: so many passes are done, and the definition goes on from the sets that the exits show.
use mathlib.Core.Path.{◌≡◌}
use Prim.Native.Nat.{◌+◌, ◌-◌, ◌*◌}
use lib.ListN.{take}
use Rattle.sir_data.specs.Records.{blocks, locals}
use Rattle.sir_analyses.specs.inner.Stages.{exits_in, Passing}
use Rattle.sir_analyses.proofs.local_liveness.Passes.{Settling}
use Rattle.sir_analyses.proofs.local_liveness.fixpoint.Given as goal

abbrev pub invariant-loop-preds : goal.invariant-loop-preds
invariant-loop-preds l = Passing l.visited.image.words.now l.preds l.live l.sent × Settling l.visited.image.words.now (exits_in l.live) l.sent l.done × (take 22528 l.live ≡ take 22528 l.initial.live)

abbrev pub decreases-loop-preds : goal.decreases-loop-preds
decreases-loop-preds l = blocks l.visited.image.words.now * locals l.visited.image.words.now + 1 - l.done
