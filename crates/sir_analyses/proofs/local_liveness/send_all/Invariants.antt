-- `send_all` meets its contract. The invariant: the first k blocks have what is sent.
use mathlib.Core.Bool.{◌&&◌}
use Prim.Native.Nat.{◌≤◌}
use lib.ListN.{length, take}
use Rattle.plank_core.specs.Lists.{mem}
use Rattle.sir_data.specs.Records.{blocks}
use Rattle.sir_analyses.specs.inner.Tables.{arrives, Sends}
use Rattle.sir_analyses.proofs.local_liveness.send_all.Given as goal

abbrev pub invariant-loop-p : goal.invariant-loop-p
invariant-loop-p l = (l.p-index ≤ length l.ids) × Sends (blocks l.image.words.now) l.initial.exits (λ q i. mem q (take l.p-index l.ids) && arrives l.image.words.now l.set l.moved q i) l.exits l.grew
