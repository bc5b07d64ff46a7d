-- `end_sets` meets its contract. The invariant: the rows of the first b blocks are filled.
use mathlib.Core.Path.{◌≡◌}
use Prim.Native.Nat.{◌≤◌}
use lib.ListN.{length}
use Rattle.plank_core.specs.Lists.{mem}
use Rattle.sir_analyses.specs.Liveness.{end_reads}
use Rattle.sir_analyses.proofs.Tables.{Filled}
use Rattle.sir_analyses.proofs.block_sets.end_sets.Given as goal

abbrev pub invariant-loop-b : goal.invariant-loop-b
invariant-loop-b l = (l.b ≤ l.count) × (length l.ends ≡ 2048) × Filled l.ends 256 l.b (λ r v. mem v (end_reads l.image.words.now r))
