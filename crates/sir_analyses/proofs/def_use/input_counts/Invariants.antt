-- `input_counts` meets its contract. The invariant: the operations before o are counted.
use mathlib.Core.Path.{◌≡◌}
use Prim.Native.Nat.{ℕ, ◌≤◌, ◌<◌}
use lib.ListN.{length, get_or}
use Rattle.sir_data.specs.Records.{ins}
use Rattle.sir_analyses.specs.Liveness.{positions}
use Rattle.sir_analyses.proofs.def_use.input_counts.Given as goal

abbrev pub invariant-loop-o : goal.invariant-loop-o
invariant-loop-o l = (l.o ≤ l.last) × (length l.counts ≡ 1024) × ((p : ℕ) → p < l.o → get_or l.counts p 0 ≡ length (positions l.local.0 (ins l.image.words.now p) 0))
