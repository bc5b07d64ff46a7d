-- `block_intervals` meets its contract. The invariant: the operations from o on are done, and their intervals written.
use mathlib.Core.Path.{◌≡◌}
use Rattle.sir_analyses.specs.inner.Scanning.{end_of}
use Prim.Native.Nat.{ℕ, ◌+◌, ◌*◌, ◌≤◌}
use lib.ListN.{length}
use Rattle.plank_core.specs.Lists.{range}
use Rattle.sir_analyses.proofs.local_intervals.Scanning.{Scanning}
use Rattle.sir_analyses.proofs.local_intervals.block_intervals.Given as goal

abbrev pub invariant-loop-o : goal.invariant-loop-o
invariant-loop-o l = (l.o-start ≤ l.o) × (length l.run ≡ length l.initial.run) × (l.n + 3 * l.o ≤ 3 * l.initial.o) × ((e : ℕ) → l.fn.end ≡ end_of e → Scanning l.sets.image.words.now l.b.0 l.v.0 e (range l.o l.initial.o) l.run l.till l.n)
