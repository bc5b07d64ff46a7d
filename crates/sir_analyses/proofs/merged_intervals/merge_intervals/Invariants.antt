-- `merge_intervals` meets its contract. The invariant: the operations from o on are done, and their intervals written.
use mathlib.Core.Path.{◌≡◌}
use Prim.Native.Nat.{◌+◌, ◌*◌, ◌≤◌}
use lib.ListN.{length}
use Rattle.plank_core.specs.Lists.{range}
use Rattle.sir_analyses.proofs.merged_intervals.MergedIntervals.{Sweeping}
use Rattle.sir_analyses.proofs.merged_intervals.merge_intervals.Given as goal

abbrev pub invariant-loop-o : goal.invariant-loop-o
invariant-loop-o l = (l.o-start ≤ l.o) × (length l.run ≡ 3075) × (length l.set ≡ 8) × (3 * l.o + 3 ≤ l.n) × (l.n ≤ 3075) × Sweeping l.analysed.image.words.now l.reach l.b.0 (range l.o l.initial.o) l.set l.run l.till l.n
