-- `row_difference_with` meets its contract. The invariant: the first k words of the row have lost those of the set.
use mathlib.Core.Path.{◌≡◌}
use Prim.Native.Nat.{◌≤◌, ◌<◌}
use lib.ListN.{length}
use Rattle.plank_core.specs.laws.DenseIndexSet.{Fit, row_to, minus}
use Rattle.plank_core.proofs.rows.row_difference_with.Given as goal

abbrev pub invariant-loop-k : goal.invariant-loop-k
invariant-loop-k l = (l.k ≤ 8) × (length l.table ≡ length l.initial.table) × (l.table ≡ row_to minus l.k l.initial.table l.row l.set) × (0 < l.k → Fit l.initial.table × Fit l.set)
