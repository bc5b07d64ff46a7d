-- `row_union_with` meets its contract. The invariant: the first k words of the row have taken in those of the set, and `grew` tells whether one changed.
use mathlib.Core.Path.{◌≡◌}
use Prim.Native.Nat.{◌≤◌, ◌<◌}
use lib.ListN.{length}
use lib.Bits.{bit_or}
use Rattle.plank_core.specs.Lists.{upto, any}
use Rattle.plank_core.specs.laws.DenseIndexSet.{Fit, row_to, changes}
use Rattle.plank_core.proofs.rows.row_union_with.Given as goal

abbrev pub invariant-loop-k : goal.invariant-loop-k
invariant-loop-k l = (l.k ≤ 8) × (length l.table ≡ length l.initial.table) × (l.table ≡ row_to bit_or l.k l.initial.table l.row l.set) × (0 < l.k → Fit l.initial.table × Fit l.set) × (l.grew ≡ any (changes l.initial.table l.row l.set) (upto l.k))
