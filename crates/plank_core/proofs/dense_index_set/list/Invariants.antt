-- `list` meets its contract. The invariants: what is written, the rest of the word and the words after it are the members.
use mathlib.Core.List.{◌++◌}
use Prim.Native.Nat.{◌+◌, ◌*◌, ◌^◌, ◌<◌, ◌≤◌}
use Rattle.plank_core.specs.laws.Members.{digits_from, from, Walked}
use Rattle.plank_core.proofs.dense_index_set.list.Given as goal

abbrev pub invariant-loop-w : goal.invariant-loop-w
invariant-loop-w l = (l.w < 2 ^ 64) × (l.n ≤ 512) × (l.initial.n ≤ l.n) × Walked l.set l.initial.out l.out l.n (digits_from 64 (64 * l.at) l.w ++ from l.set (l.at + 1))

abbrev pub decreases-loop-w : goal.decreases-loop-w
decreases-loop-w l = l.w

abbrev pub invariant-loop-at : goal.invariant-loop-at
invariant-loop-at l = (l.at ≤ 8) × (l.n ≤ 512) × Walked l.set l.initial.out l.out l.n (from l.set l.at)
