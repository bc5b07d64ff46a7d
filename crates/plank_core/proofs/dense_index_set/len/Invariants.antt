-- `len` meets its contract. The invariant: what is counted and the members in the words to come are all members.
use mathlib.Core.Path.{◌≡◌}
use Prim.Native.Nat.{◌+◌, ◌≤◌}
use lib.ListN.{length}
use Rattle.plank_core.specs.inner.DenseIndexSet.{members}
use Rattle.plank_core.specs.laws.Members.{from}
use Rattle.plank_core.proofs.dense_index_set.len.Given as goal

abbrev pub invariant-loop-word : goal.invariant-loop-word
invariant-loop-word l = (l.word-index ≤ 8) × (l.n + length (from l.set l.word-index) ≡ length (members l.set))
