-- `list` meets its contract. The invariants: what is written, the rest of the word and the words after it are the members.
use mathlib.Core.Path.{◌≡◌}
use mathlib.Core.List.{◌∷◌, ◌++◌}
use Prim.Native.Nat.{◌+◌, ◌*◌, ◌-◌}
use lib.Bits.{bit_and}
use lib.Count.{count_trailing_zeros}
use Rattle.plank_core.specs.laws.Bits.{cleared_less}
use Rattle.plank_core.specs.laws.Members.{digits_from, from, from_word, left_none, left_lowest, Walked, walk_starts, walk_on, walk_part, walk_join, walk_room, walk_step, walk_done}
use native.Mathlib.Omega.{arith}
use Rattle.plank_core.proofs.dense_index_set.list.Goals as goal

pub loop-at-init : goal.loop-at-init
loop-at-init c = (omega arith, omega arith, walk_starts c.requires.1)

pub loop-w-init : goal.loop-w-init
loop-w-init c = ((c.type_inv.set c.loop-at.at).fits, c.loop-at.invariant.1, omega arith, walk_on (from_word _ c.loop-at.at c.loop-at-test.true) (walk_part c.loop-at.invariant.2))

-- the next member
next : (c : goal.In-loop-w)
    → Walked c.args.set.now c.loop-at.out c.loop-w.out c.loop-w.n
    ((64 * c.loop-at.at + count_trailing_zeros 64 c.loop-w.w)
    ∷ (digits_from 64 (64 * c.loop-at.at) (bit_and c.loop-w.w (c.loop-w.w - 1))
    ++ from c.args.set.now (c.loop-at.at + 1)))
next c = walk_on (left_lowest _ _ _ c.loop-w-test.true c.loop-w.invariant.0) c.loop-w.invariant.3

pub bounds-out-n : goal.bounds-out-n
bounds-out-n c = omega (arith, walk_room c.loop-w.invariant.1 (next c), c.loop-w.invariant.3.long, c.loop-w.invariant.3.room)

pub loop-w-preserved : goal.loop-w-preserved
loop-w-preserved c = (omega (arith, cleared_less _ c.loop-w-test.true), omega (arith, walk_room c.loop-w.invariant.1 (next c)), omega arith, walk_step c.loop-w.invariant.1 (next c))

pub loop-at-preserved : goal.loop-at-preserved
loop-at-preserved c = (omega arith, c.loop-w.invariant.1, walk_join c.loop-w.invariant.2 c.loop-at.invariant.2 (walk_on (left_none _ _ _ c.loop-w-test.false) c.loop-w.invariant.3))

pub returns : goal.returns
returns c = let e : c.loop-at.at ≡ 8 = omega arith in walk_done c.loop-at.invariant.1 (rw e at c.loop-at.invariant.2)
