-- `len` meets its contract. The invariant: what is counted and the members in the words to come are all members.
use mathlib.Core.Path.{◌≡◌, ap, ◌∙◌}
use native.Mathlib.Nat.{zero-add}
use native.Mathlib.Omega.{arith}
use lib.ListN.{length}
use lib.Count.{ones-le}
use Rattle.plank_core.specs.laws.Members.{from, from_start, from_end, from_length, members_most}
use Rattle.plank_core.proofs.dense_index_set.len.Goals as goal

pub loop-word-init : goal.loop-word-init
loop-word-init c = (omega arith, zero-add _ ∙ ap length (from_start _))

pub overflow_add-n : goal.overflow_add-n
overflow_add-n c = let l = c.loop-word in omega (arith, members_most c.args.set.now, l.invariant.1, ones-le 64 _ (c.type_inv.set l.word-index).fits)

pub loop-word-preserved : goal.loop-word-preserved
loop-word-preserved c =
    let l = c.loop-word in
    (omega arith, omega (arith, l.invariant.1, from_length c.args.set.now l.word-index (omega arith) (c.type_inv.set l.word-index).fits))

pub returns : goal.returns
returns c =
    let l = c.loop-word in
    let e : l.word-index ≡ 8 = omega arith in
    let none = ap length (ap (from c.args.set.now) e ∙ from_end c.args.set.now) in
    omega (arith, l.invariant.1, none)
