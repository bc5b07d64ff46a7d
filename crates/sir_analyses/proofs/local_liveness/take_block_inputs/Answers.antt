-- `take_block_inputs` meets its contract. The invariant: the first i inputs are gone from the set, and the positions of those that it had are found.
use mathlib.Core.Path.{◌≡◌, sym, ◌∙◌}
use Prim.Native.Nat.{◌<◌}
use native.Mathlib.Nat.{zero-add}
use lib.ListN.{length, get_or}
use Rattle.plank_core.specs.inner.DenseIndexSet.{contains, removed}
use Rattle.sir_analyses.proofs.local_liveness.Sending.{taking_told, taking_found, taking_missed, taking_ends, inputs_few, inputs_once, input_small}
use native.Mathlib.Omega.{arith}
use Rattle.sir_analyses.proofs.local_liveness.take_block_inputs.Goals as goal
use Rattle.sir_analyses.proofs.local_liveness.take_block_inputs.Goals.{else-row_remove, then-row_remove}

pub row_remove-requires : goal.row_remove-requires
row_remove-requires c =
    let l = c.loop-i in
    (omega (arith, l.invariant.set_long, c.requires.set_len), input_small c.args.b.image.well_formed c.args.b.id.0 c.args.b.known c.inputs-inputs.ensures l.i (omega arith))

pub overflow_cast-moved : goal.overflow_cast-moved
overflow_cast-moved c =
    omega (arith, inputs_few c.args.b.image.well_formed c.args.b.id.0 c.args.b.known c.inputs-inputs.ensures)

pub bounds-moved-n : goal.bounds-moved-n
bounds-moved-n c =
    let l = c.loop-i in
    omega (arith, l.invariant.few, l.invariant.moved_long, c.requires.set_len, inputs_few c.args.b.image.well_formed c.args.b.id.0 c.args.b.known c.inputs-inputs.ensures)

pub loop-i-preserved : goal.loop-i-preserved
loop-i-preserved c =
    let in_range = c.args.b.known in
    let set_long = c.requires.set_len.0 in
    let b = c.args.b.id.0 in
    let l = c.loop-i in
    let xs = c.inputs-inputs.result.now in
    let same = c.inputs-inputs.ensures in
    let h : l.i < length xs = omega arith in
    let once = inputs_once c.args.b.image.well_formed b in_range same in
    let small = input_small c.args.b.image.well_formed b in_range same l.i h in
    let r = c.row_remove in
    let e : r.new.table ≡ removed l.set (get_or xs l.i 0) = rw zero-add at r.ensures.1 in
    let t : r.result ≡ contains c.args.set.now (get_or xs l.i 0) = rw zero-add at r.ensures.0 ∙ taking_told once set_long h small l.invariant in
    elim c.if-row_remove.branch [ then-row_remove x ↦ rw (x.moved-is, x.n-is) (taking_found once set_long h small l.invariant (sym t ∙ x.if-row_remove.true) (omega (arith, l.invariant.few, l.invariant.moved_long, c.requires.set_len, inputs_few c.args.b.image.well_formed b in_range same)) e) | else-row_remove x ↦ rw (x.moved-is, x.n-is) (taking_missed once set_long h small l.invariant (sym t ∙ x.if-row_remove.false) e) ]

pub returns : goal.returns
returns c =
    let l = c.loop-i in (
      omega (arith, l.invariant.few, l.invariant.here, inputs_few c.args.b.image.well_formed c.args.b.id.0 c.args.b.known c.inputs-inputs.ensures),
      taking_ends c.inputs-inputs.ensures (omega arith) l.invariant,
    )
