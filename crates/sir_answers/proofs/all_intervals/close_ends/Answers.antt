-- `close_ends` meets its contract. The invariant: the pieces of the ids left are to be put.
use lib.ListN.{get_or}
use Rattle.plank_core.specs.laws.Lists.{get_or_mem}
use Rattle.sir_answers.proofs.all_intervals.OpenEnds.{closing_none, closing_fits, closing_more, closing_skip, closing_all}
use Rattle.sir_answers.proofs.all_intervals.close_ends.Goals as goal
use Rattle.sir_answers.proofs.all_intervals.close_ends.Goals.{then-to-ne0, else-to-ne0}

pub loop-v-init : goal.loop-v-init
loop-v-init c = closing_none c.requires.fits

pub bounds-till-v : goal.bounds-till-v
bounds-till-v c =
    c.requires.by_index (get_or c.args.ids.now c.loop-v.v-index 0) (get_or_mem c.args.ids.now c.loop-v.v-index 0 c.loop-v-test.true)

pub append-requires : goal.append-requires
append-requires c =
    closing_fits c.loop-v.invariant c.loop-v-test.true c.if-to-ne0.true c.requires.below

pub loop-v-preserved : goal.loop-v-preserved
loop-v-preserved c =
    let k = c.loop-v.invariant in
    let h = c.loop-v-test.true in
    elim c.if-to-ne0.branch [
      | then-to-ne0 w ↦ rw (w.cursors-is, w.out-is) (closing_more k h w.if-to-ne0.true w.append.ensures)
      | else-to-ne0 w ↦ rw (w.cursors-is, w.out-is) (closing_skip k h w.if-to-ne0.false)
    ]

pub returns : goal.returns
returns c = closing_all c.loop-v.invariant c.loop-v-test.false
