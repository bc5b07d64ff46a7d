-- `split_touched` meets its contract.
use mathlib.Core.Path.{refl, ap, ◌∙◌}
use native.Mathlib.Omega.{arith}
use lib.ListN.{length, take}
use Rattle.plank_core.specs.inner.DenseIndexSet.{contains}
use Rattle.plank_core.specs.laws.DenseIndexSet.{length_row}
use Rattle.sir_analyses.specs.inner.Stages.{reads_in, writes_in}
use Rattle.sir_analyses.proofs.stages.Parts.{length_part}
use Rattle.sir_analyses.proofs.merged_intervals.MergedIntervals.{joined}
use Rattle.sir_answers.proofs.all_allocations.SweptEnds.{touched_split}
use Rattle.sir_answers.proofs.all_allocations.split_touched.Goals as goal

pub row_of-requires : goal.row_of-requires
row_of-requires c =
    omega (arith, ap length c.writes.ensures ∙ length_part 8192 8192 c.args.live.now (omega (arith, c.told-live)), c.requires.o_bound)

pub row_union_with-requires : goal.row_union_with-requires
row_union_with-requires c =
    (omega arith, ap length c.row_of.ensures ∙ length_row _ _ (omega (arith, ap length c.writes.ensures ∙ length_part 8192 8192 c.args.live.now (omega (arith, c.told-live)), c.requires.o_bound)))

pub row_of-requires-2 : goal.row_of-requires-2
row_of-requires-2 c =
    omega (arith, ap length c.reads.ensures ∙ length_part 0 8192 c.args.live.now (omega (arith, c.told-live)), c.requires.o_bound)

pub row_union_with-requires-2 : goal.row_union_with-requires-2
row_union_with-requires-2 c =
    (omega (arith, c.row_union_with.auto), ap length c.row_of-2.ensures ∙ length_row _ _ (omega (arith, ap length c.reads.ensures ∙ length_part 0 8192 c.args.live.now (omega (arith, c.told-live)), c.requires.o_bound)))

pub returns : goal.returns
returns c =
    let a = c.args in
    let live = a.live.now in
    let o = a.o.0 in
    let touched = c.row_union_with-2.new.table in
    let one = rw (c.row_of.ensures, c.writes.ensures) at c.row_union_with.ensures.1 in
    let two = rw (c.row_of-2.ensures, c.reads.ensures) at c.row_union_with-2.ensures.1 in
    touched_split a.owned.now a.set.now (take c.list_owned-n.result c.list_owned-n.new.ids) _ refl c.split_owners.ensures live o touched c.list_owned-n.ensures.1 (λ v h. ap (λ t. contains t v) (rw one at two) ∙ joined (writes_in live) (reads_in live) o v h)
