-- `live_around` meets its contract.
use mathlib.Core.Path.{ap, ◌∙◌}
use mathlib.Core.Bool.{Bool, ◌||◌}
use native.Mathlib.Omega.{arith}
use lib.ListN.{length}
use Rattle.plank_core.specs.inner.DenseIndexSet.{contains, row_of}
use Rattle.plank_core.specs.laws.DenseIndexSet.{contains_row, length_row, set_union}
use Rattle.sir_analyses.specs.inner.Stages.{reads_in}
use Rattle.sir_analyses.proofs.stages.Parts.{length_part}
use Rattle.sir_answers.proofs.open_allocations.live_around.Goals as goal

pub row_of-requires : goal.row_of-requires
row_of-requires c =
    omega (arith, ap length c.reads.ensures ∙ length_part 0 8192 c.args.live.now (omega (arith, c.told-live)), c.requires)

pub row_union_with-requires : goal.row_union_with-requires
row_union_with-requires c =
    let table = c.reads.result.now in
    let long = ap length c.reads.ensures ∙ length_part 0 8192 c.args.live.now (omega (arith, c.told-live)) in
    (omega (arith, c.requires), ap length c.row_of.ensures ∙ length_row table c.args.o.0 (omega (arith, long, c.requires)))

pub returns : goal.returns
returns c =
    let set = c.args.set.now in
    let o = c.args.o.0 in
    let table = reads_in c.args.live.now in
    λ v h. rw (c.row_union_with.ensures.1, c.row_of.ensures, c.reads.ensures)
    (set_union set (row_of table o) v h (omega (arith, c.requires.1)) ∙ ap (λ (t : Bool). contains set v || t) (contains_row table o v h))
