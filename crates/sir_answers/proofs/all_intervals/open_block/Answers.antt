-- `open_block` meets its contract.
use mathlib.Core.Path.{ap, ◌∙◌}
use native.Mathlib.Omega.{arith}
use borrow.Author.Rules.{rules}
use lib.ListN.{length}
use Rattle.plank_core.specs.inner.DenseIndexSet.{members, row_of}
use Rattle.sir_analyses.specs.inner.Stages.{exits_in, ends_in}
use Rattle.sir_analyses.proofs.stages.Parts.{length_part}
use Rattle.sir_answers.proofs.all_intervals.OpenEnds.{listed_below, block_opened}
use Rattle.sir_answers.proofs.all_intervals.open_block.Goals as goal

pub list_row-n-requires : goal.list_row-n-requires
list_row-n-requires c =
    (omega (arith, ap length c.exits.ensures ∙ length_part 22528 2048 c.args.live.now (omega (arith, c.told-live)), c.requires.b_bound), search rules)

pub set_ends-requires : goal.set_ends-requires
set_ends-requires c =
    listed_below (row_of c.exits.result.now c.args.b.0) c.args.till.now c.list_row-n.ensures.1 c.requires.till_len.0

pub list_row-m-requires : goal.list_row-m-requires
list_row-m-requires c =
    (omega (arith, ap length c.ends.ensures ∙ length_part 20480 2048 c.args.live.now (omega (arith, c.told-live)), c.requires.b_bound), omega (arith, c.list_row-n.auto))

pub set_ends-requires-2 : goal.set_ends-requires-2
set_ends-requires-2 c =
    listed_below (row_of c.ends.result.now c.args.b.0) c.set_ends.new.till c.list_row-m.ensures.1 (omega (arith, c.set_ends.auto, c.requires.till_len.0))

pub returns : goal.returns
returns c =
    let b = c.args.b.0 in
    let live = c.args.live.now in
    let e = c.list_row-n.ensures.1 ∙ ap (λ t. members (row_of t b)) c.exits.ensures in
    let f = c.list_row-m.ensures.1 ∙ ap (λ t. members (row_of t b)) c.ends.ensures in
    λ v h. block_opened (exits_in live) (ends_in live) b v _ _ _ h (c.requires.till_len.1 v) (rw e at (c.set_ends.ensures v)) (rw f at (c.set_ends-2.ensures v))
