-- `put_uses` meets its contract. The invariant: the blocks left are to be put.
use mathlib.Core.Path.{◌∙◌}
use Prim.Native.Nat.{◌+◌, ◌-◌, ◌^◌}
use native.Mathlib.Omega.{arith}
use lib.ListN.{get_or, drop}
use Rattle.plank_core.specs.Lists.{bind}
use Rattle.plank_core.specs.laws.Lists.{get_or_mem}
use Rattle.plank_core.specs.laws.Loops.{bind_drop_step, bind_drop_end}
use Rattle.sir_analyses.specs.inner.Uses.{block_uses}
use Rattle.sir_analyses.proofs.claims.order.OrderLength.{rpo_below}
use Rattle.sir_analyses.proofs.answers.Writing.{putting_as, putting_count, putting_more, putting_all}
use Rattle.sir_analyses.proofs.def_use.put_uses.Goals as goal

pub invariant_of-block : goal.invariant_of-block
invariant_of-block c =
    let L = c.loop-b in
    let w = c.args.visited.image.words.now in
    let order = c.rpo-b-items.result.now in
    record { known = rpo_below w c.args.visited.visit_stage.well_formed (c.rpo-b-items.ensures ∙ c.args.visited.visit_stage.rpo_is) (get_or order L.b-index 0) (get_or_mem order L.b-index 0 c.loop-b-test.true) }

pub put_block_uses-m-requires : goal.put_block_uses-m-requires
put_block_uses-m-requires c =
    let L = c.loop-b in
    let w = c.args.visited.image.words.now in
    let order = c.rpo-b-items.result.now in
    let g = block_uses w c.args.counts.now c.args.local.0 in
    let e = bind_drop_step g order L.b-index c.loop-b-test.true in
    let q = putting_count (g (get_or order L.b-index 0)) (bind (drop (L.b-index + 1) order) g) {k = 2 ^ 59 - 3} (omega (arith, c.requires.counts_len.1)) (putting_as e L.invariant.1) in
    record { counts_len = c.requires.counts_len.0; b_bound_2 = omega (arith, q) }

pub loop-b-preserved : goal.loop-b-preserved
loop-b-preserved c =
    let L = c.loop-b in
    let w = c.args.visited.image.words.now in
    let order = c.rpo-b-items.result.now in
    let g = block_uses w c.args.counts.now c.args.local.0 in
    let e = bind_drop_step g order L.b-index c.loop-b-test.true in
    (omega arith, putting_more (putting_as e L.invariant.1) c.put_block_uses-m.ensures)

pub returns : goal.returns
returns c =
    putting_all (bind_drop_end (block_uses c.args.visited.image.words.now c.args.counts.now c.args.local.0) c.rpo-b-items.result.now c.loop-b.b-index c.loop-b-test.false) c.loop-b.invariant.1
