-- `visited_ops` meets its contract. The invariant: the operations of the first i blocks are added.
use mathlib.Core.Path.{◌∙◌}
use lib.ListN.{get_or}
use Rattle.plank_core.specs.laws.Lists.{get_or_mem}
use Rattle.sir_analyses.proofs.claims.order.OrderLength.{rpo_below}
use Rattle.sir_analyses.proofs.Tables.{cleared_long}
use Rattle.sir_analyses.proofs.pointer_links.PointerLinks.{visited_all}
use Rattle.sir_analyses.proofs.pointer_links.visited_ops.Goals as goal

pub invariant_of-block : goal.invariant_of-block
invariant_of-block c =
    let l = c.loop-b in
    let order = c.rpo-b-items.result.now in
    record { known = rpo_below c.args.visited.image.words.now c.args.visited.visit_stage.well_formed (c.rpo-b-items.ensures ∙ c.args.visited.visit_stage.rpo_is) (get_or order l.b-index 0) (get_or_mem order l.b-index 0 c.loop-b-test.true) }

pub add_operations-requires : goal.add_operations-requires
add_operations-requires c =
    let l = c.loop-b in
    let order = c.rpo-b-items.result.now in
    record { seen_len = l.invariant.1.long ∙ cleared_long c.args.seen.now 16 c.requires.seen_value }

pub returns : goal.returns
returns c =
    visited_all c.args.visited.image.words.now c.loop-b.b-index c.requires.seen_value (c.rpo-b-items.ensures ∙ c.args.visited.visit_stage.rpo_is) c.loop-b-test.false c.loop-b.invariant.1
