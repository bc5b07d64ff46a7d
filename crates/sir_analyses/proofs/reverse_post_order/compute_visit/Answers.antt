-- `compute_visit` meets its contract.
use Rattle.sir_analyses.proofs.loading.Loads.{blocks_fit, finished_fit, order_stage}
use Rattle.sir_analyses.proofs.reverse_post_order.VisitTables.{rpo_room, flags_empty, visit_stage}
use Rattle.sir_analyses.specs.inner.Stages.{part}
use Rattle.sir_analyses.proofs.reverse_post_order.compute_visit.Goals as goal

pub blocks_rpo-count-requires : goal.blocks_rpo-count-requires
unfolding part
blocks_rpo-count-requires c =
    rw (rpo_room c.args.image.well_formed c.visit-finished.ensures c.requires.postorder_len.1) (blocks_fit c.args.image.well_formed c.visit-finished.ensures)

pub flag_visited-requires : goal.flag_visited-requires
unfolding part
flag_visited-requires c =
    record { seen_len = (c.visit-finished.ensures.held.wide, flags_empty c.args.image.well_formed c.visit-finished.ensures c.requires.postorder_len.1 c.blocks_rpo-count.ensures) }

pub returns : goal.returns
unfolding part
returns c =
    (finished_fit c.args.image.well_formed c.visit-finished.ensures, order_stage c.args.image.well_formed c.visit-finished.ensures, visit_stage c.args.image.well_formed c.visit-finished.ensures c.requires.postorder_len.1 c.blocks_rpo-count.ensures c.flag_visited.new.flags c.flag_visited.ensures)
