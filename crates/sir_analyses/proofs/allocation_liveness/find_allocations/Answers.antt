-- `find_allocations` meets its contract. The invariant: the sites of the blocks left are to be written.
use mathlib.Core.Path.{◌∙◌}
use native.Mathlib.Omega.{arith}
use lib.ListN.{get_or}
use Rattle.plank_core.specs.laws.Lists.{get_or_mem}
use Rattle.sir_analyses.proofs.Listing.{listing_none, listing_as}
use Rattle.sir_analyses.proofs.claims.order.OrderLength.{rpo_below}
use Rattle.sir_analyses.proofs.allocation_liveness.Discovery.{sites_start}
use Rattle.sir_analyses.proofs.allocation_liveness.find_allocations.Goals as goal

pub loop-b-init : goal.loop-b-init
loop-b-init c =
    (omega arith, listing_as (sites_start c.args.visited.image.words.now c.rpo-order.result.now (c.rpo-order.ensures ∙ c.args.visited.visit_stage.rpo_is)) listing_none)

pub invariant_of-block : goal.invariant_of-block
invariant_of-block c =
    let L = c.loop-b in
    let w = c.args.visited.image.words.now in
    let order = c.rpo-order.result.now in
    let b = get_or order L.b-index 0 in
    record { known = rpo_below w c.args.visited.visit_stage.well_formed (c.rpo-order.ensures ∙ c.args.visited.visit_stage.rpo_is) b (get_or_mem order L.b-index 0 c.loop-b-test.true) }

pub block_allocations-requires : goal.block_allocations-requires
block_allocations-requires c =
    let L = c.loop-b in
    let w = c.args.visited.image.words.now in
    let order = c.rpo-order.result.now in
    let b = get_or order L.b-index 0 in
    record { at_bound = omega (arith, L.invariant.0) }
