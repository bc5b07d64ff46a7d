-- `link_blocks` meets its contract. The invariant: the edges of the first i blocks are linked, and what these return is added.
use mathlib.Core.Path.{◌∙◌}
use mathlib.Core.Bool.{◌&&◌}
use Prim.Native.Nat.{◌<◌}
use lib.ListN.{get_or}
use lib.Dec.{eqb}
use Rattle.plank_core.specs.Lists.{any, mem}
use Rattle.plank_core.specs.laws.Lists.{get_or_mem}
use Rattle.sir_data.specs.Records.{blocks, successors, returned}
use Rattle.sir_analyses.specs.inner.Pointers.{passes_by}
use Rattle.sir_analyses.proofs.claims.order.OrderLength.{rpo_below}
use Rattle.sir_analyses.proofs.Accepted.{returned_below}
use Rattle.sir_analyses.proofs.block_sets.BlockSets.{small}
use Rattle.sir_analyses.proofs.pointer_links.PointerLinks.{adds_listed, adds_all}
use native.Mathlib.Omega.{arith}
use Rattle.sir_analyses.proofs.pointer_links.link_blocks.Goals as goal

pub invariant_of-block : goal.invariant_of-block
invariant_of-block c =
    let l = c.loop-id in
    let order = c.rpo-id-items.result.now in
    record { known = rpo_below c.args.visited.image.words.now c.args.visited.visit_stage.well_formed (c.rpo-id-items.ensures ∙ c.args.visited.visit_stage.rpo_is) (get_or order l.id-index 0) (get_or_mem order l.id-index 0 c.loop-id-test.true) }

pub link_edges-requires : goal.link_edges-requires
link_edges-requires c =
    let l = c.loop-id in
    let order = c.rpo-id-items.result.now in
    record { links_len = l.invariant.1.long ∙ c.requires.links_len.0 }

pub returned_outputs-requires : goal.returned_outputs-requires
returned_outputs-requires c =
    let l = c.loop-id in
    let order = c.rpo-id-items.result.now in
    rpo_below c.args.visited.image.words.now c.args.visited.visit_stage.well_formed (c.rpo-id-items.ensures ∙ c.args.visited.visit_stage.rpo_is) (get_or order l.id-index 0) (get_or_mem order l.id-index 0 c.loop-id-test.true)

pub add_run-requires : goal.add_run-requires
add_run-requires c =
    let l = c.loop-id in
    let w = c.args.visited.image.words.now in
    let order = c.rpo-id-items.result.now in
    let h : get_or order l.id-index 0 < blocks w = rpo_below w c.args.visited.visit_stage.well_formed (c.rpo-id-items.ensures ∙ c.args.visited.visit_stage.rpo_is) (get_or order l.id-index 0) (get_or_mem order l.id-index 0 c.loop-id-test.true) in
    record { row_in_bounds = omega (arith, l.invariant.2.long, c.requires.links_len.1); by_index = λ v m. small c.args.visited.visit_stage.well_formed (returned_below c.args.visited.image.words.now c.args.visited.visit_stage.well_formed (get_or order l.id-index 0) v h (rw c.returned_outputs.ensures at m)) }

pub loop-id-preserved : goal.loop-id-preserved
loop-id-preserved c =
    let l = c.loop-id in
    let w = c.args.visited.image.words.now in
    let order = c.rpo-id-items.result.now in (
      omega arith,
      adds_listed (λ b v u. any (λ t. passes_by w b t v u) (successors w b)) order l.id-index c.loop-id-test.true l.invariant.1 c.link_edges.ensures,
      adds_listed (λ b r v. eqb r 1 && mem v (returned w b)) order l.id-index c.loop-id-test.true l.invariant.2 (rw c.returned_outputs.ensures at c.add_run.ensures),
    )

pub returns : goal.returns
returns c =
    let l = c.loop-id in
    let w = c.args.visited.image.words.now in
    let order = c.rpo-id-items.result.now in record { adds = rw (c.rpo-id-items.ensures ∙ c.args.visited.visit_stage.rpo_is) at (adds_all (λ b v u. any (λ t. passes_by w b t v u) (successors w b)) order l.id-index c.loop-id-test.false l.invariant.1); adds_2 = rw (c.rpo-id-items.ensures ∙ c.args.visited.visit_stage.rpo_is) at (adds_all (λ b r v. eqb r 1 && mem v (returned w b)) order l.id-index c.loop-id-test.false l.invariant.2) }
