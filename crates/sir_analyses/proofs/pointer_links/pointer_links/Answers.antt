-- `pointer_links` meets its contract: what the visited operations and the visited blocks add is what the definitions say.
use Rattle.sir_analyses.proofs.pointer_links.PointerLinks.{pointer_rows}
use Rattle.sir_analyses.proofs.pointer_links.pointer_links.Goals as goal

pub returns : goal.returns
returns c =
    let r = c.link_operations.ensures in
    let b = c.link_blocks.ensures in
    pointer_rows c.args.visited.image.words.now c.args.visited.visit_stage.well_formed c.requires.links_value.0 c.requires.links_value.1 r.adds r.adds_2 b.adds b.adds_2
