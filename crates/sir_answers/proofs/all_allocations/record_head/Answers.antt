-- `record_head` meets its contract.
use mathlib.Core.Path.{ap, ◌∙◌}
use native.Mathlib.Omega.{arith}
use lib.ListN.{length}
use Rattle.sir_analyses.proofs.allocation_liveness.Discovery.{sites_long}
use Rattle.sir_analyses.proofs.allocation_liveness.PointerTables.{allocations_few}
use Rattle.sir_analyses.proofs.allocation_answers.AllocationWords.{site_known}
use Rattle.sir_answers.proofs.all_allocations.AllocationPieces.{head_same}
use Rattle.sir_answers.proofs.all_allocations.record_head.Goals as goal

pub site_of-site-requires : goal.site_of-site-requires
site_of-site-requires c =
    omega (arith, ap length (c.sites.ensures ∙ c.args.pointed.pointer_stage.sites_are), sites_long c.args.pointed.image.words.now, c.requires.a_in_bounds)

pub flags_of-requires : goal.flags_of-requires
flags_of-requires c =
    omega (arith, c.requires.a_in_bounds, allocations_few c.args.pointed.pointer_stage)

pub alloc_head-requires : goal.alloc_head-requires
alloc_head-requires c =
    let x = c.site_of-site.ensures c.args.pointed.image.words.now c.args.pointed.pointer_stage.well_formed (c.sites.ensures ∙ c.args.pointed.pointer_stage.sites_are) in
    record { op_bound = site_known c.args.pointed.image.words.now c.args.pointed.pointer_stage.well_formed x }

pub returns : goal.returns
returns c =
    let x = c.site_of-site.ensures c.args.pointed.image.words.now c.args.pointed.pointer_stage.well_formed (c.sites.ensures ∙ c.args.pointed.pointer_stage.sites_are) in
    λ e. c.alloc_head.ensures ∙ head_same x (c.flags_of.ensures ∙ (c.args.pointed.pointer_stage.discovered.flags_are c.args.a.0 x.known).word) e
