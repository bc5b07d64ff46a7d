-- `base_of` meets its contract.
use Rattle.sir_analyses.proofs.allocation_answers.AllocationWords.{site_known}
use Rattle.sir_analyses.proofs.allocation_liveness.base_of.Goals as goal

pub base_ptr-requires : goal.base_ptr-requires
base_ptr-requires c = let w = c.args.image.words.now in
    record { o_bound = site_known w c.args.image.well_formed (c.site_of-site.ensures w c.args.image.well_formed c.requires.sites_value.0) }
