-- `allocation_answer` meets its contract.
use mathlib.Core.Path.{refl, ap, ◌∙◌}
use Rattle.plank_core.specs.Lists.{bind}
use Rattle.sir_data.specs.Pages.{bytes_of}
use Rattle.sir_analyses.specs.Answers.{allocation_answer}
use Rattle.sir_analyses.specs.Calls.{answered}
use lib.ListN.{length}
use Rattle.sir_analyses.proofs.allocation_answers.AllocationWords.{mark_told, owned_unmarked}
use Rattle.sir_analyses.proofs.allocation_liveness.Discovery.{sites_long}
use Rattle.sir_analyses.proofs.allocation_liveness.PointerTables.{allocations_few}
use native.Mathlib.Omega.{arith}
use Rattle.sir_analyses.proofs.allocation_answers.allocation_answer.Goals as goal

pub site_of-site-requires : goal.site_of-site-requires
site_of-site-requires c =
    omega (arith, ap length ((rw c.pointed-pointed.ensures.1 at c.sites.ensures) ∙ c.args.tables.pointer_stage.sites_are), sites_long c.args.tables.image.words.now, c.requires.a_bound)

pub is_marked-requires : goal.is_marked-requires
is_marked-requires c =
    omega (arith, c.requires.a_bound, allocations_few c.args.tables.pointer_stage)

pub flags_of-requires : goal.flags_of-requires
flags_of-requires c =
    omega (arith, c.requires.a_bound, allocations_few c.args.tables.pointer_stage)

pub owned_locals-requires : goal.owned_locals-requires
owned_locals-requires c =
    record { a_bound = (omega (arith, c.requires.a_bound, allocations_few c.args.tables.pointer_stage), refl) }

pub record_answer-requires : goal.record_answer-requires
record_answer-requires c =
    let x = c.site_of-site.ensures c.args.tables.image.words.now c.args.tables.visit_stage.well_formed ((rw c.pointed-pointed.ensures.1 at c.sites.ensures) ∙ c.args.tables.pointer_stage.sites_are) in
    let d = c.args.tables.pointer_stage.discovered in
    record { by_index = (c.args.a.0, rw c.analysed.ensures.0 (owned_unmarked c.args.tables.visit_stage.well_formed d x.known (mark_told d x.known (rw c.pointed-pointed.ensures.1 at c.is_marked.ensures) c.if-is_marked.false) x c.owned_locals.ensures)) }

pub returns : goal.returns
returns c =
    let x = c.site_of-site.ensures c.args.tables.image.words.now c.args.tables.visit_stage.well_formed ((rw c.pointed-pointed.ensures.1 at c.sites.ensures) ∙ c.args.tables.pointer_stage.sites_are) in
    let d = c.args.tables.pointer_stage.discovered in
    c.record_answer.ensures c.args.a.0 (rw c.analysed.ensures.0 (owned_unmarked c.args.tables.visit_stage.well_formed d x.known (mark_told d x.known (rw c.pointed-pointed.ensures.1 at c.is_marked.ensures) c.if-is_marked.false) x c.owned_locals.ensures))
    ∙ ap (λ i. answered (bind (allocation_answer i.words.now c.args.a.0) bytes_of) c.args.out.now) c.analysed.ensures.0
