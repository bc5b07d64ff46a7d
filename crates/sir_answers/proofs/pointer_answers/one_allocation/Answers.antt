-- `one_allocation` meets its contract.
use mathlib.Core.Path.{ap, ◌∙◌}
use lib.ListN.{length}
use Rattle.sir_analyses.proofs.allocation_answers.AllocationWords.{mark_told}
use Rattle.sir_analyses.proofs.allocation_liveness.Discovery.{sites_long}
use Rattle.sir_analyses.proofs.allocation_liveness.PointerTables.{allocations_few}
use native.Mathlib.Omega.{arith}
use Rattle.sir_answers.proofs.pointer_answers.one_allocation.Goals as goal

pub site_of-site-requires : goal.site_of-site-requires
site_of-site-requires c =
    omega (arith, ap length ((rw c.pointed-pointed.ensures.1 at c.sites.ensures) ∙ c.args.followed.pointer_stage.sites_are), sites_long c.args.followed.image.words.now, c.requires.a_bound)

pub is_marked-requires : goal.is_marked-requires
is_marked-requires c =
    omega (arith, c.requires.a_bound, allocations_few c.args.followed.pointer_stage)

pub flags_of-requires : goal.flags_of-requires
flags_of-requires c =
    omega (arith, c.requires.a_bound, allocations_few c.args.followed.pointer_stage)

pub returns-then-is_marked : goal.returns-then-is_marked
returns-then-is_marked c =
    let x = c.site_of-site.ensures c.args.followed.image.words.now c.args.followed.visit_stage.well_formed ((rw c.pointed-pointed.ensures.1 at c.sites.ensures) ∙ c.args.followed.pointer_stage.sites_are) in
    let d = c.args.followed.pointer_stage.discovered in
    c.marked_answer.ensures c.args.a.0 x (rw (c.flags_of.ensures, c.pointed-pointed.ensures.1) (d.flags_are c.args.a.0 x.known)) (mark_told d x.known (rw c.pointed-pointed.ensures.1 at c.is_marked.ensures) c.if-is_marked.true)

pub returns : goal.returns
returns c = c.allocation_answer.ensures
