-- `rule_12` meets its contract. The invariant: the bases of the allocations left decide.
use mathlib.Core.Path.{refl, sym, ◌∙◌}
use native.Mathlib.Nat.{zero-add}
use borrow.Author.Tests.{not-true, not-false}
use Rattle.sir_analyses.proofs.allocation_liveness.Discovery.{bases_start, deciding_next, deciding_stop, deciding_all}
use Rattle.sir_analyses.proofs.allocation_liveness.rule_12.Goals as goal

pub loop-a-init : goal.loop-a-init
loop-a-init c = let w = c.args.image.words.now in
    record { long = refl; left = bases_start w c.args.image.well_formed }

pub returns-then-not-row_add : goal.returns-then-not-row_add
returns-then-not-row_add c =
    let w = c.args.image.words.now in
    let n = rw zero-add at c.row_add.ensures.0 in
    sym (deciding_stop w c.args.image.well_formed c.requires.sites_value.0 c.loop-a-test.true c.base_of-base.ensures.0 c.loop-a.invariant (not-false _ (sym n ∙ c.if-not-row_add.true)))

pub loop-a-preserved : goal.loop-a-preserved
loop-a-preserved c =
    let w = c.args.image.words.now in
    let n = rw zero-add at c.row_add.ensures.0 in
    let put = rw zero-add at c.row_add.ensures.1 in
    rw put (deciding_next w c.args.image.well_formed c.requires.sites_value.0 c.loop-a-test.true c.base_of-base.ensures.0 c.loop-a.invariant (not-true _ (sym n ∙ c.if-not-row_add.false)))

pub returns : goal.returns
returns c = let w = c.args.image.words.now in
    sym (deciding_all w c.requires.sites_value.0 c.loop-a-test.false c.loop-a.invariant)
