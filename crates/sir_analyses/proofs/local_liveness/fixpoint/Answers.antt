-- `fixpoint` meets its contract. The invariant: so many passes are done, and the definition goes on from the sets that the exits show.
use mathlib.Core.Path.{sym, ◌∙◌}
use Rattle.sir_analyses.proofs.local_liveness.Passes.{settling_more, settling_ends, settling_few, settling_small}
use Rattle.sir_analyses.proofs.local_liveness.LivenessTables.{passing_starts, passing_on}
use native.Mathlib.Omega.{arith}
use Rattle.sir_analyses.proofs.local_liveness.fixpoint.Goals as goal

pub loop-preds-init : goal.loop-preds-init
loop-preds-init c =
    passing_starts c.args.visited.visit_stage.well_formed c.requires.block_rows.0 c.requires.block_rows.1 c.predecessor_sets.ensures

pub overflow_add-done : goal.overflow_add-done
overflow_add-done c =
    omega (arith, settling_small c.args.visited.visit_stage.well_formed c.loop-preds.invariant.1)

pub returns-then-not-grew : goal.returns-then-not-grew
returns-then-not-grew c =
    let e = settling_ends c.args.visited.visit_stage.well_formed c.loop-preds.invariant.1 c.pass_back-grew.ensures.stepped c.if-not-grew.true in
    (e.0, record { long = c.pass_back-grew.ensures.long ∙ c.loop-preds.invariant.0.long ∙ sym c.requires.block_rows.1.long; before = c.pass_back-grew.ensures.before ∙ c.loop-preds.invariant.2; exit_rows = e.1 })

pub loop-preds-smaller : goal.loop-preds-smaller
loop-preds-smaller c =
    omega (arith, settling_few c.args.visited.visit_stage.well_formed c.loop-preds.invariant.1)

pub loop-preds-preserved : goal.loop-preds-preserved
loop-preds-preserved c =
    (passing_on c.loop-preds.invariant.0 c.pass_back-grew.ensures, settling_more c.args.visited.visit_stage.well_formed c.loop-preds.invariant.1 c.pass_back-grew.ensures.stepped c.if-not-grew.false, c.pass_back-grew.ensures.before ∙ c.loop-preds.invariant.2)
