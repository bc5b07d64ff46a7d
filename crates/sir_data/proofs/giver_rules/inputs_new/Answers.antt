-- `inputs_new` meets its contract. The loop's invariant: the blocks that are left decide, and go into the set.
use Rattle.std.proofs.Common.{ℕ, ◌<◌, List, sym, ap, ◌∙◌, arith}
use Rattle.sir_data.specs.Records.{blocks, inputs}
use Rattle.plank_core.specs.inner.DenseIndexSet.{added_all, fresh}
use Rattle.sir_data.specs.inner.WellFormed.{Sized, InRange}
use Rattle.sir_data.proofs.giver_rules.Passing.{Locals, step_run, stop_run}
use Rattle.sir_data.proofs.giver_rules.inputs_new.Goals as goal

small : {w : List ℕ} → Sized w → InRange w → (b : ℕ) → b < blocks w → Locals (inputs w b)
small sized in_range b h v m = omega (arith, in_range.input b v h m, sized.locals_most)

pub returns-then-not-all_new : goal.returns-then-not-all_new
returns-then-not-all_new c =
    let l = c.loop-b in
    let w : List ℕ = c.args.ranged.records.words.now in
    let e = sym (c.all_new.ensures.value ∙ ap (fresh l.given) c.inputs.ensures) ∙ c.if-not-all_new.true in
    stop_run c.args.given.now (inputs w) (blocks w) (small c.args.ranged.records.sized c.args.ranged.in_range) (omega arith) l.invariant e

pub loop-b-preserved : goal.loop-b-preserved
loop-b-preserved c =
    let l = c.loop-b in
    let w : List ℕ = c.args.ranged.records.words.now in
    let run_is = c.inputs.ensures in
    let new = c.if-not-all_new.false in
    step_run c.args.given.now (inputs w) (blocks w) (small c.args.ranged.records.sized c.args.ranged.in_range) (omega arith) l.invariant
    (sym (c.all_new.ensures.value ∙ ap (fresh l.given) run_is) ∙ new) (c.all_new.ensures.set_after new ∙ ap (added_all l.given) run_is)
