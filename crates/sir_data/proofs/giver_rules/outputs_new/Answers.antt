-- `outputs_new` meets its contract. The loop's invariant: the operations that are left decide, and go into the set.
use Rattle.std.proofs.Common.{ℕ, ◌<◌, List, sym, ap, ◌∙◌, arith}
use Rattle.sir_data.specs.Records.{operations, outs}
use Rattle.plank_core.specs.inner.DenseIndexSet.{added_all, fresh}
use Rattle.sir_data.specs.inner.WellFormed.{Sized, InRange}
use Rattle.sir_data.proofs.giver_rules.Passing.{Locals, step_run, stop_run}
use Rattle.sir_data.proofs.giver_rules.outputs_new.Goals as goal

small : {w : List ℕ} → Sized w → InRange w → (o : ℕ) → o < operations w → Locals (outs w o)
small sized in_range o h v m = omega (arith, in_range.written o v h m, sized.locals_most)

pub returns-then-not-all_new-clause-value : goal.returns-then-not-all_new-clause-value
returns-then-not-all_new-clause-value c =
    let l = c.loop-o in
    let w : List ℕ = c.args.ranged.records.words.now in
    let e = sym (c.all_new.ensures.value ∙ ap (fresh l.given) c.op_outputs.ensures) ∙ c.if-not-all_new.true in
    stop_run c.args.given.now (outs w) (operations w) (small c.args.ranged.records.sized c.args.ranged.in_range) (omega arith) l.invariant e

pub loop-o-preserved : goal.loop-o-preserved
loop-o-preserved c =
    let l = c.loop-o in
    let w : List ℕ = c.args.ranged.records.words.now in
    let run_is = c.op_outputs.ensures in
    let new = c.if-not-all_new.false in
    step_run c.args.given.now (outs w) (operations w) (small c.args.ranged.records.sized c.args.ranged.in_range) (omega arith) l.invariant
    (sym (c.all_new.ensures.value ∙ ap (fresh l.given) run_is) ∙ new) (c.all_new.ensures.set_after new ∙ ap (added_all l.given) run_is)
