-- `total_words` meets its contract. The invariant: so many words do the first segments take.
use mathlib.Core.Path.{◌≡◌, refl, ap, ◌∙◌}
use native.Mathlib.Omega.{arith}
use lib.ListN.{length}
use Rattle.sir_answers.specs.inner.Scatter.{number_at, base}
use Rattle.sir_answers.specs.laws.Scatter.{base_next, base_within}
use Rattle.sir_answers.proofs.scatter.total_words.Goals as goal

pub loop-count-init : goal.loop-count-init
unfolding base
loop-count-init c = refl

pub overflow_add-n : goal.overflow_add-n
overflow_add-n c =
    let L = c.loop-count in
    omega (arith, base_within (number_at c.args.counts.now) L.count-index (length c.args.counts.now) c.loop-count-test.true)

pub overflow_add-n-in-loop-count : goal.overflow_add-n-in-loop-count
overflow_add-n-in-loop-count c =
    let L = c.loop-count in
    omega (arith, base_within (number_at c.args.counts.now) L.count-index (length c.args.counts.now) c.loop-count-test.true)

pub loop-count-preserved : goal.loop-count-preserved
loop-count-preserved c =
    let L = c.loop-count in
    omega (arith, base_next (number_at c.args.counts.now) L.count-index)

pub returns : goal.returns
returns c =
    let L = c.loop-count in
    let n = length c.args.counts.now in
    let e : L.count-index ≡ n = omega arith in
    L.invariant ∙ ap (base (number_at c.args.counts.now)) e
