-- `uses_answer` meets its contract.
use mathlib.Core.Path.{◌≡◌}
use native.Mathlib.Omega.{arith}
use Prim.Native.Nat.{◌+◌, ◌<◌, ◌^◌}
use lib.ListN.{length}
use Rattle.std.proofs.Common.{rules}
use Rattle.std.proofs.iter.Serving.{serving}
use Rattle.sir_analyses.specs.Answers.{uses_answer}
use Rattle.sir_analyses.specs.inner.Uses.{uses_of}
use Rattle.sir_analyses.specs.inner.Writing.{Puts}
use Rattle.sir_analyses.proofs.answers.Writing.{puts_as}
use Rattle.sir_analyses.proofs.def_use.UseWords.{uses_are, uses_most}
use Rattle.sir_answers.proofs.order_answers.uses_answer.Goals as goal

pub counted_answer-requires-clause-callable : goal.counted_answer-requires-clause-callable
counted_answer-requires-clause-callable c =
    let k = c.input_counts.ensures in
    let wide : length c.input_counts.new.counts ≡ 1024 = k.wide in
    let few : 3 + length (uses_of c.args.visited.image.words.now c.input_counts.new.counts c.args.v.0) < 2 ^ 59 = omega (arith, uses_most c.args.visited.image.words.now c.args.visited.visit_stage.well_formed c.args.v.0 k) in
    search (rules, serving)

pub counted_answer-requires-clause-few : goal.counted_answer-requires-clause-few
counted_answer-requires-clause-few c =
    λ s n t p.
    let w = c.args.visited.image.words.now in
    let v = c.args.v.0 in
    let k = c.input_counts.ensures in
    let put : Puts 0 (uses_of w c.input_counts.new.counts v) s.now t.now n = search rules in
    omega (arith, put.next, uses_most w c.args.visited.visit_stage.well_formed v k)

pub returns : goal.returns
returns c =
    let w = c.args.visited.image.words.now in
    let v = c.args.v.0 in
    c.counted_answer.ensures (uses_answer w v)
    (λ s n t p.
    let put : Puts 0 (uses_of w c.input_counts.new.counts v) s.now t.now n = search rules in
    puts_as (uses_are w c.args.visited.visit_stage.well_formed v c.input_counts.ensures) put)
