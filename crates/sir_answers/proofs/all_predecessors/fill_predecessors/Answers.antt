-- `fill_predecessors` meets its contract.
use mathlib.Core.Path.{◌≡◌, sym, ap, subst, ◌∙◌}
use mathlib.Core.List.{List}
use Prim.Native.Nat.{ℕ, ◌*◌}
use lib.ListN.{length}
use Rattle.std.proofs.Common.{rules}
use Rattle.std.proofs.iter.Serving.{serving}
use Rattle.sir_data.specs.Records.{blocks}
use Rattle.sir_analyses.specs.All.{all}
use Rattle.sir_analyses.specs.Answers.{predecessors_answer}
use Rattle.sir_answers.specs.inner.Scatter.{Counts}
use Rattle.sir_answers.proofs.all_predecessors.EdgePieces.{predecessors_small}
use Rattle.sir_answers.proofs.scatter.AllAnswers.{counts_fit, counts_total}
use Rattle.sir_answers.proofs.all_predecessors.fill_predecessors.Goals as goal

pub segments_answer-requires-clause-total : goal.segments_answer-requires-clause-total
segments_answer-requires-clause-total c =
    counts_fit c.count_predecessors.ensures (predecessors_small c.args.visited.image.words.now c.args.visited.visit_stage.well_formed)

pub segments_answer-requires-clause-callable : goal.segments_answer-requires-clause-callable
segments_answer-requires-clause-callable c =
    λ s t e l.
    let w = c.args.visited.image.words.now in
    let k : Counts (blocks w) (predecessors_answer w) s.now = subst (λ (n : List ℕ). Counts (blocks w) (predecessors_answer w) n) (sym e) c.count_predecessors.ensures in
    let m : length t.now ≡ 4 * length (all blocks predecessors_answer w) = l ∙ ap (λ (i : ℕ). 4 * i) (counts_total c.count_predecessors.ensures) in
    search (rules, serving)

pub returns : goal.returns
returns c =
    let w = c.args.visited.image.words.now in
    c.segments_answer.ensures (all blocks predecessors_answer w) (sym (counts_total c.count_predecessors.ensures)) (λ s t u v e l p. search rules)
