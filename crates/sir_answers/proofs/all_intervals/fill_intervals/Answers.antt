-- `fill_intervals` meets its contract.
use mathlib.Core.Path.{◌≡◌, sym, ap, subst, ◌∙◌}
use mathlib.Core.List.{List}
use Prim.Native.Nat.{ℕ, ◌*◌}
use lib.ListN.{length}
use Rattle.std.proofs.Common.{rules}
use Rattle.std.proofs.iter.Serving.{serving}
use Rattle.sir_data.specs.Records.{locals}
use Rattle.sir_analyses.specs.All.{all}
use Rattle.sir_analyses.specs.Answers.{intervals_answer}
use Rattle.sir_answers.specs.inner.Scatter.{Counts}
use Rattle.sir_answers.proofs.all_intervals.IntervalPieces.{intervals_small}
use Rattle.sir_answers.proofs.scatter.AllAnswers.{counts_fit, counts_total}
use Rattle.sir_answers.proofs.all_intervals.fill_intervals.Goals as goal

pub segments_answer-requires-clause-total : goal.segments_answer-requires-clause-total
segments_answer-requires-clause-total c =
    counts_fit c.count_intervals.ensures (intervals_small c.args.analysed.visit_stage.well_formed)

pub segments_answer-requires-clause-callable : goal.segments_answer-requires-clause-callable
segments_answer-requires-clause-callable c =
    λ s t e l.
    let w = c.args.analysed.image.words.now in
    let k : Counts (locals w) (intervals_answer w) s.now = subst (λ (x : List ℕ). Counts (locals w) (intervals_answer w) x) (sym e) c.count_intervals.ensures in
    let m : length t.now ≡ 4 * length (all locals intervals_answer w) = l ∙ ap (λ (i : ℕ). 4 * i) (counts_total c.count_intervals.ensures) in
    search (rules, serving)

pub returns : goal.returns
returns c =
    let w = c.args.analysed.image.words.now in
    c.segments_answer.ensures (all locals intervals_answer w) (sym (counts_total c.count_intervals.ensures)) (λ s t u v e l p. search rules)
