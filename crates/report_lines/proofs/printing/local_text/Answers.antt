-- `local_text` meets its contract.
use mathlib.Core.Path.{◌≡◌, refl, ap, ◌∙◌}
use native.Mathlib.Omega.{arith}
use lib.ListN.{length}
use borrow.Author.Tests.{eq-eqb}
use Rattle.sir_analyses.specs.Liveness.{intervals}
use Rattle.sir_analyses.specs.Answers.{intervals_answer}
use Rattle.sir_analyses.specs.laws.Writing.{interval_count}
use Rattle.plank_core.specs.laws.Putting.{put_as, put_nothing}
use Rattle.report_lines.specs.Lines.{local_text}
use Rattle.report_lines.specs.inner.AnswerLines.{local_line}
use Rattle.report_lines.proofs.TooLong.{stands}
use Rattle.report_lines.proofs.AnswerText.{local_ends, local_as, local_ends_as}
use Rattle.report_lines.proofs.printing.local_text.Goals as goal

pub returns-then-n-eq0 : goal.returns-then-n-eq0
unfolding local_text
returns-then-n-eq0 c =
    let w = c.args.analysed.image.words.now in
    let z : length (intervals w c.args.v.0) ≡ 0 = omega (arith, c.compute_intervals-n.ensures.1.next, c.if-n-eq0.true, interval_count (intervals w c.args.v.0)) in
    put_as (rw (eq-eqb _ _ z) refl) (put_nothing (omega arith))

pub local_line-requires-clause-ends_some : goal.local_line-requires-clause-ends_some
local_line-requires-clause-ends_some c =
    let P = c.requires in
    let w = c.args.analysed.image.words.now in
    local_ends_as (stands (intervals_answer w c.args.v.0) P.out_len.0 P.v_bound.1 c.compute_intervals-n.ensures.1) (local_ends w c.args.analysed.image.well_formed c.args.v.0)

pub returns : goal.returns
returns c =
    let P = c.requires in
    let w = c.args.analysed.image.words.now in
    let v = c.args.v.0 in
    let z : length (intervals_answer w v) ≡ 0 → ⊥ = λ e. c.if-n-eq0.false (omega (arith, c.compute_intervals-n.ensures.1.next)) in
    let e = stands (intervals_answer w v) P.out_len.0 P.v_bound.1 c.compute_intervals-n.ensures.1 in
    put_as (ap (local_line v) e ∙ local_as w c.args.analysed.image.well_formed v z) c.local_line.ensures
