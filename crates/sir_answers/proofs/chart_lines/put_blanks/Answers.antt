-- `put_blanks` meets its contract. The invariant: k blank lines stand in front, and the rest is as it was.
use mathlib.Core.List.{append-nil, List, [], ◌∷◌, ◌++◌}
use mathlib.Core.Path.{◌≡◌, refl, sym, ap, ◌∙◌}
use Prim.Native.Nat.{ℕ, ◌+◌, ◌*◌, ◌/◌}
use native.Mathlib.Omega.{arith}
use lib.Seq.{drop-length}
use lib.ListN.{length, drop, replicate}
use Rattle.sir_analyses.specs.Chart.{blank_line, text_of}
use Rattle.sir_answers.proofs.chart_lines.LineTexts.{blanks_more, fill_next}
use Rattle.sir_answers.proofs.chart_lines.put_blanks.Goals as goal

pub loop-k-init : goal.loop-k-init
loop-k-init c = (refl, refl)

pub loop-k-preserved : goal.loop-k-preserved
loop-k-preserved c =
    let d = c.args.out.now in
    let l = c.loop-k in
    let long : length c.put_blank.new.line ≡ 73 = omega (arith, c.put_blank.auto, l.auto.out, c.requires, c.loop-k-test.true) in
    let n : 73 * (l.k + 1) ≡ 73 * l.k + 73 = omega arith in
    let put = fill_next (text_of (replicate l.k blank_line)) (blank_line ++ (10 ∷ [])) (73 * l.k) 73 d l.invariant.0 l.invariant.1 c.put_blank.ensures long in
    (rw n (ap length (sym (blanks_more l.k)) ∙ put.0), rw n (put.1 ∙ ap (λ (t : List ℕ). t ++ drop (73 * l.k + 73) d) (blanks_more l.k)))

pub returns : goal.returns
returns c =
    let d = c.args.out.now in
    let l = c.loop-k in
    let all : 73 * l.k ≡ length d = omega (arith, l.auto.k-end, c.requires, c.loop-k-test.false) in
    let n : l.k ≡ length d / 73 = omega (arith, all) in
    l.invariant.1 ∙ rw (all, n, drop-length d) (append-nil (text_of (replicate (length d / 73) blank_line)))
