-- `write_intervals` meets its contract.
use Rattle.std.proofs.Common.{rules, ◌≡◌, ◌++◌, ℕ, List, ap, sym, ◌∙◌, ◌+◌, ◌*◌}
use Rattle.std.proofs.lemmas.Grind.{put_two}
use Rattle.plank_core.specs.Lists.{bind, upto}
use Rattle.plank_core.specs.laws.Loops.{bind_snoc, upto_more}
use Rattle.report_lines.specs.inner.AnswerLines.{interval_at}
use Rattle.report_lines.proofs.text.write_intervals.Goals as goal

-- the text so far, and that of one more
more : (f : ℕ → List ℕ) (k : ℕ) → bind (upto k) f ++ f k ≡ bind (upto (k + 1)) f
more f k = sym (ap (λ (l : List ℕ). bind l f) (upto_more k) ∙ bind_snoc f (upto k) k)

pub loop-k-preserved : goal.loop-k-preserved
unfolding interval_at
loop-k-preserved g c = λ plain.
    let so_far = c.loop-k.invariant plain in
    let wrote = rw (c.word_at.ensures, c.word_at-in-loop-k.ensures, c.word_at-in-loop-k-2.ensures) at (c.write.ensures.writes so_far.plain (search rules)) in
    put_two _ _ _ _ _ _ _ so_far wrote (more (λ j. interval_at c.args.answer.now (c.args.first + 3 * j)) c.loop-k.k)
