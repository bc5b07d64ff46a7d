-- `put_interval_at` meets its contract.
use mathlib.Core.Path.{refl}
use Rattle.report_lines.specs.inner.AnswerLines.{interval_at}
use Rattle.plank_core.specs.laws.Putting.{put_as}
use Rattle.report_lines.proofs.text.put_interval_at.Goals as goal

pub returns : goal.returns
unfolding interval_at
returns c =
    put_as (rw (c.word_at-block.ensures, c.word_at-start.ensures, c.word_at-end.ensures) refl) c.put_interval.ensures
