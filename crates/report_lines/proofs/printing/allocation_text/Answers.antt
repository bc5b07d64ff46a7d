-- `allocation_text` meets its contract.
use mathlib.Core.Path.{ap, ◌∙◌}
use Rattle.plank_core.specs.laws.Putting.{put_as}
use Rattle.report_lines.specs.inner.AnswerLines.{allocation_line}
use Rattle.report_lines.proofs.AnswerText.{allocation_ends, allocation_as, allocation_ends_as}
use Rattle.report_lines.proofs.printing.allocation_text.Goals as goal

pub allocation_line-requires-clause-ends_some : goal.allocation_line-requires-clause-ends_some
allocation_line-requires-clause-ends_some c =
    allocation_ends_as c.requires.a_in_bounds.1 (allocation_ends c.args.image.words.now c.args.image.well_formed c.args.a.0 c.requires.a_in_bounds.0)

pub returns : goal.returns
returns c =
    put_as (ap (allocation_line c.args.a.0) c.requires.a_in_bounds.1 ∙ allocation_as c.args.image.words.now c.args.image.well_formed c.args.a.0 c.requires.a_in_bounds.0) c.allocation_line.ensures
