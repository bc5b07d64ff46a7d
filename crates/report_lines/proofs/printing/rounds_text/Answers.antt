-- `rounds_text` meets its contract.
use mathlib.Core.Path.{ap}
use Rattle.plank_core.specs.laws.Putting.{put_as}
use Rattle.report_lines.specs.Lines.{rounds_line, rounds_text}
use Rattle.report_lines.proofs.printing.rounds_text.Goals as goal

pub returns : goal.returns
unfolding rounds_text
returns c = put_as (ap rounds_line c.requires.0) c.rounds_line.ensures
