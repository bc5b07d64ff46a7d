-- `order_text` meets its contract.
use mathlib.Core.Path.{ap, ◌∙◌}
use native.Mathlib.Omega.{arith}
use lib.ListN.{length}
use Rattle.plank_core.specs.laws.Putting.{put_as}
use Rattle.report_lines.specs.Lines.{order_line, order_text}
use Rattle.report_lines.proofs.TooLong.{rpo_most}
use Rattle.report_lines.proofs.printing.order_text.Goals as goal

pub order_line-requires : goal.order_line-requires
order_line-requires c = (omega (arith, ap length c.rpo.ensures, rpo_most c.args.visited.visit_stage), c.requires.in_bounds)

pub returns : goal.returns
unfolding order_text
returns c = put_as (ap order_line (c.rpo.ensures ∙ c.args.visited.visit_stage.rpo_is)) c.order_line.ensures
