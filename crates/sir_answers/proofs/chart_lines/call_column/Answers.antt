-- `call_column` meets its contract.
use mathlib.Core.Path.{refl, sym, ◌∙◌}
use Rattle.sir_answers.proofs.chart_lines.call_column.Goals as goal

pub returns-then-is_call : goal.returns-then-is_call
returns-then-is_call c = rw (sym c.is_call.ensures ∙ c.if-is_call.true) refl

pub returns : goal.returns
returns c = rw (sym c.is_call.ensures ∙ c.if-is_call.false) refl
