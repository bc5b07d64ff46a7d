-- `digit_for` meets its contract.
use mathlib.Core.Path.{refl}
use native.Mathlib.Omega.{arith}
use borrow.Author.Tests.{lt-ltb, le-ltb}
use Rattle.sir_answers.proofs.chart_lines.digit_for.Goals as goal

pub returns-then-n-unit : goal.returns-then-n-unit
returns-then-n-unit c = rw (lt-ltb c.args.n c.args.unit (omega arith)) refl

pub returns : goal.returns
returns c = rw (le-ltb c.args.n c.args.unit (omega arith)) refl
