-- `series_count` meets its contract.
use mathlib.Core.Path.{refl}
use borrow.Author.Tests.{eq-eqb, ne_eqb}
use Rattle.sir_answers.proofs.chart.series_count.Goals as goal

pub returns-then-allocations-eq0 : goal.returns-then-allocations-eq0
returns-then-allocations-eq0 c = rw (eq-eqb c.args.allocations 0 c.if-allocations-eq0.true) refl

pub returns : goal.returns
returns c = rw (ne_eqb c.args.allocations 0 c.if-allocations-eq0.false) refl
