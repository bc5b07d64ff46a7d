-- `rule_6` meets its contract: the pages, then the padding.
use Rattle.std.proofs.Common.{eq-eqb, ne_eqb}
use Rattle.sir_data.specs.Rules.{rule6}
use Rattle.sir_data.proofs.rules.rule_6.Goals as goal

pub returns-then-words-pages_for : goal.returns-then-words-pages_for
unfolding rule6
returns-then-words-pages_for c = rw (← c.word_count-n.ensures, ← c.pages_for.ensures, ne_eqb _ _ c.if-words-pages_for.true)

pub returns : goal.returns
unfolding rule6
returns c = rw (← c.word_count-n.ensures, ← c.pages_for.ensures, eq-eqb _ _ c.if-words-pages_for.false) c.padding_bad.ensures
