-- `rule_7` meets its contract: blocks, then operations.
use Rattle.std.proofs.Common.{sym, ◌∙◌}
use Rattle.sir_data.specs.Rules.{rule7}
use Rattle.sir_data.proofs.rules.rule_7.Goals as goal

pub returns-then-not-each_block_fields_ok : goal.returns-then-not-each_block_fields_ok
unfolding rule7
returns-then-not-each_block_fields_ok c = rw (sym c.each_block_fields_ok.ensures ∙ c.if-not-each_block_fields_ok.true)

pub returns : goal.returns
unfolding rule7
returns c = rw (sym c.each_block_fields_ok.ensures ∙ c.if-not-each_block_fields_ok.false, c.each_op_fields_ok.ensures)
