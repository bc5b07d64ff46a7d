-- `rule_8` meets its contract: a part that fails decides, and the last where the others hold.
use Rattle.std.proofs.Common.{sym, ◌∙◌}
use mathlib.Core.Bool.{and-false}
use Rattle.sir_data.specs.Rules.{rule8}
use Rattle.sir_data.proofs.rules.rule_8.Goals as goal

pub returns-then-not-functions_ok : goal.returns-then-not-functions_ok
unfolding rule8
returns-then-not-functions_ok c = rw (sym c.functions_ok.ensures ∙ c.if-not-functions_ok.true)

pub returns-then-not-each_block_ids_ok : goal.returns-then-not-each_block_ids_ok
unfolding rule8
returns-then-not-each_block_ids_ok c = rw (sym c.each_block_ids_ok.ensures ∙ c.if-not-each_block_ids_ok.true, and-false)

pub returns-then-not-each_op_ids_ok : goal.returns-then-not-each_op_ids_ok
unfolding rule8
returns-then-not-each_op_ids_ok c = rw (sym c.each_op_ids_ok.ensures ∙ c.if-not-each_op_ids_ok.true, and-false)

pub returns-then-not-operands_ok : goal.returns-then-not-operands_ok
unfolding rule8
returns-then-not-operands_ok c = rw (sym c.operands_ok.ensures ∙ c.if-not-operands_ok.true, and-false)

pub returns : goal.returns
unfolding rule8
returns c =
    rw (sym c.functions_ok.ensures ∙ c.if-not-functions_ok.false, sym c.each_block_ids_ok.ensures ∙ c.if-not-each_block_ids_ok.false, sym c.each_op_ids_ok.ensures ∙ c.if-not-each_op_ids_ok.false, sym c.operands_ok.ensures ∙ c.if-not-operands_ok.false, c.targets_ok.ensures)
