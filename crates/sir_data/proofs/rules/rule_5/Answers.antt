-- `rule_5` meets its contract: a test that holds decides, and the last where the others fail.
use mathlib.Core.Bool.{or-true}
use Rattle.std.proofs.Common.{le-ltb, lt-ltb, eq-eqb, ne_eqb}
use Rattle.sir_data.specs.Rules.{rule5}
use Rattle.sir_data.proofs.rules.rule_5.Goals as goal

pub returns-then-functions-gt64 : goal.returns-then-functions-gt64
unfolding rule5
returns-then-functions-gt64 c = rw (lt-ltb 64 _ c.if-functions-gt64.true)

pub returns-then-blocks-gt256 : goal.returns-then-blocks-gt256
unfolding rule5
returns-then-blocks-gt256 c = rw (lt-ltb 256 _ c.if-blocks-gt256.true, or-true)

pub returns-then-operations-gt1024 : goal.returns-then-operations-gt1024
unfolding rule5
returns-then-operations-gt1024 c = rw (lt-ltb 1024 _ c.if-operations-gt1024.true, or-true)

pub returns-then-operands-gt4096 : goal.returns-then-operands-gt4096
unfolding rule5
returns-then-operands-gt4096 c = rw (lt-ltb 4096 _ c.if-operands-gt4096.true, or-true)

pub returns-then-targets-gt512 : goal.returns-then-targets-gt512
unfolding rule5
returns-then-targets-gt512 c = rw (lt-ltb 512 _ c.if-targets-gt512.true, or-true)

pub returns-then-locals-gt512 : goal.returns-then-locals-gt512
unfolding rule5
returns-then-locals-gt512 c = rw (lt-ltb 512 _ c.if-locals-gt512.true, or-true)

pub returns-then-functions-eq0 : goal.returns-then-functions-eq0
unfolding rule5
returns-then-functions-eq0 c = rw (eq-eqb _ 0 c.if-functions-eq0.true, or-true)

pub returns : goal.returns
unfolding rule5
returns c = rw (le-ltb 64 _ c.if-functions-gt64.false, le-ltb 256 _ c.if-blocks-gt256.false, le-ltb 1024 _ c.if-operations-gt1024.false, le-ltb 4096 _ c.if-operands-gt4096.false, le-ltb 512 _ c.if-targets-gt512.false, le-ltb 512 _ c.if-locals-gt512.false, ne_eqb _ 0 c.if-functions-eq0.false)
