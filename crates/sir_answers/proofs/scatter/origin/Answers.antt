-- `origin` meets its contract.
use Rattle.sir_answers.proofs.scatter.origin.Goals as goal

pub returns-then-ends : goal.returns-then-ends
returns-then-ends c = rw c.if-ends.true

pub returns : goal.returns
returns c = rw c.if-ends.false
