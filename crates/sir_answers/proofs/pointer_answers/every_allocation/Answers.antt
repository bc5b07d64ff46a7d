-- `every_allocation` meets its contract.
use Rattle.sir_answers.proofs.pointer_answers.every_allocation.Goals as goal

pub returns : goal.returns
returns c = c.all_allocations_answer.ensures
