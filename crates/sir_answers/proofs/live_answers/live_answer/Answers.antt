-- `live_answer` meets its contract.
use Rattle.sir_answers.proofs.live_answers.live_answer.Goals as goal

pub returns : goal.returns
returns c =
    c.answer_from_sets.ensures
