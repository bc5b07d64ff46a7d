-- `ask` meets its contract.
use Rattle.sir_analyses.proofs.claims.Proved.{promise}
use Rattle.sir_answers.proofs.ask.ask.Goals as goal

pub returns : goal.returns
returns c =
    record { out_after = rw (c.from.ensures.0, c.from.ensures.1) c.try_ask.ensures; promise = promise c.args.image.now }
