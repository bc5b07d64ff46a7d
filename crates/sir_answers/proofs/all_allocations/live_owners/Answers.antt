-- `live_owners` meets its contract.
use mathlib.Core.Path.{refl}
use lib.ListN.{take}
use Rattle.sir_answers.proofs.all_allocations.SweptEnds.{live_listed}
use Rattle.sir_answers.proofs.all_allocations.live_owners.Goals as goal

pub returns : goal.returns
returns c =
    (c.list_row.ensures.0, live_listed c.args.owned.now c.args.set.now (take c.list_owned-n.result c.list_owned-n.new.ids) _ refl c.split_owners.ensures c.requires.by_index.1 c.list_owned-n.ensures.1 c.list_row.ensures.1)
