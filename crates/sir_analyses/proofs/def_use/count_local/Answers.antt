-- `count_local` meets its contract: the elements that are counted stand at the positions of the local.
use mathlib.Core.Path.{◌≡◌, ◌∙◌}
use lib.Dec.{eqb}
use Rattle.std.specs.List.{count_by}
use Rattle.std.proofs.Common.{rules}
use Rattle.std.proofs.iter.runs.Made.{chains}
use Rattle.sir_analyses.proofs.def_use.UseWords.{places_counted}
use Rattle.sir_analyses.proofs.def_use.count_local.Goals as goal
use Rattle.sir_analyses.proofs.def_use.count_local.Goals.{After-count}

counted : (c : After-count) → c.count.result ≡ count_by (λ x. eqb x c.args.local.0) c.args.run.now
counted c = search (rules, chains)

pub returns : goal.returns
returns c = counted c ∙ places_counted c.args.local.0 c.args.run.now 0
