-- `append` meets its contract.
use mathlib.Core.Path.{ap}
use lib.ListN.{set}
use Rattle.sir_answers.specs.inner.Scatter.{forward}
use Rattle.sir_answers.proofs.scatter.Scattering.{scatters_one}
use Rattle.sir_answers.proofs.scatter.append.Goals as goal

pub returns : goal.returns
returns c =
    let a = c.args in
    let p = c.put_words.ensures in
    scatters_one forward a.id a.words.now a.cursors.now a.out.now (ap (set a.cursors.now a.id) p.next) p.left
