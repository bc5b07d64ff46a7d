-- `prepend` meets its contract.
use mathlib.Core.Path.{refl}
use Rattle.sir_answers.specs.inner.Scatter.{backward}
use Rattle.sir_answers.proofs.scatter.Scattering.{scatters_one}
use Rattle.sir_answers.proofs.scatter.prepend.Goals as goal

pub returns : goal.returns
returns c =
    let a = c.args in
    scatters_one backward a.id a.words.now a.cursors.now a.out.now refl c.put_words.ensures.left
