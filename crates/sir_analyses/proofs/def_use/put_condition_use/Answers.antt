-- `put_condition_use` meets its contract.
use mathlib.Core.Path.{sym, ◌∙◌}
use Rattle.sir_analyses.proofs.answers.Writing.{puts_as, puts_nothing}
use Rattle.sir_analyses.proofs.def_use.UseWords.{no_condition_use}
use Rattle.sir_analyses.proofs.def_use.put_condition_use.Goals as goal

pub returns : goal.returns
returns c =
    puts_as (sym (no_condition_use c.args.b.image.words.now c.args.local.0 c.args.b.id.0 (sym c.is_condition.ensures ∙ c.if-is_condition.false))) puts_nothing
