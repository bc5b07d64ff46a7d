-- `id_refusal` meets its contract.
use mathlib.Core.Path.{refl}
use native.Mathlib.Omega.{arith}
use borrow.Author.Tests.{lt-ltb, le-ltb}
use Rattle.sir_answers.proofs.questions.id_refusal.Goals as goal

pub returns-then-id-count : goal.returns-then-id-count
returns-then-id-count c = rw (lt-ltb c.args.id c.args.count (omega arith)) refl

pub returns : goal.returns
returns c = rw (le-ltb c.args.id c.args.count (omega arith)) refl
