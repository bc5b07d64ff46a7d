-- `put_owners` meets its contract. The invariant: the answers from id v on are to be put.
use mathlib.Core.Path.{sym, ap, ◌∙◌}
use mathlib.Core.List.{[], ◌∷◌}
use Prim.Native.Nat.{ℕ}
use lib.ListN.{length}
use Rattle.plank_core.specs.Lists.{bind, upto}
use Rattle.sir_analyses.specs.Answers.{owner_answer}
use Rattle.sir_analyses.proofs.answers.Writing.{putting_none, putting_as, putting_more, putting_all, puts_as}
use native.Mathlib.Omega.{arith}
use Rattle.plank_core.specs.laws.Loops.{bind_all, bind_step, bind_end}
use Rattle.sir_answers.proofs.all_sets.put_owners.Goals as goal

pub loop-v-init : goal.loop-v-init
loop-v-init c =
    (omega arith, putting_as (ap (λ (n : ℕ). bind (upto n) (λ i. length (owner_answer c.args.pointed.image.words.now i) ∷ owner_answer c.args.pointed.image.words.now i)) (sym c.local_count-count.ensures) ∙ bind_all (λ i. length (owner_answer c.args.pointed.image.words.now i) ∷ owner_answer c.args.pointed.image.words.now i) c.local_count-count.result) putting_none)

pub loop-v-preserved : goal.loop-v-preserved
loop-v-preserved c =
    let w = c.args.pointed.image.words.now in
    (omega (arith, c.put_words-m.ensures.next, c.loop-v.invariant.0), putting_more (putting_as (bind_step (λ i. length (owner_answer w i) ∷ owner_answer w i) c.loop-v.v c.local_count-count.result c.loop-v-test.true) c.loop-v.invariant.1) (puts_as (ap (λ (o : ℕ). 1 ∷ o ∷ []) (c.owner_of.ensures ∙ c.args.pointed.pointer_stage.discovered.owner_is c.loop-v.v (omega (arith, c.loop-v-test.true, c.local_count-count.ensures)))) c.put_words-m.ensures))

pub returns : goal.returns
returns c =
    (omega (arith, c.loop-v.invariant.0, c.local_count-count.ensures, c.args.pointed.pointer_stage.well_formed.sized.locals_most), putting_all (bind_end (λ i. length (owner_answer c.args.pointed.image.words.now i) ∷ owner_answer c.args.pointed.image.words.now i) c.loop-v.v c.local_count-count.result c.loop-v-test.false) c.loop-v.invariant.1)
