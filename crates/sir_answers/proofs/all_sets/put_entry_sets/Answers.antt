-- `put_entry_sets` meets its contract. The invariant: the answers from id b on are to be put.
use mathlib.Core.Path.{sym, ap, ◌∙◌}
use mathlib.Core.List.{◌∷◌}
use Prim.Native.Nat.{ℕ}
use lib.ListN.{length}
use Rattle.plank_core.specs.Lists.{bind, upto}
use Rattle.sir_analyses.specs.Answers.{entry_answer}
use Rattle.sir_analyses.proofs.answers.Writing.{putting_none, putting_as, putting_more, putting_all}
use native.Mathlib.Omega.{arith}
use Rattle.plank_core.specs.laws.Loops.{bind_all, bind_step, bind_end}
use Rattle.sir_answers.proofs.all_sets.put_entry_sets.Goals as goal

pub loop-b-init : goal.loop-b-init
loop-b-init c =
    (omega arith, putting_as (ap (λ (n : ℕ). bind (upto n) (λ i. length (entry_answer c.args.analysed.image.words.now i) ∷ entry_answer c.args.analysed.image.words.now i)) (sym c.block_count-count.ensures) ∙ bind_all (λ i. length (entry_answer c.args.analysed.image.words.now i) ∷ entry_answer c.args.analysed.image.words.now i) c.block_count-count.result) putting_none)

pub loop-b-preserved : goal.loop-b-preserved
loop-b-preserved c =
    let w = c.args.analysed.image.words.now in
    (omega (arith, c.put_entry_set-m.ensures.0, c.loop-b.invariant.0), putting_more (putting_as (bind_step (λ i. length (entry_answer w i) ∷ entry_answer w i) c.loop-b.b c.block_count-count.result c.loop-b-test.true) c.loop-b.invariant.1) c.put_entry_set-m.ensures.1)

pub returns : goal.returns
returns c =
    (omega (arith, c.loop-b.invariant.0, c.block_count-count.ensures, c.args.analysed.visit_stage.well_formed.sized.blocks_most), putting_all (bind_end (λ i. length (entry_answer c.args.analysed.image.words.now i) ∷ entry_answer c.args.analysed.image.words.now i) c.loop-b.b c.block_count-count.result c.loop-b-test.false) c.loop-b.invariant.1)
