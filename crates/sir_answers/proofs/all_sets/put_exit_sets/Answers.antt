-- `put_exit_sets` meets its contract. The invariant: the answers from id b on are to be put.
use mathlib.Core.Path.{sym, ap, ◌∙◌}
use mathlib.Core.List.{List, ◌∷◌}
use Prim.Native.Nat.{ℕ}
use lib.ListN.{length}
use Rattle.plank_core.specs.Lists.{bind, upto}
use Rattle.plank_core.specs.inner.DenseIndexSet.{members, row_of}
use Rattle.plank_core.specs.laws.DenseIndexSet.{length_row}
use Rattle.sir_analyses.specs.Answers.{exit_answer}
use Rattle.sir_analyses.proofs.answers.Writing.{putting_none, putting_as, putting_more, putting_all, puts_as}
use native.Mathlib.Omega.{arith}
use Rattle.plank_core.specs.laws.Loops.{bind_all, bind_step, bind_end}
use Rattle.sir_answers.proofs.all_sets.put_exit_sets.Goals as goal

pub loop-b-init : goal.loop-b-init
loop-b-init c =
    (omega arith, putting_as (ap (λ (n : ℕ). bind (upto n) (λ i. length (exit_answer c.args.sets.image.words.now i) ∷ exit_answer c.args.sets.image.words.now i)) (sym c.block_count-count.ensures) ∙ bind_all (λ i. length (exit_answer c.args.sets.image.words.now i) ∷ exit_answer c.args.sets.image.words.now i) c.block_count-count.result) putting_none)

pub put_set-m-requires : goal.put_set-m-requires
put_set-m-requires c =
    (ap length c.row_of.ensures ∙ length_row c.exits-table.result.now c.loop-b.b (omega (arith, ap length c.exits-table.ensures ∙ c.args.sets.liveness_stage.sets.exits_long, c.loop-b-test.true, c.block_count-count.ensures, c.args.sets.liveness_stage.well_formed.sized.blocks_most)), omega (arith, c.loop-b.invariant.0, c.loop-b-test.true, c.block_count-count.ensures, c.args.sets.liveness_stage.well_formed.sized.blocks_most))

pub loop-b-preserved : goal.loop-b-preserved
loop-b-preserved c =
    let w = c.args.sets.image.words.now in
    (omega (arith, c.put_set-m.ensures.0, c.loop-b.invariant.0), putting_more (putting_as (bind_step (λ i. length (exit_answer w i) ∷ exit_answer w i) c.loop-b.b c.block_count-count.result c.loop-b-test.true) c.loop-b.invariant.1) (puts_as (ap (λ (l : List ℕ). length l ∷ l) (ap members (c.row_of.ensures ∙ ap (λ (t : List ℕ). row_of t c.loop-b.b) c.exits-table.ensures) ∙ c.args.sets.liveness_stage.sets.exit_is c.loop-b.b (omega (arith, c.loop-b-test.true, c.block_count-count.ensures)))) c.put_set-m.ensures.1))

pub returns : goal.returns
returns c =
    (omega (arith, c.loop-b.invariant.0, c.block_count-count.ensures, c.args.sets.liveness_stage.well_formed.sized.blocks_most), putting_all (bind_end (λ i. length (exit_answer c.args.sets.image.words.now i) ∷ exit_answer c.args.sets.image.words.now i) c.loop-b.b c.block_count-count.result c.loop-b-test.false) c.loop-b.invariant.1)
