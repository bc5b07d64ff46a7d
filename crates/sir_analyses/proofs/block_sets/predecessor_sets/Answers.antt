-- `predecessor_sets` meets its contract. The invariant: the visited ones among the blocks below p stand in the rows of their successors.
use Rattle.std.proofs.Common.{rules}
use mathlib.Core.Path.{◌≡◌, ap, ◌∙◌}
use mathlib.Core.Bool.{◌&&◌}
use Prim.Native.Nat.{ℕ}
use lib.Dec.{ltb}
use borrow.Author.Tests.{le-ltb}
use Rattle.plank_core.specs.Lists.{mem}
use Rattle.sir_data.specs.Records.{blocks, successors}
use Rattle.sir_analyses.specs.Order.{is_visited}
use Rattle.sir_analyses.proofs.Tables.{cleared_long, cleared_row}
use Rattle.sir_analyses.proofs.block_sets.BlockSets.{pred_test}
use native.Mathlib.Omega.{arith}
use Rattle.sir_analyses.proofs.block_sets.predecessor_sets.Goals as goal

pub loop-p-init : goal.loop-p-init
loop-p-init c = search (rules, arith, cleared_long, cleared_row, le-ltb)

pub returns : goal.returns
returns c =
    let w = c.args.visited.image.words.now in
    let l = c.loop-p in
    let e : l.p ≡ blocks w = omega (arith, c.block_count-count.ensures) in
    record {
      preds_long = l.invariant.1;
      preceded = λ b i k n. l.invariant.2 b i (omega (arith, c.args.visited.visit_stage.well_formed.sized.blocks_most)) n ∙ ap (λ (m : ℕ). ltb i m && (is_visited w i && mem b (successors w i))) e ∙ pred_test c.args.visited.visit_stage.well_formed i b;
    }
