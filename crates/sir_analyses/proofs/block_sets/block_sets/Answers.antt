-- `block_sets` meets its contract. The invariant: the rows of the first b blocks are filled, and the two sets are those of the range
-- `kept`.
use mathlib.Core.Path.{refl}
use Prim.Native.Nat.{◌<◌}
use Rattle.sir_data.specs.Records.{blocks}
use Rattle.sir_analyses.specs.Liveness.{has, use_set}
use Rattle.sir_analyses.specs.inner.Stages.{uses_in}
use Rattle.sir_analyses.proofs.Tables.{filled_not}
use Rattle.sir_analyses.proofs.block_sets.BlockSets.{range_sets_start}
use Rattle.sir_analyses.proofs.local_liveness.LivenessTables.{blocks_none, blocks_operands, blocks_more, blocks_all}
use native.Mathlib.Omega.{arith}
use Rattle.sir_analyses.proofs.block_sets.block_sets.Goals as goal

pub loop-b-init : goal.loop-b-init
loop-b-init c = (omega arith, blocks_none c.args.image.words.now c.args.live.now c.requires.operand_rows.1, range_sets_start refl refl)

pub update_range_sets-kept-requires : goal.update_range_sets-kept-requires
update_range_sets-kept-requires c =
    let p = c.requires in
    record { operand_rows = blocks_operands c.loop-b.invariant.1 p.operand_rows.1.long p.operand_rows.0; range_sets = c.loop-b.invariant.2 }

pub block_rows-requires : goal.block_rows-requires
block_rows-requires c =
    let w = c.args.image.words.now in
    let l = c.loop-b in
    let h : l.b < blocks w = omega (arith, c.block_count-count.ensures) in
    let k : l.b < 256 = omega (arith, c.args.image.well_formed.sized.blocks_most) in
    record { range_sets = c.update_range_sets-kept.ensures.range_sets_2; by_index = filled_not (uses_in l.live) 256 l.b (λ b v. has (use_set w b) v) k l.invariant.1.used }

pub loop-b-preserved : goal.loop-b-preserved
loop-b-preserved c =
    let t = c.update_range_sets-kept.ensures in
    (omega arith, blocks_more c.loop-b.invariant.1 c.block_rows.ensures, rw t.end_value t.range_sets_2)

pub returns : goal.returns
returns c =
    blocks_all c.loop-b.invariant.1 c.args.image.well_formed (omega (arith, c.block_count-count.ensures))
