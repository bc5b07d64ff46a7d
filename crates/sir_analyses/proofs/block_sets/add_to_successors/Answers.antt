-- `add_to_successors` meets its contract. The invariant: p stands in the rows of its first i successors.
use mathlib.Core.Bool.{◌&&◌, and_comm}
use Prim.Native.Nat.{◌≤◌, ◌<◌}
use lib.ListN.{length, get_or}
use lib.Dec.{eqb}
use Rattle.plank_core.specs.laws.Lists.{get_or_mem}
use Rattle.sir_data.specs.Records.{successors}
use Rattle.sir_analyses.specs.inner.Tables.{Adds}
use Rattle.sir_analyses.proofs.Tables.{adds_as, adds_then, adds_one}
use Rattle.plank_core.specs.laws.Prefixes.{and_next, and_all}
use native.Mathlib.Omega.{arith}
use Rattle.sir_analyses.proofs.block_sets.add_to_successors.Goals as goal

pub row_add-requires : goal.row_add-requires
row_add-requires c =
    let blocks_most = c.args.p.image.well_formed.sized.blocks_most in
    let l = c.loop-i in
    let w = c.args.p.image.words.now in
    let i : l.i < length (successors w c.args.p.id.0) = omega (arith, c.successor_count-count.ensures) in
    let b = c.args.p.image.well_formed.in_range.successor c.args.p.id.0 _ c.args.p.known (get_or_mem (successors w c.args.p.id.0) l.i 0 i) in
    (omega (arith, l.invariant.1.long, b, c.successor-s.ensures, blocks_most), omega (arith, blocks_most))

pub loop-i-preserved : goal.loop-i-preserved
loop-i-preserved c =
    let l = c.loop-i in
    let w = c.args.p.image.words.now in
    let p = c.args.p.id.0 in
    let i : l.i < length (successors w p) = omega (arith, c.successor_count-count.ensures) in
    let a : Adds l.preds (λ b n. eqb n p && eqb b (get_or (successors w p) l.i 0)) c.row_add.new.table =
    rw (c.row_add.ensures.1, c.successor-s.ensures)
    (adds_as (λ b n h. and_comm (eqb b (get_or (successors w p) l.i 0)) (eqb n p)) (adds_one l.preds (get_or (successors w p) l.i 0) p (omega (arith, c.args.p.image.well_formed.sized.blocks_most)))) in
    (omega arith, adds_as (λ b n h. and_next (eqb n p) (successors w p) l.i i b) (adds_then l.invariant.1 a))

pub returns : goal.returns
returns c =
    let l = c.loop-i in
    let e : length (successors c.args.p.image.words.now c.args.p.id.0) ≤ l.i = omega (arith, c.successor_count-count.ensures) in
    adds_as (λ r n h. and_all (eqb n c.args.p.id.0) (successors c.args.p.image.words.now c.args.p.id.0) l.i e r) l.invariant.1
