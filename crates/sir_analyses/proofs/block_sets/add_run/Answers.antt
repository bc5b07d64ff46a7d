-- `add_run` meets its contract. The invariant: the first k of the run are added.
use mathlib.Core.Bool.{◌&&◌}
use Prim.Native.Nat.{◌<◌}
use lib.ListN.{length, get_or}
use lib.Dec.{eqb}
use Rattle.plank_core.specs.laws.Lists.{get_or_mem}
use Rattle.sir_analyses.specs.inner.Tables.{Adds}
use Rattle.sir_analyses.proofs.Tables.{adds_as, adds_then, adds_one}
use Rattle.plank_core.specs.laws.Prefixes.{and_next}
use native.Mathlib.Omega.{arith}
use Rattle.sir_analyses.proofs.block_sets.add_run.Goals as goal

pub row_add-requires : goal.row_add-requires
row_add-requires c =
    let l = c.loop-v in
    let i : l.v-index < length c.args.run.now = omega arith in
    (omega (arith, l.invariant.1.long), c.requires.by_index _ (get_or_mem c.args.run.now l.v-index 0 i))

pub loop-v-preserved : goal.loop-v-preserved
loop-v-preserved c =
    let l = c.loop-v in
    let i : l.v-index < length c.args.run.now = omega arith in
    let v = get_or c.args.run.now l.v-index 0 in
    let a : Adds l.table (λ r n. eqb r c.args.row && eqb n v) c.row_add.new.table =
    rw c.row_add.ensures.1 (adds_one l.table c.args.row v (c.requires.by_index v (get_or_mem c.args.run.now l.v-index 0 i))) in
    (omega arith, adds_as (λ r n h. and_next (eqb r c.args.row) c.args.run.now l.v-index i n) (adds_then l.invariant.1 a))
