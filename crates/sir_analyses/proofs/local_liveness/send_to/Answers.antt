-- `send_to` meets its contract.
use mathlib.Core.Path.{refl, sym}
use mathlib.Core.Bool.{and-or_distrib_left}
use Prim.Native.Nat.{ℕ, ◌*◌, ◌≤◌}
use lib.ListN.{length}
use lib.Dec.{eqb}
use Rattle.plank_core.specs.Lists.{mem}
use Rattle.plank_core.specs.inner.DenseIndexSet.{contains}
use Rattle.sir_data.specs.Records.{blocks}
use Rattle.sir_analyses.specs.inner.Tables.{outputs_at}
use Rattle.sir_analyses.proofs.local_liveness.Growth.{sends_as, sends_then, sends_union}
use native.Mathlib.Omega.{arith}
use Rattle.sir_analyses.proofs.local_liveness.send_to.Goals as goal

pub returns : goal.returns
returns c =
    let w = c.args.p.image.words.now in
    let p : ℕ = c.args.p.id.0 in
    let long : 8 * blocks w ≤ length c.args.exits.now = omega (arith, c.requires.set_len, c.args.p.known, c.args.p.image.well_formed.sized.blocks_most) in
    let u = c.row_union_with-passed in
    sends_as (λ q v h. sym (and-or_distrib_left (eqb q p) (contains c.args.set.now v) (mem v (outputs_at w p c.args.moved.now))))
    (sends_then long (sends_union (blocks w) c.args.exits.now p c.args.p.known long c.args.set.now u.ensures.0 u.ensures.1) c.send_moved.ensures refl)
