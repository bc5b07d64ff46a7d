-- `send_moved` meets its contract. The invariant: the outputs at the first k positions are added.
use mathlib.Core.Path.{◌≡◌, refl, sym, ap, ◌∙◌}
use mathlib.Core.Bool.{Bool, ◌&&◌, and-false, and-or_distrib_left}
use mathlib.Core.List.{List, map}
use Prim.Native.Nat.{ℕ, ◌*◌, ◌≤◌, ◌<◌}
use lib.ListN.{length, get_or, take}
use lib.Seq.{take_all}
use lib.Dec.{eqb}
use Rattle.plank_core.specs.Lists.{mem}
use Rattle.plank_core.specs.laws.Lists.{get_or_mem}
use Rattle.sir_data.specs.Records.{blocks}
use Rattle.sir_analyses.specs.inner.Tables.{Sends}
use Rattle.sir_analyses.proofs.local_liveness.Growth.{sends_as, sends_then, sends_none, sends_one}
use Rattle.plank_core.specs.laws.Prefixes.{mapped_next}
use Rattle.sir_analyses.proofs.local_liveness.Sending.{output_small}
use native.Mathlib.Omega.{arith}
use Rattle.sir_analyses.proofs.local_liveness.send_moved.Goals as goal

pub loop-at-init : goal.loop-at-init
loop-at-init c =
    (omega arith, sends_none (blocks c.args.p.image.words.now) c.args.exits.now (λ r i h. and-false (eqb r c.args.p.id.0)))

pub bounds-outputs-at : goal.bounds-outputs-at
bounds-outputs-at c =
    let k = c.loop-at.at-index in
    let i : k < length c.args.moved.now = omega arith in
    omega (arith, c.requires.by_index (get_or c.args.moved.now k 0) (get_or_mem c.args.moved.now k 0 i), ap length c.outputs-outputs.ensures)

pub row_add-grew-requires : goal.row_add-grew-requires
row_add-grew-requires c =
    let l = c.loop-at in
    let i : l.at-index < length c.args.moved.now = omega arith in
    let at : ℕ = get_or c.args.moved.now l.at-index 0 in (
      omega (arith, l.invariant.1.adds.long, c.requires.exits_len, c.args.p.known, c.args.p.image.well_formed.sized.blocks_most),
      output_small c.args.p.image.well_formed c.args.p.id.0 c.args.p.known c.outputs-outputs.ensures at
          (omega (arith, c.requires.by_index at (get_or_mem c.args.moved.now l.at-index 0 i), ap length c.outputs-outputs.ensures)),
    )

pub loop-at-preserved : goal.loop-at-preserved
loop-at-preserved c =
    let in_range = c.args.p.known in
    let l = c.loop-at in
    let p : ℕ = c.args.p.id.0 in
    let xs = c.outputs-outputs.result.now in
    let moved = c.args.moved.now in
    let i : l.at-index < length moved = omega arith in
    let at : ℕ = get_or moved l.at-index 0 in
    let small : get_or xs at 0 < 512 =
    output_small c.args.p.image.well_formed p in_range c.outputs-outputs.ensures at (omega (arith, c.requires.by_index at (get_or_mem moved l.at-index 0 i), ap length c.outputs-outputs.ensures)) in
    let long : 8 * blocks c.args.p.image.words.now ≤ length c.args.exits.now = omega (arith, c.requires.exits_len, c.args.p.known, c.args.p.image.well_formed.sized.blocks_most) in
    let r = c.row_add-grew in
    let one : Sends (blocks c.args.p.image.words.now) l.exits (λ q v. eqb q p && eqb v (get_or xs at 0)) r.new.table r.result =
    sends_one (blocks c.args.p.image.words.now) l.exits p in_range (omega (arith, l.invariant.1.adds.long)) (get_or xs at 0) small r.ensures.0 r.ensures.1 in (
      omega arith,
      sends_as
          (λ q v h. sym (and-or_distrib_left (eqb q p) (mem v (map (λ j. get_or xs j 0) (take l.at-index moved))) (eqb v (get_or xs at 0))) ∙ ap (λ (t : Bool). eqb q p && t) (mapped_next (λ j. get_or xs j 0) moved l.at-index i v))
          (sends_then long l.invariant.1 one refl),
    )

pub returns : goal.returns
returns c =
    let l = c.loop-at in
    let p : ℕ = c.args.p.id.0 in
    let xs = c.outputs-outputs.result.now in
    let moved = c.args.moved.now in
    let e : take l.at-index moved ≡ moved = take_all l.at-index moved (omega arith) in
    sends_as (λ q v h. ap (λ (ms : List ℕ). eqb q p && mem v (map (λ j. get_or xs j 0) ms)) e ∙ ap (λ (ys : List ℕ). eqb q p && mem v (map (λ j. get_or ys j 0) moved)) c.outputs-outputs.ensures) l.invariant.1
