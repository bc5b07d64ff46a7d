-- `send_all` meets its contract. The invariant: the first k blocks have what is sent.
use mathlib.Core.Path.{refl, ap}
use mathlib.Core.Bool.{◌&&◌}
use mathlib.Core.List.{List}
use Prim.Native.Nat.{ℕ, ◌*◌, ◌≤◌, ◌<◌}
use lib.ListN.{length, get_or}
use lib.Seq.{take_all}
use Rattle.plank_core.specs.Lists.{mem, ◌∈◌}
use Rattle.plank_core.specs.laws.Lists.{get_or_mem}
use Rattle.sir_data.specs.Records.{blocks}
use Rattle.sir_analyses.specs.inner.Tables.{arrives}
use Rattle.sir_analyses.proofs.local_liveness.Growth.{sends_as, sends_then, sends_none}
use Rattle.plank_core.specs.laws.Prefixes.{and_taken}
use native.Mathlib.Omega.{arith}
use Rattle.sir_analyses.proofs.local_liveness.send_all.Goals as goal

pub loop-p-init : goal.loop-p-init
loop-p-init c =
    (omega arith, sends_none (blocks c.args.image.words.now) c.args.exits.now (λ q i h. refl))

pub invariant_of-block : goal.invariant_of-block
invariant_of-block c =
    let l = c.loop-p in
    let i : l.p-index < length c.args.ids.now = omega arith in
    let m : get_or c.args.ids.now l.p-index 0 ∈ c.args.ids.now = get_or_mem c.args.ids.now l.p-index 0 i in
    record { known = c.requires.by_index _ m }

pub send_to-grew-requires : goal.send_to-grew-requires
send_to-grew-requires c =
    let l = c.loop-p in
    let i : l.p-index < length c.args.ids.now = omega arith in
    let m : get_or c.args.ids.now l.p-index 0 ∈ c.args.ids.now = get_or_mem c.args.ids.now l.p-index 0 i in
    record { set_len = (c.requires.set_len.0, omega (arith, l.invariant.1.adds.long, c.requires.set_len)); by_index = λ k n. c.requires.by_index_2 _ k m n }

pub loop-p-preserved : goal.loop-p-preserved
loop-p-preserved c =
    let w = c.args.image.words.now in
    let l = c.loop-p in
    let i : l.p-index < length c.args.ids.now = omega arith in
    let long : 8 * blocks w ≤ length c.args.exits.now = omega (arith, c.requires.set_len, c.args.image.well_formed.sized.blocks_most) in
    let r = c.send_to-grew in (
      omega arith,
      sends_as (λ q v h. and_taken c.args.ids.now l.p-index i (λ x. arrives w c.args.set.now c.args.moved.now x v) q)
          (sends_then long l.invariant.1 r.ensures refl),
    )

pub returns : goal.returns
returns c =
    let l = c.loop-p in
    sends_as (λ q v h. ap (λ (ps : List ℕ). mem q ps && arrives c.args.image.words.now c.args.set.now c.args.moved.now q v) (take_all l.p-index c.args.ids.now (omega arith))) l.invariant.1
