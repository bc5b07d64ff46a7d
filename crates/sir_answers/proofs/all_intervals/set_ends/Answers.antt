-- `set_ends` meets its contract. The invariant: what is left decides.
use mathlib.Core.Path.{refl, sym, ◌∙◌}
use Prim.Native.Nat.{◌<◌}
use native.Mathlib.Omega.{arith}
use lib.ListN.{length, get_or}
use Rattle.plank_core.specs.laws.Lists.{get_or_mem}
use Rattle.sir_answers.proofs.all_intervals.OpenEnds.{set_next, set_end}
use Rattle.sir_answers.proofs.all_intervals.set_ends.Goals as goal

pub loop-v-init : goal.loop-v-init
loop-v-init c = λ v. refl

pub bounds-till-v : goal.bounds-till-v
bounds-till-v c =
    let L = c.loop-v in
    omega (arith, c.requires (get_or c.args.ids.now L.v-index 0) (get_or_mem c.args.ids.now L.v-index 0 c.loop-v-test.true), L.auto.till)

pub loop-v-preserved : goal.loop-v-preserved
loop-v-preserved c =
    let L = c.loop-v in
    let a = c.args in
    let ids = a.ids.now in
    let x = get_or ids L.v-index 0 in
    let h = c.loop-v-test.true in
    let l : x < length L.till = omega (arith, c.requires x (get_or_mem ids L.v-index 0 h), L.auto.till) in
    λ v. set_next ids L.v-index h L.till a.to l v ∙ L.invariant v

pub returns : goal.returns
returns c =
    let L = c.loop-v in
    let a = c.args in
    λ v. sym (set_end a.ids.now L.v-index c.loop-v-test.false L.till a.to v) ∙ L.invariant v
