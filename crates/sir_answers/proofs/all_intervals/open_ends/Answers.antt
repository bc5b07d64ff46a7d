-- `open_ends` meets its contract. The invariant: what is left decides.
use mathlib.Core.Path.{refl, sym, ◌∙◌}
use Prim.Native.Nat.{◌<◌}
use native.Mathlib.Omega.{arith}
use lib.ListN.{length, get_or}
use Rattle.plank_core.specs.laws.Lists.{get_or_mem}
use Rattle.sir_answers.proofs.all_intervals.OpenEnds.{open_next, open_skip, open_end_lem}
use Rattle.sir_answers.proofs.all_intervals.open_ends.Goals as goal
use Rattle.sir_answers.proofs.all_intervals.open_ends.Goals.{then-till-v-eq0, else-till-v-eq0}

pub loop-id-init : goal.loop-id-init
loop-id-init c = λ v. refl

pub bounds-till-v : goal.bounds-till-v
bounds-till-v c =
    omega (arith, c.requires (get_or c.args.ids.now c.loop-id.id-index 0) (get_or_mem c.args.ids.now c.loop-id.id-index 0 c.loop-id-test.true), c.loop-id.auto.till)

pub bounds-till-v-then-till-v-eq0 : goal.bounds-till-v-then-till-v-eq0
bounds-till-v-then-till-v-eq0 c =
    omega (arith, c.requires (get_or c.args.ids.now c.loop-id.id-index 0) (get_or_mem c.args.ids.now c.loop-id.id-index 0 c.loop-id-test.true), c.loop-id.auto.till)

pub loop-id-preserved : goal.loop-id-preserved
loop-id-preserved c =
    let L = c.loop-id in
    let a = c.args in
    let ids = a.ids.now in
    let x = get_or ids L.id-index 0 in
    let h = c.loop-id-test.true in
    let l : x < length L.till = omega (arith, c.requires x (get_or_mem ids L.id-index 0 h), L.auto.till) in
    elim c.if-till-v-eq0.branch [
      | then-till-v-eq0 w ↦ rw w.till-is (λ v. open_next ids L.id-index h L.till a.to l v w.if-till-v-eq0.true ∙ L.invariant v)
      | else-till-v-eq0 w ↦ rw w.till-is (λ v. open_skip ids L.id-index h L.till a.to l v w.if-till-v-eq0.false ∙ L.invariant v)
    ]

pub returns : goal.returns
returns c =
    let L = c.loop-id in
    let a = c.args in
    λ v. sym (open_end_lem a.ids.now L.id-index c.loop-id-test.false L.till a.to v) ∙ L.invariant v
