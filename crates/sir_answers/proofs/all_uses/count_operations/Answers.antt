-- `count_operations` meets its contract. The invariant: the operations left are to be counted.
use mathlib.Core.List.{◌∷◌, []}
use Prim.Native.Nat.{ℕ, ◌+◌}
use native.Mathlib.Omega.{arith}
use Rattle.plank_core.specs.Lists.{bind, range}
use Rattle.plank_core.specs.laws.Loops.{bind_step, bind_end}
use Rattle.sir_answers.specs.inner.Scatter.{Pieces}
use Rattle.sir_answers.specs.inner.Pieces.{blanks}
use Rattle.sir_answers.proofs.scatter.Scattering.{scattering_none, scattering_as, scattering_fits, scattering_more, scattering_all, scatters_as}
use Rattle.sir_answers.proofs.all_uses.count_operations.Goals as goal

pub loop-o-init : goal.loop-o-init
loop-o-init c =
    scattering_none (rw (c.operations-span.ensures.0, c.operations-span.ensures.1) c.requires.fits)

pub advance-requires : goal.advance-requires
advance-requires c =
    let span = c.operations-span in
    let o = c.loop-o.o in
    let g : ℕ → Pieces = λ o. (o, blanks 1) ∷ [] in
    let r = c.args.b.image.well_formed.in_range.ops_range c.args.b.id.0 c.args.b.known in (
      omega (arith, r.1, c.args.b.image.well_formed.sized.operations_most, c.requires.times_len, c.loop-o.invariant.wide, span.ensures.1, c.loop-o-test.true),
      scattering_fits (g o) (bind (range (o + 1) span.result.end) g) (scattering_as (bind_step g o span.result.end c.loop-o-test.true) c.loop-o.invariant),
    )

pub loop-o-preserved : goal.loop-o-preserved
loop-o-preserved c =
    let last = c.operations-span.result.end in
    let o = c.loop-o.o in
    let g : ℕ → Pieces = λ o. (o, blanks 1) ∷ [] in
    scattering_more (bind (range (o + 1) last) g) (scattering_as (bind_step g o last c.loop-o-test.true) c.loop-o.invariant) c.advance.ensures

pub returns : goal.returns
returns c =
    let span = c.operations-span in
    scatters_as (rw (span.ensures.0, span.ensures.1)) (scattering_all (bind_end (λ o. (o, blanks 1) ∷ []) c.loop-o.o span.result.end c.loop-o-test.false) c.loop-o.invariant)
