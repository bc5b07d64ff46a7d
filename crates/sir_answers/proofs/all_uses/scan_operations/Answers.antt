-- `scan_operations` meets its contract. The invariant: the pieces of the operations left are to be put.
use mathlib.Core.Path.{sym, ap}
use mathlib.Core.List.{List, ◌∷◌, []}
use Prim.Native.Nat.{ℕ, ◌+◌, ◌<◌}
use native.Mathlib.Omega.{arith}
use Rattle.plank_core.specs.Lists.{bind, range}
use Rattle.plank_core.specs.laws.Loops.{bind_step, bind_end}
use Rattle.sir_data.specs.Records.{operations, ins}
use Rattle.sir_answers.specs.inner.Scatter.{Pieces}
use Rattle.sir_answers.specs.inner.Pieces.{pieces_at}
use Rattle.sir_answers.proofs.scatter.Scattering.{scattering_none, scattering_as, scattering_fits, scattering_more, scattering_all, scatters_as, fits_as}
use Rattle.sir_answers.proofs.all_uses.scan_operations.Goals as goal

pub loop-o-init : goal.loop-o-init
loop-o-init c =
    scattering_none (rw (c.operations-span.ensures.0, c.operations-span.ensures.1) c.requires.fits)

pub append_each-requires : goal.append_each-requires
append_each-requires c =
    let is = c.op_inputs.ensures in
    let span = c.operations-span in
    let w = c.args.b.image.words.now in
    let b = c.args.b.id.0 in
    let o = c.loop-o.o in
    let g : ℕ → Pieces = λ o. pieces_at (λ k. b ∷ 0 ∷ o ∷ []) (ins w o) 0 in
    let r = c.args.b.image.well_formed.in_range.ops_range b c.args.b.known in
    let h : o < operations w = omega (arith, r.1, span.ensures.1, c.loop-o-test.true) in record { known = λ v m. omega (arith, c.requires.cursors_len, c.loop-o.invariant.wide, c.args.b.image.well_formed.in_range.read o v h (rw is at m)); fits = fits_as (ap (λ (l : List ℕ). pieces_at (λ k. b ∷ 0 ∷ o ∷ []) l 0) (sym is)) (scattering_fits (g o) (bind (range (o + 1) span.result.end) g) (scattering_as (bind_step g o span.result.end c.loop-o-test.true) c.loop-o.invariant)) }

pub loop-o-preserved : goal.loop-o-preserved
loop-o-preserved c =
    let is = c.op_inputs.ensures in
    let last = c.operations-span.result.end in
    let b = c.args.b.id.0 in
    let o = c.loop-o.o in
    let g : ℕ → Pieces = λ o. pieces_at (λ k. b ∷ 0 ∷ o ∷ []) (ins c.args.b.image.words.now o) 0 in
    scattering_more (bind (range (o + 1) last) g) (scattering_as (bind_step g o last c.loop-o-test.true) c.loop-o.invariant) (scatters_as (ap (λ (l : List ℕ). pieces_at (λ k. b ∷ 0 ∷ o ∷ []) l 0) is) c.append_each.ensures)

pub returns : goal.returns
returns c =
    let span = c.operations-span in
    let a = c.args in
    let g : ℕ → Pieces = λ o. pieces_at (λ k. a.b.id.0 ∷ 0 ∷ o ∷ []) (ins a.b.image.words.now o) 0 in
    scatters_as (rw (span.ensures.0, span.ensures.1)) (scattering_all (bind_end g c.loop-o.o span.result.end c.loop-o-test.false) c.loop-o.invariant)
