-- `count_inputs` meets its contract. The invariant: the inputs of the operations left are to be counted.
use mathlib.Core.Path.{sym, ap}
use mathlib.Core.List.{List}
use Prim.Native.Nat.{ℕ, ◌+◌, ◌*◌, ◌<◌}
use native.Mathlib.Omega.{arith}
use lib.ListN.{get_or}
use Rattle.plank_core.specs.Lists.{bind, range}
use Rattle.plank_core.specs.laws.Loops.{range_all, bind_step, bind_end}
use Rattle.sir_data.specs.Records.{operations, ins}
use Rattle.sir_answers.specs.inner.Scatter.{Pieces}
use Rattle.sir_answers.specs.inner.Pieces.{pieces_at, blanks}
use Rattle.sir_answers.proofs.scatter.Scattering.{scattering_none, scattering_as, scattering_fits, scattering_more, scattering_all, scatters_as, fits_as}
use Rattle.sir_answers.proofs.all_uses.UsePieces.{ones_most}
use Rattle.sir_answers.proofs.all_uses.count_inputs.Goals as goal

pub loop-o-init : goal.loop-o-init
loop-o-init c =
    scattering_as (rw (c.operation_count-last.ensures, range_all)) (scattering_none c.requires.fits)

pub overflow_mul-times : goal.overflow_mul-times
overflow_mul-times c =
    let o = c.loop-o.o in
    omega (arith, c.requires.operation_times.0.times_is o (omega (arith, c.operation_count-last.ensures, c.loop-o-test.true)), ones_most c.args.image.words.now c.args.image.well_formed o)

pub advance_each-requires : goal.advance_each-requires
advance_each-requires c =
    let is = c.op_inputs.ensures in
    let w = c.args.image.words.now in
    let o = c.loop-o.o in
    let n = 3 * get_or c.args.times.now o 0 in
    let last = c.operation_count-last.result in
    let g : ℕ → Pieces = λ o. pieces_at (λ k. blanks (3 * get_or c.args.times.now o 0)) (ins w o) 0 in
    let h : o < operations w = omega (arith, c.operation_count-last.ensures, c.loop-o-test.true) in record { known = λ v m. omega (arith, c.requires.operation_times.1, c.loop-o.invariant.wide, c.args.image.well_formed.in_range.read o v h (rw is at m)); fits = fits_as (ap (λ (l : List ℕ). pieces_at (λ k. blanks n) l 0) (sym is)) (scattering_fits (g o) (bind (range (o + 1) last) g) (scattering_as (bind_step g o last c.loop-o-test.true) c.loop-o.invariant)) }

pub loop-o-preserved : goal.loop-o-preserved
loop-o-preserved c =
    let is = c.op_inputs.ensures in
    let o = c.loop-o.o in
    let n = 3 * get_or c.args.times.now o 0 in
    let last = c.operation_count-last.result in
    let g : ℕ → Pieces = λ o. pieces_at (λ k. blanks (3 * get_or c.args.times.now o 0)) (ins c.args.image.words.now o) 0 in
    scattering_more (bind (range (o + 1) last) g) (scattering_as (bind_step g o last c.loop-o-test.true) c.loop-o.invariant) (scatters_as (ap (λ (l : List ℕ). pieces_at (λ k. blanks n) l 0) is) c.advance_each.ensures)

pub returns : goal.returns
returns c =
    let a = c.args in
    let g : ℕ → Pieces = λ o. pieces_at (λ k. blanks (3 * get_or a.times.now o 0)) (ins a.image.words.now o) 0 in
    scattering_all (bind_end g c.loop-o.o c.operation_count-last.result c.loop-o-test.false) c.loop-o.invariant
