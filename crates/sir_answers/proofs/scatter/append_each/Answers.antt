-- `append_each` meets its contract. The invariant: the pieces of the ids left are to be put.
use mathlib.Core.Path.{refl}
use mathlib.Core.List.{List}
use Prim.Native.Nat.{ℕ, ◌<◌}
use native.Mathlib.Omega.{arith}
use lib.ListN.{length, get_or}
use Rattle.plank_core.specs.laws.Lists.{get_or_mem}
use Rattle.sir_answers.proofs.scatter.Scattering.{scattering_none}
use Rattle.sir_answers.proofs.scatter.PieceLaws.{piece_fits, piece_more, piece_all}
use Rattle.sir_answers.proofs.scatter.append_each.Goals as goal

pub loop-id-init : goal.loop-id-init
loop-id-init c = scattering_none c.requires.fits

pub append-requires : goal.append-requires
append-requires c =
    let ids = c.args.ids.now in
    let i = c.loop-id.id-index in
    let g : ℕ → List ℕ = λ k. c.args.words.now in
    let h : i < length ids = omega arith in
    (omega (arith, c.requires.known (get_or ids i 0) (get_or_mem ids i 0 h), c.loop-id.invariant.wide), piece_fits g ids c.loop-id.id-index c.loop-id.invariant h refl)

pub loop-id-preserved : goal.loop-id-preserved
loop-id-preserved c =
    let ids = c.args.ids.now in
    let g : ℕ → List ℕ = λ k. c.args.words.now in
    piece_more g ids c.loop-id.id-index c.loop-id.invariant (omega arith) refl c.append.ensures

pub returns : goal.returns
returns c =
    let a = c.args in
    piece_all (λ k. a.words.now) a.ids.now c.loop-id.id-index c.loop-id.invariant (omega arith)
