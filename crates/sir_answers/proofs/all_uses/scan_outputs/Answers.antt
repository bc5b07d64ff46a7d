-- `scan_outputs` meets its contract. The invariant: the pieces of the outputs left are to be put.
use mathlib.Core.Path.{refl, sym, ap, subst}
use mathlib.Core.List.{List, ◌∷◌, []}
use Prim.Native.Nat.{ℕ, ◌<◌}
use native.Mathlib.Omega.{arith}
use lib.ListN.{length, get_or}
use Rattle.plank_core.specs.Lists.{◌∈◌}
use Rattle.plank_core.specs.laws.Lists.{get_or_mem}
use Rattle.sir_data.specs.Records.{outputs}
use Rattle.sir_answers.specs.inner.Pieces.{pieces_at}
use Rattle.sir_answers.proofs.scatter.Scattering.{scattering_none, scatters_as, fits_as}
use Rattle.sir_analyses.proofs.def_use.UseWords.{outputs_most}
use Rattle.sir_answers.proofs.scatter.PieceLaws.{piece_fits, piece_more, piece_all}
use Rattle.sir_answers.proofs.all_uses.scan_outputs.Goals as goal

pub loop-k-init : goal.loop-k-init
loop-k-init c =
    scattering_none (fits_as (ap (λ (l : List ℕ). pieces_at (λ k. c.args.b.id.0 ∷ 2 ∷ k ∷ []) l 0) (sym c.outputs-run.ensures)) c.requires.fits)

pub append-requires : goal.append-requires
append-requires c =
    let b = c.args.b.id.0 in
    let run = c.outputs-run.result.now in
    let k = c.loop-k.k in
    let g : ℕ → List ℕ = λ k. b ∷ 2 ∷ k ∷ [] in
    let h : k < length run = c.loop-k-test.true in
    let m : get_or run k 0 ∈ outputs c.args.b.image.words.now b = subst (λ (l : List ℕ). get_or run k 0 ∈ l) c.outputs-run.ensures (get_or_mem run k 0 h) in
    (omega (arith, c.requires.cursors_len, c.args.b.image.well_formed.in_range.output b (get_or run k 0) c.args.b.known m, c.loop-k.invariant.wide), piece_fits g run c.loop-k.k c.loop-k.invariant h refl)

pub overflow_cast-piece : goal.overflow_cast-piece
overflow_cast-piece c =
    omega (arith, ap length c.outputs-run.ensures, outputs_most c.args.b.image.words.now 0 c.args.b.id.0 0 c.args.b.image.well_formed c.args.b.known, c.loop-k-test.true)

pub loop-k-preserved : goal.loop-k-preserved
loop-k-preserved c =
    let run = c.outputs-run.result.now in
    let g : ℕ → List ℕ = λ k. c.args.b.id.0 ∷ 2 ∷ k ∷ [] in
    piece_more g run c.loop-k.k c.loop-k.invariant c.loop-k-test.true refl c.append.ensures

pub returns : goal.returns
returns c =
    let b = c.args.b.id.0 in
    let g : ℕ → List ℕ = λ k. b ∷ 2 ∷ k ∷ [] in
    scatters_as (ap (λ (l : List ℕ). pieces_at g l 0) c.outputs-run.ensures) (piece_all g c.outputs-run.result.now c.loop-k.k c.loop-k.invariant c.loop-k-test.false)
