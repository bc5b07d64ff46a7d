-- `scan_condition` meets its contract.
use mathlib.Core.Path.{◌≡◌, refl, sym, ap}
use mathlib.Core.List.Memᴰ
use mathlib.Core.List.{List, ◌∷◌, []}
use Prim.Native.Nat.{ℕ}
use native.Mathlib.Omega.{arith}
use Rattle.sir_data.specs.Records.{condition}
use Rattle.sir_answers.specs.inner.Pieces.{pieces_at}
use Rattle.sir_answers.proofs.scatter.Scattering.{scatters_nothing, scatters_as, fits_as}
use Rattle.sir_answers.proofs.all_uses.scan_condition.Goals as goal

pub returns-in_default : goal.returns-in_default
returns-in_default c =
    let a = c.args in
    let none : condition a.b.image.words.now a.b.id.0 ≡ [] = sym c.in_default.ensures in
    scatters_as (sym (ap (λ (l : List ℕ). pieces_at (λ k. a.b.id.0 ∷ 1 ∷ 0 ∷ []) l 0) none)) scatters_nothing

pub append-requires : goal.append-requires
append-requires c =
    let w = c.args.b.image.words.now in
    let b = c.args.b.id.0 in
    let v = c.in-Some.v.0 in
    let one : condition w b ≡ v ∷ [] = sym c.in-Some.ensures in
    (omega (arith, c.requires.cursors_len, c.args.b.image.well_formed.in_range.tested b v c.args.b.known (rw one (Memᴰ.head refl))), fits_as (ap (λ (l : List ℕ). pieces_at (λ k. b ∷ 1 ∷ 0 ∷ []) l 0) one) c.requires.fits)

pub returns : goal.returns
returns c =
    let a = c.args in
    let one : condition a.b.image.words.now a.b.id.0 ≡ c.in-Some.v.0 ∷ [] = sym c.in-Some.ensures in
    scatters_as (sym (ap (λ (l : List ℕ). pieces_at (λ k. a.b.id.0 ∷ 1 ∷ 0 ∷ []) l 0) one)) c.append.ensures
