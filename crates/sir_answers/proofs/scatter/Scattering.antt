-- Putting pieces into the segments of their ids, some after others.
use mathlib.Core.Path.{◌≡◌, refl, sym, ap, ap₂, ◌∙◌}
use mathlib.Core.Bool.{Bool, true, false, cond}
use mathlib.Core.List.{List, [], ◌∷◌, ◌++◌}
use mathlib.Core.Logic.{inl}
use Prim.Native.Nat.{ℕ, ◌+◌, ◌*◌, ◌≤◌, ◌<◌}
use native.Mathlib.Omega.{arith}
use lib.ListN.{length, get_or, set, length-replicate}
use lib.Seq.{get_or-set_same, get_or-set_other}
use Rattle.plank_core.specs.laws.Lists.{below_next}
use Rattle.plank_core.specs.laws.Folds.{foldl_append}
use Rattle.sir_analyses.specs.inner.Writing.{words_put}
use Rattle.sir_answers.specs.inner.Scatter.{Pieces, Direction, forward, moved, place, Segments, segments, piece_put, scatter, Scatters, Fits, number_at, base, origin, toward, Stands, Placed}
use Rattle.sir_answers.specs.inner.Pieces.{blanks}
use Rattle.sir_analyses.specs.laws.Writing.{puts_past}
use Rattle.sir_answers.specs.laws.Scatter.{scatter_cursors, scatter_out, room_first, room_rest, stands_put, stands_other, base_most, base_within, base_next}

-- ---- room for the first of some pieces, and for the rest after them

pub fits_as : {d : Direction} {ps qs : Pieces} {cursors : List ℕ} → ps ≡ qs → Fits d ps cursors → Fits d qs cursors
fits_as e f = rw e at f

pub fits_first : {d : Direction} (ps qs : Pieces) {cursors : List ℕ} → Fits d (ps ++ qs) cursors → Fits d ps cursors
fits_first {d} ps qs f = room_first d ps qs f

pub fits_rest : {d : Direction} {ps : Pieces} (qs : Pieces) {cursors out cursors' out' : List ℕ} → Fits d (ps ++ qs) cursors → Scatters d ps cursors out cursors' out' → Fits d qs cursors'
fits_rest {d} {ps} qs {cursors} {out} f s = rw (ap (λ (s : Segments). s.cursors) s.left) (room_rest d ps qs (segments cursors out) f)

-- ---- some pieces are put, the rest are to come

pub record Scattering (d : Direction) (full : Pieces) (cursors₀ out₀ : List ℕ) (rest : Pieces) (cursors out : List ℕ) : Type 0 where
  pub left : scatter d rest (segments cursors out) ≡ scatter d full (segments cursors₀ out₀)
  pub fits : Fits d rest cursors
  pub wide : length cursors ≡ length cursors₀
  pub long : length out ≡ length out₀

module _ {d : Direction} {full : Pieces} {cursors₀ out₀ : List ℕ} where
  pub scattering_none : Fits d full cursors₀ → Scattering d full cursors₀ out₀ full cursors₀ out₀
  scattering_none f = record { left = refl; fits = f; wide = refl; long = refl }

  pub scattering_as : {rest rest' : Pieces} {cursors out : List ℕ} → rest ≡ rest' → Scattering d full cursors₀ out₀ rest cursors out → Scattering d full cursors₀ out₀ rest' cursors out
  scattering_as e k = rw e at k

  pub scattering_fits : (ps rest : Pieces) {cursors out : List ℕ} → Scattering d full cursors₀ out₀ (ps ++ rest) cursors out → Fits d ps cursors
  scattering_fits ps rest k = fits_first ps rest k.fits

  pub scattering_more : {ps : Pieces} (rest : Pieces) {cursors out cursors' out' : List ℕ} → Scattering d full cursors₀ out₀ (ps ++ rest) cursors out → Scatters d ps cursors out cursors' out' → Scattering d full cursors₀ out₀ rest cursors' out'
  scattering_more {ps} rest {cursors} {out} {cursors'} {out'} k p =
      let s : Segments = segments cursors out in
      record {
        left = ap (scatter d rest) p.left ∙ sym (foldl_append (piece_put d) s ps rest) ∙ k.left;
        fits = fits_rest rest k.fits p;
        wide = ap (λ (s : Segments). length s.cursors) p.left ∙ scatter_cursors d ps s ∙ k.wide;
        long = ap (λ (s : Segments). length s.out) p.left ∙ scatter_out d ps s ∙ k.long;
      }

  pub scattering_all : {rest : Pieces} {cursors out : List ℕ} → rest ≡ [] → Scattering d full cursors₀ out₀ rest cursors out → Scatters d full cursors₀ out₀ cursors out
  scattering_all {rest} {cursors} {out} e k = record { left = sym (ap (λ (l : Pieces). scatter d l (segments cursors out)) e) ∙ k.left }

-- ---- nothing, one piece, and one after another

pub scatters_one : (d : Direction) (v : ℕ) (xs cursors out : List ℕ) {cursors' out' : List ℕ} → cursors' ≡ set cursors v (moved d (get_or cursors v 0) (length xs)) → out' ≡ words_put (length out) (place d (get_or cursors v 0) (length xs)) xs out
    → Scatters d ((v, xs) ∷ []) cursors out cursors' out'
scatters_one d v xs cursors out e f = record { left = ap₂ segments e f }

-- words that are only counted
pub blanks_long : (n : ℕ) → length (blanks n) ≡ n
blanks_long n = length-replicate n 0

pub scatters_blank : (v n : ℕ) (cursors : List ℕ) → Scatters forward ((v, blanks n) ∷ []) cursors [] (set cursors v (get_or cursors v 0 + n)) []
scatters_blank v n cursors =
    scatters_one forward v (blanks n) cursors [] (ap (λ (i : ℕ). set cursors v (get_or cursors v 0 + i)) (sym (blanks_long n))) (sym (puts_past 0 (get_or cursors v 0) (blanks n) [] (omega arith)))

pub scatters_nothing : {d : Direction} {cursors out : List ℕ} → Scatters d [] cursors out cursors out
scatters_nothing = record { left = refl }

pub scatters_then : {d : Direction} {ps qs : Pieces} {cursors out cursors' out' cursors'' out'' : List ℕ} → Scatters d ps cursors out cursors' out' → Scatters d qs cursors' out' cursors'' out'' → Scatters d (ps ++ qs) cursors out cursors'' out''
scatters_then {d} {ps} {qs} {cursors} {out} a b = record { left = b.left ∙ ap (scatter d qs) a.left ∙ sym (foldl_append (piece_put d) (segments cursors out) ps qs) }

pub scatters_as : {d : Direction} {ps qs : Pieces} {cursors out cursors' out' : List ℕ} → ps ≡ qs → Scatters d ps cursors out cursors' out' → Scatters d qs cursors out cursors' out'
scatters_as e k = rw e at k

-- ---- the lengths of the first ids are stored, and their cursors set

pub record Placing (d : Direction) (f : ℕ → ℕ) (v start : ℕ) (cursors out : List ℕ) : Type 0 where
  pub placed : Placed d f v cursors out
  pub start_is : start ≡ base f v
  pub rest : (u : ℕ) → v ≤ u → get_or cursors u 0 ≡ f u

pub placing_none : (d : Direction) (cursors out : List ℕ) → Placing d (number_at cursors) 0 0 cursors out
unfolding base
placing_none d cursors out = record {
  placed = record { cursor_is = λ v h. absurd (omega arith); length_stands = λ v h. absurd (omega arith) };
  start_is = refl;
  rest = λ u h. refl;
}

-- the next length, and that the next segment ends where all do or before
pub placing_next : {d : Direction} {f : ℕ → ℕ} {v start : ℕ} {cursors out : List ℕ} (n : ℕ) → v < n → Placing d f v start cursors out → (get_or cursors v 0 ≡ f v) × (start + 1 + get_or cursors v 0 ≤ base f n)
placing_next {d} {f} {v} n h k = let e = k.rest v (omega arith) in (e, omega (arith, base_within f v n h, k.start_is))

pub placing_more : {d : Direction} {f : ℕ → ℕ} {v start : ℕ} {cursors out cursors' out' : List ℕ} → Placing d f v start cursors out → v < length cursors → 4 * (start + 1) ≤ length out → cursors' ≡ set cursors v (origin d f v) → out' ≡ words_put (length out) start (get_or cursors v 0 ∷ []) out
    → Placing d f (v + 1) (start + 1 + get_or cursors v 0) cursors' out'
placing_more {d} {f} {v} {start} {cursors} {out} {cursors'} {out'} k h l e o =
    let n = base_next f v in
    let g : get_or cursors v 0 ≡ f v = k.rest v (omega arith) in
    let w : 4 * (base f v + 1) ≤ length out = omega (arith, k.start_is) in
    let p : out' ≡ words_put (length out) (base f v) (f v ∷ []) out = o ∙ rw (k.start_is, g) in
    record {
      placed = record {
        cursor_is = below_next (λ u. get_or cursors' u 0 ≡ origin d f u) v
            (λ u m. ap (λ (c : List ℕ). get_or c u 0) e ∙ get_or-set_other cursors v u (origin d f v) 0 (λ z. omega arith) ∙ k.placed.cursor_is u m)
            (ap (λ (c : List ℕ). get_or c v 0) e ∙ get_or-set_same cursors v (origin d f v) 0 h);
        length_stands = below_next (λ u. Stands (base f u) (f u ∷ []) out') v
            (λ u m. rw p (stands_other (base f v) (f v ∷ []) out w (inl (omega (arith, base_most f (u + 1) v (omega arith), base_next f u))) (k.placed.length_stands u m)))
            (rw p (stands_put (base f v) (f v ∷ []) out w));
      };
      start_is = omega (arith, k.start_is);
      rest = λ u m. ap (λ (c : List ℕ). get_or c u 0) e ∙ get_or-set_other cursors v u (origin d f v) 0 (λ z. omega arith) ∙ k.rest u (omega arith);
    }

pub origin_is : (ends : Bool) (f : ℕ → ℕ) (v : ℕ) → origin (toward ends) f v ≡ cond ends (base f v + 1 + f v) (base f v + 1)
unfolding base
origin_is true f v = refl
origin_is false f v = refl
