-- A question put for all ids in one call: counted, then finished, then written.
use mathlib.Core.Path.{◌≡◌, refl, sym, ap, ◌∙◌}
use mathlib.Core.List.{List, ◌++◌}
use Prim.Native.Nat.{ℕ, zero, suc, ◌+◌, ◌-◌, ◌*◌, ◌^◌, ◌≤◌, ◌<◌}
use native.Mathlib.Omega.{arith}
use lib.ListN.{length, get_or, take, drop, replicate, length-replicate, get_or-replicate}
use lib.Seq.{length-take-le, get_or-take}
use borrow.Author.Tests.{le-ltb}
use Rattle.plank_core.specs.Lists.{bind}
use Rattle.sir_data.specs.Pages.{bytes_of}
use Rattle.std.specs.Prelude.{Ok}
use Rattle.sir_analyses.specs.Calls.{answered}
use Rattle.sir_analyses.specs.inner.Outcomes.{outcome, Finished}
use Rattle.sir_analyses.proofs.answers.Calls.{finish_is, finish_room, finish_fits}
use Rattle.sir_answers.specs.inner.Scatter.{Pieces, pieces_of, Direction, forward, backward, in_order, moved, Inside, Segments, segments, Scatters, Fits, Below, base, number_at, origin, Placed, all_of, Counts}
use Rattle.sir_answers.specs.laws.Scatter.{cursor_after, length_in_order, base_within, all_long, scattered}
use Rattle.sir_analyses.proofs.answers.Writing.{length_bytes}

-- a cursor after a call
pub scatters_cursor : {d : Direction} {ps : Pieces} {cursors out cursors' out' : List ℕ} (v : ℕ) → v < length cursors → Scatters d ps cursors out cursors' out' → get_or cursors' v 0 ≡ moved d (get_or cursors v 0) (length (pieces_of v ps))
scatters_cursor {d} {ps} {cursors} {out} v h k = ap (λ (s : Segments). get_or s.cursors v 0) k.left ∙ cursor_after d v ps (segments cursors out) h

-- how many words there can be
pub base_bound : (f : ℕ → ℕ) (k n : ℕ) → ((v : ℕ) → v < n → f v ≤ k) → base f n ≤ (k + 1) * n
unfolding base
base_bound f k zero h = omega arith
base_bound f k (suc n) h =
    omega (arith, base_bound f k n (λ v l. h v (omega arith)), h n (omega arith))

-- not too many ids, and a number of 32 bits for the length of each answer
pub record Small (n : ℕ) (ans : ℕ → List ℕ) : Type 0 where
  pub ids : n ≤ 2 ^ 16
  pub words : (v : ℕ) → v < n → length (ans v) < 2 ^ 32

origin_fits : (d : Direction) (f : ℕ → ℕ) (v m : ℕ) → base f v + 1 + f v ≤ m → Inside d 0 m (origin d f v) (f v)
unfolding base
origin_fits forward f v m l = omega arith
origin_fits backward f v m l = omega arith

module _ {n : ℕ} {ans : ℕ → List ℕ} {counts : List ℕ} (k : Counts n ans counts) where
  pub counts_total : base (number_at counts) (length counts) ≡ length (all_of ans n)
  counts_total = ap (base (number_at counts)) k.wide ∙ sym (all_long (number_at counts) ans n k.count_is n (omega arith))

  counts_most : Small n ans → base (number_at counts) (length counts) ≤ 2 ^ 48
  counts_most s = rw k.wide (omega (arith, s.ids, base_bound (number_at counts) (2 ^ 32 - 1) n (λ v l. omega (arith, k.count_is v l, s.words v l))))

  -- there are numbers for their sum
  pub counts_fit : Small n ans → base (number_at counts) (length counts) < 2 ^ 60
  counts_fit s = omega (arith, counts_most s)

  -- and bytes for their lengths
  pub lengths_fit : {m : ℕ} → Small n ans → m ≡ 4 * length (all_of ans n) → (base (number_at counts) (length counts) < 2 ^ 60) × ((4 * base (number_at counts) (length counts) ≤ m) × ((v : ℕ) → v < length counts → number_at counts v < 2 ^ 32))
  lengths_fit s l = (counts_fit s, (omega (arith, counts_total), λ v h. omega (arith, k.count_is v (omega (arith, k.wide)), s.words v (omega (arith, k.wide)))))

  -- pieces for the segments of their size
  pub placed_fits : (d : Direction) {ps : Pieces} {cursors out : List ℕ} → ((v : ℕ) → v < n → pieces_of v (in_order d ps) ≡ ans v)
      → length cursors ≡ n → Placed d (number_at counts) (length cursors) cursors out → Small n ans → Fits d ps cursors
  placed_fits d {ps} {cursors} pieces wide placed s = record {
    inside = λ v h.
        let e : length (pieces_of v ps) ≡ number_at counts v = sym (length_in_order d v ps) ∙ ap length (pieces v (omega arith)) ∙ sym (k.count_is v (omega arith)) in
        rw (placed.cursor_is v h, e) (origin_fits d (number_at counts) v (2 ^ 59) (omega (arith, counts_most s, base_within (number_at counts) v (length counts) (omega (arith, k.wide)))));
  }

  -- lengths stored, cursors set and all pieces put
  pub counts_written : (d : Direction) {ps : Pieces} {cursors out cursors' out' : List ℕ} → Below n ps → ((v : ℕ) → v < n → pieces_of v (in_order d ps) ≡ ans v)
      → length cursors ≡ n → Placed d (number_at counts) (length cursors) cursors out → length out ≡ 4 * length (all_of ans n) → Scatters d ps cursors out cursors' out' → out' ≡ bind (all_of ans n) bytes_of
  counts_written d {ps} {cursors} {out} known pieces wide placed long s =
      ap (λ (s : Segments). s.out) s.left
      ∙ scattered d (number_at counts) ans ps (segments cursors out) (rw wide known) (λ v h. (k.count_is v (omega arith), pieces v (omega arith))) placed (long ∙ ap (λ (i : ℕ). 4 * i) (sym counts_total ∙ ap (base (number_at counts)) (k.wide ∙ sym wide)))
      ∙ ap (λ (i : ℕ). bind (all_of ans i) bytes_of) wide

-- pieces for cursors that stand at 0
pub zero_room : {ps : Pieces} {cursors : List ℕ} → ((v : ℕ) → get_or cursors v 0 ≡ 0) → ((v : ℕ) → v < length cursors → length (pieces_of v ps) ≤ 2 ^ 59) → Fits forward ps cursors
zero_room z m = record { inside = λ v h. (omega arith, omega (arith, z v, m v h)) }

pub zero_fits : {n : ℕ} {ans : ℕ → List ℕ} {ps : Pieces} {cursors : List ℕ} → length cursors ≡ n → ((v : ℕ) → get_or cursors v 0 ≡ 0) → ((v : ℕ) → v < n → length (pieces_of v ps) ≡ length (ans v)) → Small n ans → Fits forward ps cursors
zero_fits wide z same s = zero_room z (λ v h. omega (arith, same v (omega arith), s.words v (omega arith)))

-- the first n of an array of one number
pub fixed_long : (n m x : ℕ) → n ≤ m → length (take n (replicate m x)) ≡ n
fixed_long n m x h = length-take-le n (replicate m x) (rw length-replicate h)

pub fixed_at : (n m x v : ℕ) → n ≤ m → v < n → get_or (take n (replicate m x)) v 0 ≡ x
fixed_at n m x v h l = get_or-take n (replicate m x) v 0 l ∙ get_or-replicate m v x 0 (omega arith)

-- the first n of an array of zeros
abbrev pub zeros : ℕ → ℕ → List ℕ
zeros n m = take n (replicate m 0)

pub zero_long : (n m : ℕ) → n ≤ m → length (zeros n m) ≡ n
zero_long n m h = fixed_long n m 0 h

pub zero_prefix : (n m v : ℕ) → get_or (zeros n m) v 0 ≡ 0
zero_prefix zero m v = refl
zero_prefix (suc n) zero v = refl
zero_prefix (suc n) (suc m) zero = refl
zero_prefix (suc n) (suc m) (suc v) = zero_prefix n m v

-- cursors that stood at 0 have counted
pub counted_all : {n : ℕ} {ans : ℕ → List ℕ} {ps : Pieces} {cursors out cursors' out' : List ℕ} → length cursors ≡ n → ((v : ℕ) → get_or cursors v 0 ≡ 0) → ((v : ℕ) → v < n → length (pieces_of v ps) ≡ length (ans v))
    → length cursors' ≡ length cursors → Scatters forward ps cursors out cursors' out' → Counts n ans cursors'
counted_all wide z same kept s = record {
  wide = kept ∙ wide;
  count_is = λ v h. scatters_cursor v (omega arith) s ∙ omega (arith, z v, same v h);
}

-- the same for cursors that went back from 2 ^ 59
pub top_fits : {n : ℕ} {ans : ℕ → List ℕ} {ps : Pieces} {cursors : List ℕ} → length cursors ≡ n → ((v : ℕ) → v < length cursors → get_or cursors v 0 ≡ 2 ^ 59) → ((v : ℕ) → v < n → length (pieces_of v ps) ≡ length (ans v)) → Small n ans → Fits backward ps cursors
top_fits wide t same s = record { inside = λ v h. (omega (arith, t v h, same v (omega arith), s.words v (omega arith)), omega (arith, t v h)) }

pub passed_all : {n : ℕ} {ans : ℕ → List ℕ} {ps : Pieces} {cursors out cursors' out' counts : List ℕ} → length cursors ≡ n → ((v : ℕ) → v < length cursors → get_or cursors v 0 ≡ 2 ^ 59) → ((v : ℕ) → v < n → length (pieces_of v ps) ≡ length (ans v))
    → Small n ans → Scatters backward ps cursors out cursors' out' → length counts ≡ length cursors → ((v : ℕ) → v < length counts → number_at counts v ≡ 2 ^ 59 - number_at cursors' v) → Counts n ans counts
passed_all wide t same small s kept p = record {
  wide = kept ∙ wide;
  count_is = λ v h. omega (arith, p v (omega arith), scatters_cursor v (omega arith) s, t v (omega arith), same v h, small.words v h);
}

-- ---- the answer, where there is room for it

module _ (words out : List ℕ) {end : ℕ} (f : Finished (length words) (length out) (Ok end)) where
  -- what is lent for it has its length
  pub lent_words : length (take end out) ≡ 4 * length words
  lent_words = length-take-le end out (finish_fits f) ∙ finish_is f

  -- it is written whole, and the bytes past it stay
  pub whole_answered : {written : List ℕ} → written ≡ bind words bytes_of → outcome (Ok end) (written ++ drop end out) ≡ answered (bind words bytes_of) out
  whole_answered w = rw (w, finish_is f, length_bytes words, le-ltb (length out) (4 * length words) (finish_room f))
