-- Pieces for some ids in turn, and the words of one id among them.
use mathlib.Core.Path.{◌≡◌, refl, ap, ◌∙◌, ap₂}
use mathlib.Core.Bool.{Bool, true, false, cond}
use mathlib.Core.List.Memᴰ
use mathlib.Core.List.{List, [], ◌∷◌, ◌++◌, map, Memᴰ, reverse, append-nil, reverse-append}
use mathlib.Core.Logic.{⊎_elim, ◌≢◌}
use Prim.Native.Nat.{ℕ, zero, suc, ◌+◌, ◌*◌, ◌≤◌, ◌<◌}
use native.Mathlib.Numerals.{add-one}
use native.Mathlib.Omega.{arith}
use lib.ListN.{length, get_or, drop, drop_of_length-le}
use lib.Dec.{eqb}
use borrow.Author.Tests.{ne_eqb, eqb-true, eqb-false, eq-eqb}
use Rattle.plank_core.specs.Lists.{count, upto, bind, one_if, times, sum, ◌∈◌, keep}
use Rattle.plank_core.specs.laws.Lists.{bind_out}
use Rattle.plank_core.specs.laws.Loops.{drop_next, keep_append, bind_snoc, bind_bind, keep_reverse}
use Rattle.plank_core.specs.laws.Folds.{bind_kept}
use Rattle.sir_analyses.specs.Liveness.{positions}
use Rattle.sir_answers.specs.inner.Scatter.{Pieces, pieces_of, Below, Direction, Scatters, Fits}
use Rattle.sir_answers.specs.inner.Pieces.{pieces_at, Known}
use Rattle.sir_answers.specs.laws.Scatter.{pieces_append}
use Rattle.sir_answers.proofs.scatter.Scattering.{Scattering, scattering_as, scattering_fits, scattering_more, scattering_all}

-- ---- one after another

module _ (g : ℕ → List ℕ) (vs : List ℕ) where
  piece_next : (i v : ℕ) → i < length vs → v ≡ get_or vs i 0 → pieces_at g (drop i vs) i ≡ ((v, g i) ∷ []) ++ pieces_at g (drop (i + 1) vs) (i + 1)
  piece_next i v h e = ap (λ (l : List ℕ). pieces_at g l i) (drop_next i vs h) ∙ rw (e, add-one i)

  piece_end : (i : ℕ) → length vs ≤ i → pieces_at g (drop i vs) i ≡ []
  piece_end i h = ap (λ (l : List ℕ). pieces_at g l i) (drop_of_length-le vs {i = i} h)

  module _ (i : ℕ) {d : Direction} {full : Pieces} {cursors₀ out₀ cursors out : List ℕ} (k : Scattering d full cursors₀ out₀ (pieces_at g (drop i vs) i) cursors out) where
    -- the piece of place i can be put
    pub piece_fits : {v : ℕ} → i < length vs → v ≡ get_or vs i 0 → Fits d ((v, g i) ∷ []) cursors
    piece_fits {v} h e = scattering_fits ((v, g i) ∷ []) (pieces_at g (drop (i + 1) vs) (i + 1)) (scattering_as (piece_next i v h e) k)

    -- it is put
    pub piece_more : {v : ℕ} {cursors' out' : List ℕ} → i < length vs → v ≡ get_or vs i 0 → Scatters d ((v, g i) ∷ []) cursors out cursors' out' → Scattering d full cursors₀ out₀ (pieces_at g (drop (i + 1) vs) (i + 1)) cursors' out'
    piece_more {v} h e p = scattering_more (pieces_at g (drop (i + 1) vs) (i + 1)) (scattering_as (piece_next i v h e) k) p

    -- all are
    pub piece_all : length vs ≤ i → Scatters d full cursors₀ out₀ cursors out
    piece_all h = scattering_all (piece_end i h) k

-- ---- the words of one id

pub pieces_at_lem : (v : ℕ) (g : ℕ → List ℕ) (vs : List ℕ) (k : ℕ) → pieces_of v (pieces_at g vs k) ≡ bind (positions v vs k) g
pieces_at_lem v g [] k = refl
pieces_at_lem v g (x ∷ xs) k = go (eqb x v) (pieces_at_lem v g xs (suc k))
  where
    go : (t : Bool) → pieces_of v (pieces_at g xs (suc k)) ≡ bind (positions v xs (suc k)) g → cond t (g k) [] ++ pieces_of v (pieces_at g xs (suc k)) ≡ bind (cond t (k ∷ positions v xs (suc k)) (positions v xs (suc k))) g
    go true h = ap (λ (l : List ℕ). g k ++ l) h
    go false h = h

-- the same words for each that is v
pub pieces_same : (v : ℕ) (c vs : List ℕ) (k : ℕ) → pieces_of v (pieces_at (λ k. c) vs k) ≡ bind (keep (λ u. eqb u v) vs) (λ u. c)
pieces_same v c vs k = go vs k ∙ bind_kept (λ u. eqb u v) (λ u. c) vs
  where
    go : (us : List ℕ) (k : ℕ) → pieces_of v (pieces_at (λ k. c) us k) ≡ bind us (λ u. cond (eqb u v) c [])
    go [] k = refl
    go (u ∷ us) k = ap (λ (l : List ℕ). cond (eqb u v) c [] ++ l) (go us (suc k))

-- of the pieces of some things in turn
pub pieces_bind : {A : Type 0} (v : ℕ) (g : A → Pieces) (xs : List A) → pieces_of v (bind xs g) ≡ bind xs (λ x. pieces_of v (g x))
pieces_bind v g xs = bind_bind g (λ p. cond (eqb p.0 v) p.1 []) xs

-- is a piece for v?
abbrev pub own_piece : ℕ → ℕ × List ℕ → Bool
own_piece v p = eqb p.0 v

-- its words are those of its pieces
pieces_keep : (v : ℕ) (ps : Pieces) → pieces_of v ps ≡ bind (keep (own_piece v) ps) (λ p. p.1)
pieces_keep v ps = bind_kept (own_piece v) (λ p. p.1) ps

-- the same from the last to the first
pieces_back : (v : ℕ) (ps : Pieces) → pieces_of v (reverse ps) ≡ bind (reverse (keep (own_piece v) ps)) (λ p. p.1)
pieces_back v ps = pieces_keep v (reverse ps) ∙ ap (λ (l : Pieces). bind l (λ p. p.1)) (keep_reverse (own_piece v) ps)

pub back_append : (v : ℕ) (ps qs : Pieces) → pieces_of v (reverse (ps ++ qs)) ≡ pieces_of v (reverse qs) ++ pieces_of v (reverse ps)
back_append v ps qs = ap (pieces_of v) (reverse-append ps qs) ∙ pieces_append v (reverse qs) (reverse ps)

pub back_bind : {A : Type 0} (v : ℕ) (g : A → Pieces) (xs : List A) → pieces_of v (reverse (bind (reverse xs) g)) ≡ bind xs (λ x. pieces_of v (reverse (g x)))
back_bind v g [] = refl
back_bind {A} v g (x ∷ xs) =
    ap (λ (l : List A). pieces_of v (reverse (bind l g))) (reverse-append (x ∷ []) xs)
    ∙ ap (λ (l : Pieces). pieces_of v (reverse l)) (bind_snoc g (reverse xs) x)
    ∙ back_append v (bind (reverse xs) g) (g x)
    ∙ ap (λ (l : List ℕ). pieces_of v (reverse (g x)) ++ l) (back_bind v g xs)

-- of pieces by id, those for one id are its own
module _ (v : ℕ) (g : ℕ → Pieces) (own : (u : ℕ) → keep (own_piece v) (g u) ≡ cond (eqb u v) (g u) []) where
  other_own : (u : ℕ) → u ≢ v → keep (own_piece v) (g u) ≡ []
  other_own u h = own u ∙ ap (λ (t : Bool). cond t (g u) []) (ne_eqb u v h)

  same_own : keep (own_piece v) (g v) ≡ g v
  same_own = own v ∙ ap (λ (t : Bool). cond t (g v) []) (eq-eqb v v refl)

  none_own : (s n : ℕ) → v < s → keep (own_piece v) (bind (count s n) g) ≡ []
  none_own s zero h = refl
  none_own s (suc n) h =
      keep_append (own_piece v) (g s) (bind (count (suc s) n) g)
      ∙ ap₂ (λ (xs ys : Pieces). xs ++ ys) (other_own s (λ e. omega arith)) (none_own (suc s) n (omega arith))

  count_own : (s n : ℕ) → s ≤ v → v < s + n → keep (own_piece v) (bind (count s n) g) ≡ g v
  count_own s zero l h = absurd (omega arith)
  count_own s (suc n) l h = keep_append (own_piece v) (g s) (bind (count (suc s) n) g) ∙ go (eqb s v) refl (count_own (suc s) n)
    where
      go : (t : Bool) → eqb s v ≡ t → (suc s ≤ v → v < suc s + n → keep (own_piece v) (bind (count (suc s) n) g) ≡ g v)
          → keep (own_piece v) (g s) ++ keep (own_piece v) (bind (count (suc s) n) g) ≡ g v
      go true e rest =
          let q : s ≡ v = eqb-true s v e in
          ap₂ (λ (xs ys : Pieces). xs ++ ys) (ap (λ (u : ℕ). keep (own_piece v) (g u)) q ∙ same_own) (none_own (suc s) n (omega arith)) ∙ append-nil (g v)
      go false e rest =
          let q : s ≡ v → ⊥ = eqb-false s v e in
          ap₂ (λ (xs ys : Pieces). xs ++ ys) (other_own s q) (rest (omega arith) (omega arith))

  -- of those of all ids below n
  pub pieces_upto : (n : ℕ) → v < n → pieces_of v (bind (upto n) g) ≡ bind (g v) (λ p. p.1)
  pieces_upto n h = pieces_keep v (bind (upto n) g) ∙ ap (λ (l : Pieces). bind l (λ p. p.1)) (count_own 0 n (omega arith) (omega arith))

  pub back_upto : (n : ℕ) → v < n → pieces_of v (reverse (bind (upto n) g)) ≡ bind (reverse (g v)) (λ p. p.1)
  back_upto n h = pieces_back v (bind (upto n) g) ∙ ap (λ (l : Pieces). bind (reverse l) (λ p. p.1)) (count_own 0 n (omega arith) (omega arith))

-- ---- pieces for known ids

module _ (n : ℕ) where
  pub below_at : (g : ℕ → List ℕ) (vs : List ℕ) (k : ℕ) → Known n vs → Below n (pieces_at g vs k)
  below_at g [] k h p m = absurd (Memᴰ.not-nil m)
  below_at g (v ∷ vs) k h p m =
      ⊎_elim
      (λ (e : p ≡ (v, g k)). rw e (h v (Memᴰ.head refl)))
      (λ (t : Memᴰ p (pieces_at g vs (suc k))). below_at g vs (suc k) (λ u l. h u (Memᴰ.tail l)) p t)
      (Memᴰ.cases_cons m)

  pub below_append : (ps qs : Pieces) → Below n ps → Below n qs → Below n (ps ++ qs)
  below_append ps qs a b p m = ⊎_elim (a p) (b p) (Memᴰ.append_cases ps m)

  pub below_bind : (g : ℕ → Pieces) (xs : List ℕ) → ((x : ℕ) → x ∈ xs → Below n (g x)) → Below n (bind xs g)
  below_bind g xs h p m = let o = bind_out g xs m in h o.0 o.1 p o.2

-- ---- sums over numbers, each as often as it stands in a list

module _ (t f : ℕ → ℕ) (x : ℕ) where
  sum_none : (s n : ℕ) → x < s → sum (map (λ o. (one_if (eqb o x) + t o) * f o) (count s n)) ≡ sum (map (λ o. t o * f o) (count s n))
  sum_none s zero h = refl
  sum_none s (suc n) h = rw (ne_eqb s x (λ e. omega arith)) (omega (arith, sum_none (suc s) n (omega arith)))

  sum_one : (s n : ℕ) → s ≤ x → x < s + n → sum (map (λ o. (one_if (eqb o x) + t o) * f o) (count s n)) ≡ f x + sum (map (λ o. t o * f o) (count s n))
  sum_one s zero l h = absurd (omega arith)
  sum_one s (suc n) l h = go (eqb s x) refl (sum_one (suc s) n)
    where
      go : (u : Bool) → eqb s x ≡ u → (suc s ≤ x → x < suc s + n → sum (map (λ o. (one_if (eqb o x) + t o) * f o) (count (suc s) n)) ≡ f x + sum (map (λ o. t o * f o) (count (suc s) n)))
          → (one_if u + t s) * f s + sum (map (λ o. (one_if (eqb o x) + t o) * f o) (count (suc s) n)) ≡ f x + (t s * f s + sum (map (λ o. t o * f o) (count (suc s) n)))
      go true e rest = let i : s ≡ x = eqb-true s x e in omega (arith, ap f i, sum_none (suc s) n (omega arith))
      go false e rest = let i : ¬ (s ≡ x) = eqb-false s x e in omega (arith, rest (omega arith) (omega arith))

pub sum_times : (f : ℕ → ℕ) (xs : List ℕ) (n : ℕ) → Known n xs → sum (map (λ o. times o xs * f o) (upto n)) ≡ sum (map f xs)
sum_times f [] n h = go 0 n
  where
    go : (s n : ℕ) → sum (map (λ o. 0 * f o) (count s n)) ≡ 0
    go s zero = refl
    go s (suc n) = omega (arith, go (suc s) n)
sum_times f (x ∷ xs) n h = sum_one (λ o. times o xs) f x 0 n (omega arith) (omega (arith, h x (Memᴰ.head refl))) ∙ ap (λ (r : ℕ). f x + r) (sum_times f xs n (λ v m. h v (Memᴰ.tail m)))
