-- The order, read off the postorder of a visit.
use mathlib.Core.Path.{◌≡◌, refl, sym, ap, ap₂, ◌∙◌}
use mathlib.Core.Bool.{Bool, true, false, cond}
use mathlib.Core.List.{List, [], ◌∷◌, ◌++◌, map, reverse, reverse-append, reverse-cons, append-nil}
use Prim.Native.Nat.{ℕ, ◌+◌, ◌-◌, ◌/◌, ◌%◌, ◌≤◌, ◌<◌}
use native.Mathlib.Omega.{arith}
use lib.ListN.{length, take}
use lib.Seq.{take_all}
use lib.Dec.{eqb, leb}
use borrow.Author.Tests.{eqb-true, eqb-false, eq-eqb, ne_eqb, leb-true, leb-false, le-ltb, lt-ltb}
use Rattle.plank_core.specs.Lists.{bind, keep}
use Rattle.plank_core.specs.laws.Loops.{map_append, keep_append, bind_bind, bind_same, bind_snoc}
use Rattle.sir_analyses.specs.Order.{visited, functions_rpo, function_blocks, blocks_rpo}
use Rattle.sir_analyses.specs.Answers.{order_answer}
use Rattle.sir_analyses.specs.inner.Visiting.{Shows, keyed_block, keyed_function, block_of, blocks_of, function_of, blocks_in, entry_of, order_in}

-- ---- keys from the last to the first

module _ (g : ℕ → List ℕ) (ks : List ℕ) where
  pub back_start : bind (reverse ks) g ≡ bind (reverse (take (length ks) ks)) g
  back_start = ap (λ (l : List ℕ). bind (reverse l) g) (sym (take_all (length ks) ks (omega arith)))

-- ---- the order is what the keys say

eqb_shift : (a f : ℕ) → 1 ≤ a → eqb (a - 1) f ≡ eqb a (f + 1)
eqb_shift a f l = by (eqb a (f + 1)) refl
  where
    by : (t : Bool) → eqb a (f + 1) ≡ t → eqb (a - 1) f ≡ eqb a (f + 1)
    by true e = let q : a ≡ f + 1 = eqb-true a (f + 1) e in eq-eqb (a - 1) f (omega arith) ∙ sym e
    by false e = let q : a ≡ f + 1 → ⊥ = eqb-false a (f + 1) e in ne_eqb (a - 1) f (λ (h : a - 1 ≡ f). q (omega arith)) ∙ sym e

-- the second parts of the pairs whose first part is f
abbrev seconds : ℕ → List (ℕ × ℕ) → List ℕ
seconds f ps = map (λ p. p.1) (keep (λ p. eqb p.0 f) ps)

seconds_append : (f : ℕ) (ps qs : List (ℕ × ℕ)) → seconds f (ps ++ qs) ≡ seconds f ps ++ seconds f qs
seconds_append f ps qs = ap (map (λ p. p.1)) (keep_append (λ p. eqb p.0 f) ps qs) ∙ map_append (λ p. p.1) (keep (λ p. eqb p.0 f) ps) (keep (λ p. eqb p.0 f) qs)

-- a key's block, if it is one of f
one_second : (f k : ℕ) → reverse (seconds f (keyed_block k)) ≡ block_of f k
one_second f k = by (leb 256 k) refl
  where
    pair : List (ℕ × ℕ)
    pair = (k / 256 - 1, k % 256) ∷ []

    owned : (u : Bool) → reverse (map (λ p. p.1) (cond u pair [])) ≡ cond u (k % 256 ∷ []) []
    owned true = refl
    owned false = refl

    by : (t : Bool) → leb 256 k ≡ t → reverse (seconds f (keyed_block k)) ≡ block_of f k
    by true e =
        let l : 256 ≤ k = leb-true 256 k e in
        let q : eqb (k / 256 - 1) f ≡ eqb (k / 256) (f + 1) = eqb_shift (k / 256) f (omega arith) in
        rw e (owned (eqb (k / 256 - 1) f) ∙ rw q)
    by false e =
        let l : k < 256 = leb-false 256 k e in
        let q : eqb (k / 256) (f + 1) ≡ false = ne_eqb (k / 256) (f + 1) (λ (h : k / 256 ≡ f + 1). omega arith) in
        rw (e, q)

pub blocks_of_lem : (f : ℕ) (ks : List ℕ) → reverse (seconds f (bind ks keyed_block)) ≡ blocks_of f ks
unfolding blocks_of
blocks_of_lem f [] = refl
blocks_of_lem f (k ∷ ks) =
    ap reverse (seconds_append f (keyed_block k) (bind ks keyed_block))
    ∙ reverse-append (seconds f (keyed_block k)) (seconds f (bind ks keyed_block))
    ∙ ap₂ (λ a b. a ++ b) (blocks_of_lem f ks) (one_second f k)
    ∙ sym (ap (λ l. bind l (block_of f)) (reverse-cons k ks) ∙ bind_snoc (block_of f) (reverse ks) k)

functions_of : (ks : List ℕ) → reverse (bind ks keyed_function) ≡ bind (reverse ks) keyed_function
functions_of [] = refl
functions_of (k ∷ ks) =
    reverse-append (keyed_function k) (bind ks keyed_function)
    ∙ ap₂ (λ a b. a ++ b) (functions_of ks) (single (leb 256 k))
    ∙ sym (ap (λ l. bind l keyed_function) (reverse-cons k ks) ∙ bind_snoc keyed_function (reverse ks) k)
  where
    single : (t : Bool) → reverse (cond t [] (k ∷ [])) ≡ cond t [] (k ∷ [])
    single true = refl
    single false = refl

each_function : (g : ℕ → List ℕ) (k : ℕ) → bind (keyed_function k) g ≡ function_of g k
each_function g k = by (leb 256 k) refl
  where
    by : (t : Bool) → leb 256 k ≡ t → bind (keyed_function k) g ≡ function_of g k
    by true e = rw (e, le-ltb k 256 (leb-true 256 k e))
    by false e = rw (e, lt-ltb k 256 (leb-false 256 k e)) (append-nil (g k))

module _ (w : List ℕ) {seen postorder : List ℕ} {n : ℕ} (s : Shows seen postorder n (visited w)) where
  pub function_blocks_lem : (f : ℕ) → function_blocks w f ≡ blocks_of f (take n postorder)
  function_blocks_lem f = ap (λ ps. reverse (seconds f ps)) s.blocks_finished ∙ blocks_of_lem f (take n postorder)

  pub functions_rpo_lem : functions_rpo w ≡ bind (reverse (take n postorder)) keyed_function
  functions_rpo_lem = ap reverse s.functions_finished ∙ functions_of (take n postorder)

  over_functions : (g h : ℕ → List ℕ) → ((f : ℕ) → g f ≡ h f) → bind (functions_rpo w) g ≡ bind (reverse (take n postorder)) (function_of h)
  over_functions g h e =
      bind_same g h (functions_rpo w) e
      ∙ ap (λ l. bind l h) functions_rpo_lem
      ∙ bind_bind keyed_function h (reverse (take n postorder))
      ∙ bind_same (λ k. bind (keyed_function k) h) (function_of h) (reverse (take n postorder)) (each_function h)

  pub blocks_rpo_lem : blocks_rpo w ≡ blocks_in (take n postorder)
  unfolding blocks_in
  blocks_rpo_lem = over_functions (function_blocks w) (λ f. blocks_of f (take n postorder)) function_blocks_lem

  pub order_answer_lem : order_answer w ≡ order_in (take n postorder)
  unfolding order_in
  order_answer_lem = over_functions (λ f. f ∷ length (function_blocks w f) ∷ function_blocks w f) (λ f. entry_of f (take n postorder)) (λ f. ap (λ l. f ∷ length l ∷ l) (function_blocks_lem f))
