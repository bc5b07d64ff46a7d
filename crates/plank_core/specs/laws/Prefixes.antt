-- What holds of the first elements of a list, or of the numbers below another, with one more.
use Rattle.std.specs.Prelude.{◌≡◌, refl, Bool, true, false, ◌&&◌, ◌||◌, ℕ, ◌+◌, ◌≤◌, ◌<◌, suc, ◌-◌, eqb, ltb, List, map, [], ◌∷◌, ◌++◌, length, get_or, take, set}
use Rattle.std.proofs.Common.{sym, ap, ◌∙◌, arith, lt-ltb, le-ltb, eqb-true, eq-eqb, ltb-true, ltb-false, add-one, take-suc, take_all, take-suc-set}
use Rattle.std.proofs.Math.Bool.{or-false, and-or_distrib_left, and-or_distrib_right}
use Rattle.std.proofs.lemmas.Bool.{eqb-false}
use Rattle.plank_core.specs.Lists.{mem, count, range, any, upto}
use Rattle.plank_core.specs.laws.Lists.{mem_snoc}
use Rattle.plank_core.specs.laws.Loops.{map_append, count_suc, any_append, upto_more}

-- one more of those below k
pub below_more : (r k : ℕ) (f : ℕ → Bool) → ((ltb r k && f r) || (eqb r k && f k)) ≡ (ltb r (k + 1) && f r)
below_more r k f = go (eqb r k) refl (ltb r k) refl
  where
    go : (x : Bool) → eqb r k ≡ x → (y : Bool) → ltb r k ≡ y → ((ltb r k && f r) || (eqb r k && f k)) ≡ (ltb r (k + 1) && f r)
    go true e y d = let q : r ≡ k = eqb-true r k e in rw (q, le-ltb k k (omega arith), eq-eqb k k refl, lt-ltb k (k + 1) (omega arith))
    go false e true d = let q : r < k = ltb-true r k d in rw (e, d, lt-ltb r (k + 1) (omega arith)) (or-false (f r))
    go false e false d =
        let q : k ≤ r = ltb-false r k d in
        let n : r ≡ k → ⊥ = eqb-false r k e in
        rw (e, d, le-ltb r (k + 1) (omega arith))

pub taken_next : (xs : List ℕ) (k : ℕ) → k < length xs → (x : ℕ) → (mem x (take k xs) || eqb x (get_or xs k 0)) ≡ mem x (take (k + 1) xs)
taken_next xs k h x = rw (add-one, take-suc xs k 0 h) (sym (mem_snoc x (get_or xs k 0) (take k xs)))

pub mapped_next : (f : ℕ → ℕ) (xs : List ℕ) (k : ℕ) → k < length xs → (x : ℕ) → (mem x (map f (take k xs)) || eqb x (f (get_or xs k 0))) ≡ mem x (map f (take (k + 1) xs))
mapped_next f xs k h x = rw (add-one, take-suc xs k 0 h, map_append) (sym (mem_snoc x (f (get_or xs k 0)) (map f (take k xs))))

-- each together with a test
pub and_next : (a : Bool) (xs : List ℕ) (k : ℕ) → k < length xs → (x : ℕ) → ((a && mem x (take k xs)) || (a && eqb x (get_or xs k 0))) ≡ (a && mem x (take (k + 1) xs))
and_next a xs k h x = sym (and-or_distrib_left a (mem x (take k xs)) (eqb x (get_or xs k 0))) ∙ ap (λ (t : Bool). a && t) (taken_next xs k h x)

pub and_all : (a : Bool) (xs : List ℕ) (k : ℕ) → length xs ≤ k → (x : ℕ) → (a && mem x (take k xs)) ≡ (a && mem x xs)
and_all a xs k h x = ap (λ (ys : List ℕ). a && mem x ys) (take_all k xs h)

-- A holds of each of those taken, and of the next one
pub and_taken : (xs : List ℕ) (k : ℕ) → k < length xs → (A : ℕ → Bool) (x : ℕ) → ((mem x (take k xs) && A x) || (eqb x (get_or xs k 0) && A (get_or xs k 0))) ≡ (mem x (take (k + 1) xs) && A x)
and_taken xs k h A x =
    ap (λ (t : Bool). (mem x (take k xs) && A x) || t) (go (eqb x (get_or xs k 0)) refl)
    ∙ sym (and-or_distrib_right (mem x (take k xs)) (eqb x (get_or xs k 0)) (A x)) ∙ ap (λ (t : Bool). t && A x) (taken_next xs k h x)
  where
    go : (t : Bool) → eqb x (get_or xs k 0) ≡ t → (t && A (get_or xs k 0)) ≡ (t && A x)
    go true e = ap A (sym (eqb-true x (get_or xs k 0) e))
    go false e = refl

pub range_more : (x s o : ℕ) → s ≤ o → (mem x (range s o) || eqb x o) ≡ mem x (range s (o + 1))
range_more x s o h =
    let e : o + 1 - s ≡ suc (o - s) = omega arith in
    let f : s + (o - s) ≡ o = omega arith in
    sym (ap (λ (n : ℕ). mem x (count s n)) e ∙ ap (mem x) (count_suc s (o - s)) ∙ mem_snoc x (s + (o - s)) (count s (o - s)) ∙ ap (λ (n : ℕ). mem x (range s o) || eqb x n) f)

pub any_next : (p : ℕ → Bool) (xs : List ℕ) (k : ℕ) → k < length xs → (any p (take k xs) || p (get_or xs k 0)) ≡ any p (take (k + 1) xs)
any_next p xs k h =
    rw (add-one, take-suc xs k 0 h)
    (sym (any_append p (take k xs) (get_or xs k 0 ∷ []) ∙ ap (λ (t : Bool). any p (take k xs) || t) (or-false (p (get_or xs k 0)))))

pub any_more : (p : ℕ → Bool) (n : ℕ) → (any p (upto n) || p n) ≡ any p (upto (n + 1))
any_more p n = rw (upto_more n) (sym (any_append p (upto n) (n ∷ []) ∙ ap (λ (t : Bool). any p (upto n) || t) (or-false (p n))))

pub taken_set : (xs : List ℕ) (n y : ℕ) → n < length xs → take (n + 1) (set xs n y) ≡ take n xs ++ (y ∷ [])
taken_set xs n y h = rw add-one (take-suc-set xs n y h)
