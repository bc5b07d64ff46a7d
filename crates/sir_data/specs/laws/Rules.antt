-- Tests of the rules in the forms that code takes, and the first rule that applies.
use Rattle.std.specs.Prelude.{◌≡◌, ℕ, zero, suc, ◌<◌, ◌≤◌, Bool, true, false, cond, ◌&&◌, ◌||◌, ltb, List, [], ◌∷◌, ◌++◌, ◌==◌, nat_le, nat_lt, refl}
use Rattle.std.proofs.Common.{sym, ◌∙◌, arith, le-leb, ltb-true, eq-eqb, ne_eqb}
use Rattle.std.proofs.Math.Bool.{and-true}
use Rattle.plank_core.specs.Lists.{all}
use Rattle.plank_core.specs.laws.Lists.{and_true_left, and_true_right}
use Rattle.sir_data.specs.Rules.{optional_below, first}

-- an id plus one, or 0 for none, is at most the count
pub optional_below_lem : (k n : ℕ) → nat_le k n ≡ optional_below k n
optional_below_lem zero n = le-leb 0 n (omega arith)
optional_below_lem (suc k) n = sym (and-true (nat_lt k n))

-- kinds 0 and 1
pub low_kind : (k : ℕ) → k < 2 → (k == 0 || k == 1) ≡ true
low_kind zero h = refl
low_kind (suc zero) h = refl
low_kind (suc (suc k)) h = absurd (omega arith)

pub high_kind : (k : ℕ) → 2 ≤ k → (k == 0 || k == 1) ≡ false
high_kind k h = rw (ne_eqb k 0 (λ e. omega arith), ne_eqb k 1 (λ e. omega arith))

-- ---- the first rule that applies

-- each rule has a number above 0
abbrev pub Numbered : List (ℕ × Bool) → Type 0
Numbered rs = all (λ r. ltb 0 r.0) rs ≡ true

first_numbered : (r : ℕ × Bool) (rs : List (ℕ × Bool)) → Numbered (r ∷ rs) → 0 < r.0
first_numbered r rs n = ltb-true 0 r.0 (and_true_left (nat_lt 0 r.0) (all (λ q. ltb 0 q.0) rs) n)

rest_numbered : (r : ℕ × Bool) (rs : List (ℕ × Bool)) → Numbered (r ∷ rs) → Numbered rs
rest_numbered r rs n = and_true_right (nat_lt 0 r.0) (all (λ q. ltb 0 q.0) rs) n

-- of some rules and others after them, by whether one of the former applies
pub first_append : (xs ys : List (ℕ × Bool)) → Numbered xs → first (xs ++ ys) ≡ cond (first xs == 0) (first ys) (first xs)
first_append [] ys n = refl
first_append (r ∷ xs) ys n = go r.1 (first_append xs ys (rest_numbered r xs n))
  where
    go : (t : Bool) → first (xs ++ ys) ≡ cond (first xs == 0) (first ys) (first xs) → cond t r.0 (first (xs ++ ys)) ≡ cond (cond t r.0 (first xs) == 0) (first ys) (cond t r.0 (first xs))
    go true e = rw (ne_eqb r.0 0 (λ z. omega (arith, first_numbered r xs n)))
    go false e = e

-- where none of the former applies, the others decide
pub by_later : (xs ys : List (ℕ × Bool)) → Numbered xs → first xs ≡ 0 → first (xs ++ ys) ≡ first ys
by_later xs ys n z = first_append xs ys n ∙ rw (eq-eqb (first xs) 0 z)

-- where one does, they decide
pub by_earlier : (xs ys : List (ℕ × Bool)) → Numbered xs → ¬ (first xs ≡ 0) → first (xs ++ ys) ≡ first xs
by_earlier xs ys n z = first_append xs ys n ∙ rw (ne_eqb (first xs) 0 z)

-- none of all applies: none of the former, and none of the others
pub first_left : (xs ys : List (ℕ × Bool)) → first (xs ++ ys) ≡ 0 → first xs ≡ 0
first_left [] ys h = refl
first_left (r ∷ xs) ys h = go r.1 h (first_left xs ys)
  where
    go : (t : Bool) → cond t r.0 (first (xs ++ ys)) ≡ 0 → (first (xs ++ ys) ≡ 0 → first xs ≡ 0) → cond t r.0 (first xs) ≡ 0
    go true e rest = e
    go false e rest = rest e

pub first_right : (xs ys : List (ℕ × Bool)) → Numbered xs → first (xs ++ ys) ≡ 0 → first ys ≡ 0
first_right xs ys n h = sym (by_later xs ys n (first_left xs ys h)) ∙ h

-- does the rule with number k apply?
abbrev pub applies : ℕ → List (ℕ × Bool) → Bool
applies k [] = false
applies k (r ∷ rs) = cond (r.0 == k) r.1 (applies k rs)

-- are the numbers up to that rule above 0?
abbrev pub reaches : ℕ → List (ℕ × Bool) → Bool
reaches k [] = true
reaches k (r ∷ rs) = nat_lt 0 r.0 && (r.0 == k || reaches k rs)

-- where no rule applies, the one with number k does not
pub kept : (k : ℕ) (rs : List (ℕ × Bool)) → reaches k rs ≡ true → first rs ≡ 0 → applies k rs ≡ false
kept k [] n h = refl
kept k (r ∷ rs) n h =
    go r.1 h (r.0 == k) (and_true_right (nat_lt 0 r.0) (r.0 == k || reaches k rs) n) (kept k rs)
  where
    above : 0 < r.0
    above = ltb-true 0 r.0 (and_true_left (nat_lt 0 r.0) (r.0 == k || reaches k rs) n)

    go : (t : Bool) → cond t r.0 (first rs) ≡ 0 → (u : Bool) → (u || reaches k rs) ≡ true → (reaches k rs ≡ true → first rs ≡ 0 → applies k rs ≡ false) → cond u t (applies k rs) ≡ false
    go true e u q rest = absurd (omega (arith, above))
    go false e true q rest = refl
    go false e false q rest = rest q e
