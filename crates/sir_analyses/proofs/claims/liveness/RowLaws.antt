-- Laws of tables of sets: what a table counts, and how passes that only add to it end.
use mathlib.Core.Path.{◌≡◌, refl, sym, ap, subst, ◌∙◌}
use mathlib.Core.Bool.{Bool, true, false, cond}
use Prim.Native.Nat.{ℕ, zero, suc, ◌+◌, ◌*◌, ◌≤◌, ◌<◌}
use native.Mathlib.Omega.{arith}
use native.Mathlib.Nat.{suc-mul}
use mathlib.Core.List.{List, [], ◌∷◌, map}
use lib.ListN.{length, replicate, length-replicate, get_or-replicate}
use Rattle.plank_core.specs.Lists.{upto, count, sum}
use Rattle.plank_core.specs.laws.Lists.{and_true_left, and_true_right, none}
use Rattle.plank_core.specs.laws.Loops.{sum_shift}
use Rattle.sir_analyses.specs.Liveness.{Set, has, members, same_set, same_rows, row_of}
use Rattle.sir_analyses.proofs.SetLaws.{none_in, card, card_le, members_card, Within, card_grows, card_rises, same_set_lem, same_self}

-- each row has L places
abbrev pub Wide : ℕ → List Set → Type 0
Wide L e = (b : ℕ) → b < length e → length (row_of e b) ≡ L

abbrev pub Under : List Set → List Set → Type 0
Under e f = (b : ℕ) → Within (row_of e b) (row_of f b)

unfoldable pub total : List Set → ℕ
total [] = 0
total (s ∷ e) = card s + total e

pub total_le : (L : ℕ) (e : List Set) → Wide L e → total e ≤ length e * L
unfolding total
total_le L [] h = omega arith
total_le L (s ∷ e) h =
    let a : length s ≡ L = h 0 (omega arith) in
    let i : total e ≤ length e * L = total_le L e (λ b l. h (suc b) (omega arith)) in
    rw suc-mul (omega (arith, card_le s))

pub total_sum : (e : List Set) → sum (map (λ b. length (members (row_of e b))) (upto (length e))) ≡ total e
unfolding total
total_sum [] = refl
total_sum (s ∷ e) =
    let h : ℕ → ℕ = λ b. length (members (row_of (s ∷ e) b)) in
    let c : sum (map h (count 1 (length e))) ≡ total e = sum_shift h 0 (length e) ∙ total_sum e in
    omega (arith, members_card s)

module _ (L : ℕ) where
  pub total_grows : (e f : List Set) → length e ≡ length f → Wide L e → Wide L f → Under e f → total e ≤ total f
  unfolding total
  total_grows [] f l we wf u = omega arith
  total_grows (s ∷ e) [] l we wf u = absurd (omega arith)
  total_grows (s ∷ e) (t ∷ f) l we wf u =
      let a = card_grows s t (we 0 (omega arith) ∙ sym (wf 0 (omega arith))) (u 0) in
      let c = total_grows e f (omega arith) (λ b h. we (suc b) (omega arith)) (λ b h. wf (suc b) (omega arith)) (λ b. u (suc b)) in
      omega arith

  pub total_rises : (e f : List Set) → length e ≡ length f → Wide L e → Wide L f → Under e f → same_rows f e ≡ false → total e < total f
  unfolding total
  total_rises [] [] l we wf u d = none true refl d
  total_rises [] (t ∷ f) l we wf u d = absurd (omega arith)
  total_rises (s ∷ e) [] l we wf u d = absurd (omega arith)
  total_rises (s ∷ e) (t ∷ f) l we wf u d =
      let n : length s ≡ length t = we 0 (omega arith) ∙ sym (wf 0 (omega arith)) in
      let we' : Wide L e = λ b h. we (suc b) (omega arith) in
      let wf' : Wide L f = λ b h. wf (suc b) (omega arith) in
      go (same_set t s) refl (card_grows s t n (u 0)) (total_grows e f (omega arith) we' wf' (λ b. u (suc b)))
      (card_rises s t n (u 0)) (total_rises e f (omega arith) we' wf' (λ b. u (suc b)))
    where
      go : (x : Bool) → same_set t s ≡ x → card s ≤ card t → total e ≤ total f
          → (same_set t s ≡ false → card s < card t) → (same_rows f e ≡ false → total e < total f) → card s + total e < card t + total f
      go true p a c one rest = let r = rest (rw p at d) in omega arith
      go false p a c one rest = let r = one p in omega arith

pub rows_self : (e : List Set) → same_rows e e ≡ true
rows_self [] = refl
rows_self (s ∷ e) = rw (same_self s) (rows_self e)

pub same_rows_lem : (e f : List Set) → same_rows f e ≡ true → f ≡ e
same_rows_lem [] [] d = refl
same_rows_lem [] (t ∷ f) d = none false d refl
same_rows_lem (s ∷ e) [] d = none false d refl
same_rows_lem (s ∷ e) (t ∷ f) d =
    let a : t ≡ s = same_set_lem t s (and_true_left (same_set t s) (same_rows f e) d) in
    let c : f ≡ e = same_rows_lem e f (and_true_right (same_set t s) (same_rows f e) d) in
    cc

-- ---- passes until one adds nothing

unfoldable pub settle_by : (List Set → List Set) → ℕ → ℕ → List Set → ℕ × List Set
settle_by P zero k e = (k, e)
settle_by P (suc n) k e = cond (same_rows (P e) e) (suc k, e) (settle_by P n (suc k) (P e))

pub record Shape (B L : ℕ) (e : List Set) : Type 0 where
  pub tall : length e ≡ B
  pub wide : Wide L e

-- how the passes end: k passes, with table e; `states` are the tables after 0, 1, .. passes
pub record Ended (P : List Set → List Set) (I : List Set → Type 0) (states : ℕ → List Set) (k : ℕ) (e : List Set) : Type 0 where
  pub held : I e
  pub fixed : P e ≡ e
  pub few : k ≤ total e + 1
  pub before : ℕ
  pub last : k ≡ suc before
  pub state : e ≡ states before
  pub earlier : (j : ℕ) → j < before → ¬ (states (suc j) ≡ states j)

module _ (B L : ℕ) (P : List Set → List Set) (I : List Set → Type 0)
    (shape : (e : List Set) → I e → Shape B L e) (keeps : (e : List Set) → I e → I (P e)) (grows : (e : List Set) → I e → Under e (P e))
    (states : ℕ → List Set) (steps : (n : ℕ) → states (suc n) ≡ P (states n)) where
  pub settle_ends : (n k : ℕ) (e : List Set) → I e → k ≤ total e → B * L < n + k → e ≡ states k → ((j : ℕ) → j < k → ¬ (states (suc j) ≡ states j))
      → Ended P I states (settle_by P n k e).0 (settle_by P n k e).1
  unfolding settle_by
  settle_ends zero k e i h fuel here earlier =
      let s = shape e i in
      let q : total e ≤ B * L = subst (λ (x : ℕ). total e ≤ x * L) s.tall (total_le L e s.wide) in
      absurd (omega arith)
  settle_ends (suc n) k e i h fuel here earlier = go (same_rows (P e) e) refl (settle_ends n (suc k) (P e) (keeps e i))
    where
      alike : length e ≡ length (P e)
      alike = (shape e i).tall ∙ sym (shape (P e) (keeps e i)).tall

      next : P e ≡ states (suc k)
      next = ap P here ∙ sym (steps k)

      go : (t : Bool) → same_rows (P e) e ≡ t
          → (suc k ≤ total (P e) → B * L < n + suc k → P e ≡ states (suc k) → ((j : ℕ) → j < suc k → ¬ (states (suc j) ≡ states j))
          → Ended P I states (settle_by P n (suc k) (P e)).0 (settle_by P n (suc k) (P e)).1)
          → Ended P I states (cond t (suc k, e) (settle_by P n (suc k) (P e))).0 (cond t (suc k, e) (settle_by P n (suc k) (P e))).1
      go true p below = record {
        held = i;
        fixed = same_rows_lem e (P e) p;
        few = omega arith;
        before = k;
        last = refl;
        state = here;
        earlier = earlier;
      }
      go false p below =
          let g : total e < total (P e) = total_rises L e (P e) alike (shape e i).wide (shape (P e) (keeps e i)).wide (grows e i) p in
          let now : ¬ (states (suc k) ≡ states k) = λ q. let z : total (P e) ≡ total e = ap total (next ∙ q ∙ sym here) in omega arith in
          below (omega arith) (omega arith) next (λ j l. changed j l now (earlier j))
        where
          changed : (j : ℕ) → j < suc k → ¬ (states (suc k) ≡ states k) → (j < k → ¬ (states (suc j) ≡ states j)) → ¬ (states (suc j) ≡ states j)
          changed j l now old q =
              let ne : ¬ (j ≡ k) = λ z. now (subst (λ (m : ℕ). states (suc m) ≡ states m) z q) in
              old (omega arith) q

-- ---- the empty table

pub empty_row : (B L b v : ℕ) → has (row_of (replicate B (replicate L false)) b) v ≡ false
empty_row zero L b v = refl
empty_row (suc B) L zero v = none_in L v
empty_row (suc B) L (suc b) v = empty_row B L b v

pub empty_shape : (B L : ℕ) → Shape B L (replicate B (replicate L false))
empty_shape B L = record {
  tall = length-replicate B (replicate L false);
  wide = λ b h. let l : b < B = rw length-replicate at h in
      ap length (get_or-replicate B b (replicate L false) [] l) ∙ length-replicate L false;
}
