-- Laws of tables that grow: whether a step, or several one after the other, add a member.
use mathlib.Core.Path.{◌≡◌, refl, sym, ap, ap₂, ◌∙◌}
use mathlib.Core.Logic.{⊎_elim}
use mathlib.Core.Bool.{Bool, true, false, not, ◌&&◌, ◌||◌, and-not_self}
use mathlib.Core.List.{List}
use Prim.Native.Nat.{ℕ, ◌+◌, ◌*◌, ◌/◌, ◌%◌, ◌≤◌, ◌<◌}
use native.Mathlib.Omega.{arith}
use lib.ListN.{length}
use lib.Dec.{eqb}
use borrow.Author.Tests.{eqb-true, eq-eqb, not-true}
use Rattle.plank_core.specs.laws.Lists.{and_true_left, and_true_right, both_true, or_true_left, or_true_right, or_cases, bool_or, refuted, same_tests, none, any_some, any_none, any_find}
use Rattle.plank_core.specs.inner.DenseIndexSet.{contains, added, row_union, grows}
use Rattle.sir_analyses.specs.inner.Tables.{Adds, More, grew, Sends}
use Rattle.sir_analyses.proofs.Tables.{adds_one, adds_union, adds_as, adds_then, adds_none}

-- a member that t lacks and p adds
pub record Fresh (n : ℕ) (t : List ℕ) (p : ℕ → ℕ → Bool) : Type 0 where
  pub row : ℕ
  pub place : ℕ
  pub below : row < n
  pub small : place < 512
  pub lacked : contains t (512 * row + place) ≡ false
  pub put : p row place ≡ true

module _ (n : ℕ) {t : List ℕ} {p : ℕ → ℕ → Bool} {t' : List ℕ} (a : Adds t p t') (long : 8 * n ≤ length t) where
  pub grew_in : Fresh n t p → grew n t t' ≡ true
  unfolding grew
  grew_in f =
      let s = f.small in
      any_some (λ k. contains t' k && not (contains t k)) 0 (512 * n) (512 * f.row + f.place) (omega arith) (omega arith)
      (both_true (contains t' (512 * f.row + f.place)) (not (contains t (512 * f.row + f.place)))
      (a.same f.row f.place (omega arith) s ∙ or_true_right (contains t (512 * f.row + f.place)) (p f.row f.place) f.put)
      (ap not f.lacked))

  pub grew_out : grew n t t' ≡ true → Fresh n t p
  unfolding grew
  grew_out g =
      let w = any_find (λ k. contains t' k && not (contains t k)) 0 (512 * n) g in
      let k : ℕ = w.0 in
      let e : 512 * (k / 512) + k % 512 ≡ k = omega arith in
      let z : contains t (512 * (k / 512) + k % 512) ≡ false = ap (contains t) e ∙ not-true (contains t k) (and_true_right (contains t' k) (not (contains t k)) w.3) in
      let y : contains t' (512 * (k / 512) + k % 512) ≡ true = ap (contains t') e ∙ and_true_left (contains t' k) (not (contains t k)) w.3 in
      record {
        row = k / 512;
        place = k % 512;
        below = omega arith;
        small = omega arith;
        lacked = z;
        put = sym (ap (λ (x : Bool). x || p (k / 512) (k % 512)) z) ∙ sym (a.same (k / 512) (k % 512) (omega arith) (omega arith)) ∙ y;
      }

-- where none of the first n rows grew, their members stay
pub grew_not : (n : ℕ) (t t' : List ℕ) → grew n t t' ≡ false → More n t t' → (k : ℕ) → k < 512 * n → contains t' k ≡ contains t k
unfolding grew
grew_not n t t' g more k l =
    same_tests (contains t' k) (contains t k)
    (λ y. ⊎_elim (λ (x : contains t k ≡ true). x)
    (λ (x : contains t k ≡ false). none _ (any_some (λ j. contains t' j && not (contains t j)) 0 (512 * n) k (omega arith) (omega arith) (both_true (contains t' k) (not (contains t k)) y (ap not x))) g)
    (bool_or (contains t k)))
    (more k l)

pub same_grew : (n : ℕ) (t t' : List ℕ) → ((k : ℕ) → k < 512 * n → contains t' k ≡ contains t k) → grew n t t' ≡ false
unfolding grew
same_grew n t t' h = any_none (λ k. contains t' k && not (contains t k)) 0 (512 * n) (λ k a b. ap (λ (x : Bool). x && not (contains t k)) (h k (omega arith)) ∙ and-not_self (contains t k))

-- ---- the two functions of layer 1

module _ (n : ℕ) (t : List ℕ) (row : ℕ) (l : row < n) (long : 8 * n ≤ length t) where
  pub sends_one : (i : ℕ) → i < 512 → {t' : List ℕ} {told : Bool} → told ≡ not (contains t (512 * row + i)) → t' ≡ added t (512 * row + i) → Sends n t (λ r v. eqb r row && eqb v i) t' told
  sends_one i h {t'} {told} q e = record { adds = a; tells = same_tests told (grew n t t') there here }
    where
      a : Adds t (λ r v. eqb r row && eqb v i) t'
      a = rw e (adds_one t row i h)

      there : told ≡ true → grew n t t' ≡ true
      there y = grew_in n a long (record { row = row; place = i; below = l; small = h; lacked = not-true (contains t (512 * row + i)) (sym q ∙ y); put = rw (eq-eqb row row refl, eq-eqb i i refl) })

      here : grew n t t' ≡ true → told ≡ true
      here g =
          let f = grew_out n a long g in
          let r : f.row ≡ row = eqb-true f.row row (and_true_left (eqb f.row row) (eqb f.place i) f.put) in
          let v : f.place ≡ i = eqb-true f.place i (and_true_right (eqb f.row row) (eqb f.place i) f.put) in
          q ∙ ap not (rw (r, v) at f.lacked)

  pub sends_union : (s : List ℕ) → {t' : List ℕ} {told : Bool} → told ≡ grows t row s → t' ≡ row_union t row s → Sends n t (λ r v. eqb r row && contains s v) t' told
  unfolding grows
  sends_union s {t'} {told} q e = record { adds = a; tells = same_tests told (grew n t t') there here }
    where
      a : Adds t (λ r v. eqb r row && contains s v) t'
      a = rw e (adds_union t row s)

      there : told ≡ true → grew n t t' ≡ true
      there y =
          let w = any_find (λ v. contains s v && not (contains t (512 * row + v))) 0 512 (sym q ∙ y) in
          grew_in n a long (record {
            row = row;
            place = w.0;
            below = l;
            small = w.2;
            lacked = not-true (contains t (512 * row + w.0)) (and_true_right (contains s w.0) (not (contains t (512 * row + w.0))) w.3);
            put = rw (eq-eqb row row refl) (and_true_left (contains s w.0) (not (contains t (512 * row + w.0))) w.3);
          })

      here : grew n t t' ≡ true → told ≡ true
      here g =
          let f = grew_out n a long g in
          let r : f.row ≡ row = eqb-true f.row row (and_true_left (eqb f.row row) (contains s f.place) f.put) in
          let z : contains t (512 * row + f.place) ≡ false = rw r at f.lacked in
          q ∙ any_some (λ v. contains s v && not (contains t (512 * row + v))) 0 512 f.place (omega arith) f.small
          (both_true (contains s f.place) (not (contains t (512 * row + f.place))) (and_true_right (eqb f.row row) (contains s f.place) f.put) (ap not z))

-- ---- one step after another

pub adds_more : (n : ℕ) {t : List ℕ} {p : ℕ → ℕ → Bool} {t' : List ℕ} → Adds t p t' → 8 * n ≤ length t → More n t t'
adds_more n {t} {p} {t'} a long k l y =
    let e : 512 * (k / 512) + k % 512 ≡ k = omega arith in
    rw e at (a.same (k / 512) (k % 512) (omega arith) (omega arith)) ∙ or_true_left (contains t k) (p (k / 512) (k % 512)) y

pub grew_join : (n : ℕ) (t t' t'' : List ℕ) → More n t t' → More n t' t'' → (grew n t t' || grew n t' t'') ≡ grew n t t''
unfolding grew
grew_join n t t' t'' a b = same_tests (grew n t t' || grew n t' t'') (grew n t t'') there here
  where
    found : (x y : List ℕ) (k : ℕ) → k < 512 * n → contains x k ≡ false → contains y k ≡ true → grew n x y ≡ true
    found x y k l f t = any_some (λ j. contains y j && not (contains x j)) 0 (512 * n) k (omega arith) (omega arith) (both_true (contains y k) (not (contains x k)) t (ap not f))

    there : (grew n t t' || grew n t' t'') ≡ true → grew n t t'' ≡ true
    there y = ⊎_elim
        (λ (g : grew n t t' ≡ true).
        let w = any_find (λ j. contains t' j && not (contains t j)) 0 (512 * n) g in
        let l : w.0 < 512 * n = omega (arith, w.2) in
        found t t'' w.0 l (not-true (contains t w.0) (and_true_right (contains t' w.0) (not (contains t w.0)) w.3)) (b w.0 l (and_true_left (contains t' w.0) (not (contains t w.0)) w.3)))
        (λ (g : grew n t' t'' ≡ true).
        let w = any_find (λ j. contains t'' j && not (contains t' j)) 0 (512 * n) g in
        let l : w.0 < 512 * n = omega (arith, w.2) in
        let f : contains t' w.0 ≡ false = not-true (contains t' w.0) (and_true_right (contains t'' w.0) (not (contains t' w.0)) w.3) in
        found t t'' w.0 l (refuted (contains t w.0) (λ x. none (contains t' w.0) (a w.0 l x) f)) (and_true_left (contains t'' w.0) (not (contains t' w.0)) w.3))
        (or_cases (grew n t t') (grew n t' t'') y)

    here : grew n t t'' ≡ true → (grew n t t' || grew n t' t'') ≡ true
    here g =
        let w = any_find (λ j. contains t'' j && not (contains t j)) 0 (512 * n) g in
        let l : w.0 < 512 * n = omega (arith, w.2) in
        ⊎_elim
        (λ (x : contains t' w.0 ≡ true).
        or_true_left (grew n t t') (grew n t' t'') (found t t' w.0 l (not-true (contains t w.0) (and_true_right (contains t'' w.0) (not (contains t w.0)) w.3)) x))
        (λ (x : contains t' w.0 ≡ false).
        or_true_right (grew n t t') (grew n t' t'') (found t' t'' w.0 l x (and_true_left (contains t'' w.0) (not (contains t w.0)) w.3)))
        (bool_or (contains t' w.0))

module _ {n : ℕ} {t : List ℕ} {p : ℕ → ℕ → Bool} {t' : List ℕ} {told : Bool} where
  pub sends_as : {q : ℕ → ℕ → Bool} → ((r i : ℕ) → i < 512 → p r i ≡ q r i) → Sends n t p t' told → Sends n t q t' told
  sends_as e s = record { adds = adds_as e s.adds; tells = s.tells }

  -- `now` tells whether either grew
  pub sends_then : {q : ℕ → ℕ → Bool} {t'' : List ℕ} {now later : Bool} → 8 * n ≤ length t → Sends n t p t' told → Sends n t' q t'' later → now ≡ (told || later) → Sends n t (λ r i. p r i || q r i) t'' now
  sends_then {t'' = t''} long a b e = record {
    adds = adds_then a.adds b.adds;
    tells = e ∙ ap₂ (λ x y. x || y) a.tells b.tells ∙ grew_join n t t' t'' (adds_more n a.adds long) (adds_more n b.adds (omega (arith, a.adds.long)));
  }

pub sends_none : (n : ℕ) (t : List ℕ) {p : ℕ → ℕ → Bool} → ((r i : ℕ) → i < 512 → p r i ≡ false) → Sends n t p t false
sends_none n t e = record { adds = adds_none e; tells = sym (same_grew n t t (λ k l. refl)) }
