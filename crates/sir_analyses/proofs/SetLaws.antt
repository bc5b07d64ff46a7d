-- Laws of sets of locals, one Bool for each local.
use mathlib.Core.Path.{◌≡◌, refl, sym, ap, ◌∙◌, subst}
use mathlib.Core.Logic.{◌⊎◌, inl, inr, ⊎_elim}
use mathlib.Core.Bool.{Bool, true, false, not, ◌&&◌, ◌||◌, cond, or-false, and-true}
use Prim.Native.Nat.{ℕ, zero, suc, ◌≤◌, ◌<◌}
use native.Mathlib.Omega.{arith}
use mathlib.Core.List.Memᴰ
use mathlib.Core.List.{List, [], ◌∷◌}
use lib.ListN.{length, set, replicate, length-set}
use lib.Seq.{get_or-set_same, get_or-set_other, ext_get_or}
use lib.Dec.{eqb}
use borrow.Author.Tests.{eqb-true, eqb-false}
use Rattle.plank_core.specs.Lists.{foldl, mem, upto, ◌∈◌}
use Rattle.plank_core.specs.laws.Lists.{or_true_left, or_true_right, or_cases, both_true, none, same_tests, upto_mem, keep_mem, keep_out, mem_in, in_mem, mem_not}
use Rattle.plank_core.specs.laws.Loops.{keep_shift}
use Rattle.sir_analyses.specs.Liveness.{Set, has, add_all, remove_all, members, same_set}

pub has_less : (s : Set) (v : ℕ) → has s v ≡ true → v < length s
has_less [] v t = none false t refl
has_less (x ∷ s) zero t = omega arith
has_less (x ∷ s) (suc v) t = omega (arith, has_less s v t)

pub none_in : (n v : ℕ) → has (replicate n false) v ≡ false
none_in zero v = refl
none_in (suc n) zero = refl
none_in (suc n) (suc v) = none_in n v

pub members_in : (s : Set) (v : ℕ) → has s v ≡ true → v ∈ members s
members_in s v t = keep_mem (has s) (upto_mem v (length s) (has_less s v t)) t

pub members_out : {v : ℕ} (s : Set) → v ∈ members s → has s v ≡ true
members_out s m = (keep_out (has s) (upto (length s)) m).1

pub set_ext : (s t : Set) → length s ≡ length t → ((v : ℕ) → has s v ≡ true → has t v ≡ true) → ((v : ℕ) → has t v ≡ true → has s v ≡ true) → s ≡ t
set_ext s t e f g = ext_get_or false s t e (λ i h. same_tests (has s i) (has t i) (f i) (g i))

-- ---- members added and removed

pub length_add_all : (s : Set) (vs : List ℕ) → length (add_all s vs) ≡ length s
length_add_all s [] = refl
length_add_all s (v ∷ vs) = length_add_all (set s v true) vs ∙ length-set s v true

pub length_remove_all : (s : Set) (vs : List ℕ) → length (remove_all s vs) ≡ length s
length_remove_all s [] = refl
length_remove_all s (v ∷ vs) = length_remove_all (set s v false) vs ∙ length-set s v false

has_set : (s : Set) (i v : ℕ) (x : Bool) → v < length s → has (set s i x) v ≡ cond (eqb v i) x (has s v)
has_set s i v x h = go (eqb v i) refl
  where
    go : (t : Bool) → eqb v i ≡ t → has (set s i x) v ≡ cond t x (has s v)
    go true e = subst (λ (j : ℕ). has (set s j x) v ≡ x) (eqb-true v i e) (get_or-set_same s v x false h)
    go false e = get_or-set_other s i v x false (eqb-false v i e)

pub has_add_all : (s : Set) (vs : List ℕ) (v : ℕ) → v < length s → has (add_all s vs) v ≡ (has s v || mem v vs)
has_add_all s [] v h = sym (or-false (has s v))
has_add_all s (u ∷ vs) v h =
    let k : v < length (set s u true) = rw length-set h in
    has_add_all (set s u true) vs v k ∙ ap (λ (a : Bool). a || mem v vs) (has_set s u v true h) ∙ go (eqb v u) (has s v) (mem v vs)
  where
    go : (e a m : Bool) → (cond e true a || m) ≡ (a || (e || m))
    go true true m = refl
    go true false m = refl
    go false true m = refl
    go false false m = refl

pub has_remove_all : (s : Set) (vs : List ℕ) (v : ℕ) → v < length s → has (remove_all s vs) v ≡ (has s v && not (mem v vs))
has_remove_all s [] v h = sym (and-true (has s v))
has_remove_all s (u ∷ vs) v h =
    let k : v < length (set s u false) = rw length-set h in
    has_remove_all (set s u false) vs v k ∙ ap (λ (a : Bool). a && not (mem v vs)) (has_set s u v false h) ∙ go (eqb v u) (has s v) (mem v vs)
  where
    go : (e a m : Bool) → (cond e false a && not m) ≡ (a && not (e || m))
    go true true m = refl
    go true false m = refl
    go false true m = refl
    go false false m = refl

pub add_keeps : (s : Set) (vs : List ℕ) (v : ℕ) → has s v ≡ true → has (add_all s vs) v ≡ true
add_keeps s vs v t = has_add_all s vs v (has_less s v t) ∙ or_true_left (has s v) (mem v vs) t

pub add_in : {v : ℕ} (s : Set) {vs : List ℕ} → v ∈ vs → v < length s → has (add_all s vs) v ≡ true
add_in {v} s {vs} m h = has_add_all s vs v h ∙ or_true_right (has s v) (mem v vs) (in_mem v m)

pub add_out : {v : ℕ} (s : Set) (vs : List ℕ) → has (add_all s vs) v ≡ true → (has s v ≡ true) ⊎ (v ∈ vs)
add_out {v} s vs t =
    let h : v < length s = rw length_add_all at (has_less (add_all s vs) v t) in
    ⊎_elim inl (λ (m : mem v vs ≡ true). inr (mem_in v vs m)) (or_cases (has s v) (mem v vs) (rw (has_add_all s vs v h) at t))

pub remove_keeps : (s : Set) (vs : List ℕ) (v : ℕ) → ¬ (v ∈ vs) → has s v ≡ true → has (remove_all s vs) v ≡ true
remove_keeps s vs v n t = has_remove_all s vs v (has_less s v t) ∙ both_true (has s v) (not (mem v vs)) t (ap not (mem_not v vs n))

-- the union of lists g b, for b in turn
abbrev pub gather : (ℕ → List ℕ) → Set → List ℕ → Set
gather g s bs = foldl (λ t b. add_all t (g b)) s bs

module _ (g : ℕ → List ℕ) where
  pub length_gather : (s : Set) (bs : List ℕ) → length (gather g s bs) ≡ length s
  length_gather s [] = refl
  length_gather s (b ∷ bs) = length_gather (add_all s (g b)) bs ∙ length_add_all s (g b)

  pub gather_keeps : (s : Set) (bs : List ℕ) (v : ℕ) → has s v ≡ true → has (gather g s bs) v ≡ true
  gather_keeps s [] v t = t
  gather_keeps s (b ∷ bs) v t = gather_keeps (add_all s (g b)) bs v (add_keeps s (g b) v t)

  pub gather_in : {b v : ℕ} (s : Set) {bs : List ℕ} → b ∈ bs → v ∈ g b → v < length s → has (gather g s bs) v ≡ true
  gather_in {b} {v} s (Memᴰ.head {x = c} {xs = bs} e) n h = gather_keeps (add_all s (g c)) bs v (add_in s (rw e at n) h)
  gather_in {b} {v} s (Memᴰ.tail {x = c} m) n h = gather_in (add_all s (g c)) m n (rw length_add_all h)

  pub gather_out : (s : Set) (bs : List ℕ) (v : ℕ) → has (gather g s bs) v ≡ true → (has s v ≡ true) ⊎ ((b : ℕ) × (b ∈ bs) × (v ∈ g b))
  gather_out s [] v t = inl t
  gather_out s (c ∷ bs) v t = go (gather_out (add_all s (g c)) bs v t)
    where
      go : (has (add_all s (g c)) v ≡ true) ⊎ ((b : ℕ) × (b ∈ bs) × (v ∈ g b)) → (has s v ≡ true) ⊎ ((b : ℕ) × (b ∈ (c ∷ bs)) × (v ∈ g b))
      go (inl a) = ⊎_elim inl (λ (m : v ∈ g c). inr (c, Memᴰ.head refl, m)) (add_out s (g c) a)
      go (inr r) = inr (r.0, Memᴰ.tail r.1, r.2)

-- ---- how many members

unfoldable pub card : Set → ℕ
card [] = 0
card (true ∷ s) = suc (card s)
card (false ∷ s) = card s

pub card_le : (s : Set) → card s ≤ length s
unfolding card
card_le [] = omega arith
card_le (true ∷ s) = omega (arith, card_le s)
card_le (false ∷ s) = omega (arith, card_le s)

-- a set that lacks none
pub card_full : (s : Set) (v : ℕ) → length s ≤ card s → v < length s → has s v ≡ true
unfolding card
card_full [] v e h = absurd (omega arith)
card_full (true ∷ s) zero e h = refl
card_full (true ∷ s) (suc v) e h = card_full s v (omega arith) (omega arith)
card_full (false ∷ s) v e h = absurd (omega (arith, card_le s))

pub members_card : (s : Set) → length (members s) ≡ card s
unfolding card
members_card [] = refl
members_card (true ∷ s) = ap suc (keep_shift (has (true ∷ s)) 0 (length s) ∙ members_card s)
members_card (false ∷ s) = keep_shift (has (false ∷ s)) 0 (length s) ∙ members_card s

-- ---- a set that only grew

abbrev pub Within : Set → Set → Type 0
Within s t = (v : ℕ) → has s v ≡ true → has t v ≡ true

pub card_grows : (s t : Set) → length s ≡ length t → Within s t → card s ≤ card t
unfolding card
card_grows [] t e f = omega arith
card_grows (x ∷ s) [] e f = absurd (omega arith)
card_grows (true ∷ s) (true ∷ t) e f = omega (arith, card_grows s t (omega arith) (λ v. f (suc v)))
card_grows (true ∷ s) (false ∷ t) e f = none false (f 0 refl) refl
card_grows (false ∷ s) (true ∷ t) e f = omega (arith, card_grows s t (omega arith) (λ v. f (suc v)))
card_grows (false ∷ s) (false ∷ t) e f = card_grows s t (omega arith) (λ v. f (suc v))

pub card_rises : (s t : Set) → length s ≡ length t → Within s t → same_set t s ≡ false → card s < card t
unfolding card
card_rises [] [] e f d = none true refl d
card_rises [] (y ∷ t) e f d = absurd (omega arith)
card_rises (x ∷ s) [] e f d = absurd (omega arith)
card_rises (true ∷ s) (true ∷ t) e f d = omega (arith, card_rises s t (omega arith) (λ v. f (suc v)) d)
card_rises (true ∷ s) (false ∷ t) e f d = none false (f 0 refl) refl
card_rises (false ∷ s) (true ∷ t) e f d = omega (arith, card_grows s t (omega arith) (λ v. f (suc v)))
card_rises (false ∷ s) (false ∷ t) e f d = card_rises s t (omega arith) (λ v. f (suc v)) d

pub same_self : (s : Set) → same_set s s ≡ true
same_self [] = refl
same_self (true ∷ s) = same_self s
same_self (false ∷ s) = same_self s

pub same_set_lem : (s t : Set) → same_set s t ≡ true → s ≡ t
same_set_lem [] [] d = refl
same_set_lem [] (y ∷ t) d = none false d refl
same_set_lem (x ∷ s) [] d = none false d refl
same_set_lem (true ∷ s) (true ∷ t) d = ap {B = List Bool} (λ r. true ∷ r) (same_set_lem s t d)
same_set_lem (true ∷ s) (false ∷ t) d = none false d refl
same_set_lem (false ∷ s) (true ∷ t) d = none false d refl
same_set_lem (false ∷ s) (false ∷ t) d = ap {B = List Bool} (λ r. false ∷ r) (same_set_lem s t d)

-- adding changes nothing, or gives more members
pub add_card : (s : Set) (vs : List ℕ) → (add_all s vs ≡ s) ⊎ (card s < card (add_all s vs))
add_card s vs = go (same_set (add_all s vs) s) refl
  where
    go : (t : Bool) → same_set (add_all s vs) s ≡ t → (add_all s vs ≡ s) ⊎ (card s < card (add_all s vs))
    go true e = inl (same_set_lem (add_all s vs) s e)
    go false e = inr (card_rises s (add_all s vs) (sym (length_add_all s vs)) (λ v. add_keeps s vs v) e)
