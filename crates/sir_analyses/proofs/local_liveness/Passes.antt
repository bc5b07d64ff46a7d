-- Passes over tables are the passes of the definition, until one adds nothing.
use mathlib.Core.Path.{◌≡◌, refl, sym, ap, ap₂, subst, ◌∙◌}
use mathlib.Core.Logic.{⊎_elim}
use mathlib.Core.Bool.{Bool, true, false, not, ◌||◌, cond}
use mathlib.Core.List.{List, [], reverse, reverse-cons}
use Prim.Native.Nat.{ℕ, suc, ◌+◌, ◌-◌, ◌*◌, ◌/◌, ◌%◌, ◌≤◌, ◌<◌}
use native.Mathlib.Omega.{arith}
use native.Mathlib.Nat.{mul-le-mul}
use native.Mathlib.Numerals.{add-one}
use lib.ListN.{length, get_or, drop, replicate, get_or-eq_default}
use lib.Seq.{ext_get_or, drop-cons, drop-length}
use Rattle.plank_core.specs.Lists.{foldl}
use Rattle.plank_core.specs.laws.Lists.{split, refuted, none}
use Rattle.plank_core.specs.inner.DenseIndexSet.{contains}
use Rattle.sir_data.specs.Records.{blocks, locals}
use Rattle.sir_data.specs.inner.WellFormed.{WellFormed}
use Rattle.sir_analyses.specs.Order.{blocks_rpo}
use Rattle.sir_analyses.specs.Liveness.{Set, has, same_rows, row_of, back, pass, no_exits, settle, settled, rounds}
use Rattle.sir_analyses.specs.inner.Tables.{SameRows, More, grew, Shown, SentOn, Stepped}
use Rattle.sir_analyses.proofs.SetLaws.{has_less}
use Rattle.sir_analyses.proofs.claims.liveness.RowLaws.{Under, total, total_le, total_rises, same_rows_lem, empty_row, empty_shape, rows_self}
use Rattle.sir_analyses.proofs.Tables.{cleared_row, cleared_long}
use Rattle.sir_analyses.proofs.local_liveness.Growth.{grew_join, grew_not, same_grew}
use Rattle.plank_core.specs.laws.Folds.{foldl_snoc}

-- ---- one step after another

module _ {w exits exits' sent' : List ℕ} {step : List Set → List Set} {told : Bool} where
  pub stepped_as : {step' : List Set → List Set} → ((e : List Set) → step e ≡ step' e) → Stepped w step exits exits' sent' told → Stepped w step' exits exits' sent' told
  stepped_as h g = record {
    exits_long = g.exits_long;
    sent_long = g.sent_long;
    same = λ e s. subst (Shown w exits') (h e) (g.same e s);
    sent_on = g.sent_on;
    more = g.more;
    tells = g.tells;
  }

  pub stepped_then : {next : List Set → List Set} {exits'' sent'' : List ℕ} {later now : Bool} → Stepped w step exits exits' sent' told → Stepped w next exits' exits'' sent'' later
      → now ≡ (told || later) → Stepped w (λ e. next (step e)) exits exits'' sent'' now
  stepped_then {exits'' = exits''} a b e = record {
    exits_long = b.exits_long;
    sent_long = b.sent_long;
    same = λ x s. b.same (step x) (a.same x s);
    sent_on = b.sent_on;
    more = λ k l t. b.more k l (a.more k l t);
    tells = e ∙ ap₂ (λ x y. x || y) a.tells b.tells ∙ grew_join (blocks w) exits exits' exits'' a.more b.more;
  }

pub stepped_none : {w exits sent : List ℕ} → length exits ≡ 2048 → length sent ≡ 2048 → SentOn w exits sent → Stepped w (λ e. e) exits exits sent false
stepped_none {w} {exits} a b on = record {
  exits_long = a;
  sent_long = b;
  same = λ e s. s;
  sent_on = on;
  more = λ k l t. t;
  tells = sym (same_grew (blocks w) exits exits (λ k l. refl));
}

-- the blocks from place k of the order on, backwards
abbrev pub from : List ℕ → List ℕ → ℕ → List Set → List Set
from w order k e = foldl (back w) e (reverse (drop k order))

pub from_none : (w order : List ℕ) (e : List Set) → e ≡ from w order (length order) e
from_none w order e = sym (ap (λ (xs : List ℕ). foldl (back w) e (reverse xs)) (drop-length order))

pub from_all : (w order : List ℕ) (k : ℕ) → k ≡ 0 → order ≡ blocks_rpo w → (e : List Set) → from w order k e ≡ pass w e
from_all w order k z h e = ap₂ (λ (xs : List ℕ) (j : ℕ). from w xs j e) h z

pub from_next : (w order : List ℕ) (k : ℕ) → 0 < k → k ≤ length order → (e : List Set) → back w (from w order k e) (get_or order (k - 1) 0) ≡ from w order (k - 1) e
from_next w order k p h e =
    let q : suc (k - 1) ≡ k = omega arith in
    sym (ap (λ (xs : List ℕ). foldl (back w) e (reverse xs)) (drop-cons order (k - 1) 0 (omega arith))
    ∙ ap (foldl (back w) e) (reverse-cons (get_or order (k - 1) 0) (drop (suc (k - 1)) order))
    ∙ foldl_snoc (back w) e (reverse (drop (suc (k - 1)) order)) (get_or order (k - 1) 0)
    ∙ ap (λ (j : ℕ). back w (from w order j e) (get_or order (k - 1) 0)) q)

-- ---- tables of sets that are shown

module _ {w : List ℕ} (good : WellFormed w) where
  module _ {t t' : List ℕ} {e e' : List Set} (s : Shown w t e) (s' : Shown w t' e') where
    shown_same : ((k : ℕ) → k < 512 * blocks w → contains t' k ≡ contains t k) → e' ≡ e
    shown_same h = ext_get_or [] e' e (s'.tall ∙ sym s.tall) (λ b l.
        let lb : b < blocks w = omega (arith, s'.tall) in
        ext_get_or false (row_of e' b) (row_of e b) (s'.wide b l ∙ sym (s.wide b (omega (arith, s.tall)))) (λ i k.
        let li : i < 512 = omega (arith, s'.wide b l, good.sized.locals_most) in
        sym (s'.rows b i lb li) ∙ h (512 * b + i) (omega arith) ∙ s.rows b i lb li))

    same_shown : e' ≡ e → (k : ℕ) → k < 512 * blocks w → contains t' k ≡ contains t k
    same_shown q k l =
        let d : 512 * (k / 512) + k % 512 ≡ k = omega arith in
        rw d at (s'.rows (k / 512) (k % 512) (omega arith) (omega arith) ∙ ap (λ (x : List Set). has (row_of x (k / 512)) (k % 512)) q ∙ sym (s.rows (k / 512) (k % 512) (omega arith) (omega arith)))

    -- a pass that adds nothing leaves the sets as they were, and one that adds does not
    pub rows_tell : More (blocks w) t t' → same_rows e' e ≡ not (grew (blocks w) t t')
    rows_tell more = go (grew (blocks w) t t') refl
      where
        go : (x : Bool) → grew (blocks w) t t' ≡ x → same_rows e' e ≡ not x
        go false g = ap (λ (x : List Set). same_rows x e) (shown_same (grew_not (blocks w) t t' g more)) ∙ rows_self e
        go true g = refuted (same_rows e' e) (λ y.
            none (grew (blocks w) t t') g (same_grew (blocks w) t t' (same_shown (same_rows_lem e e' y))))

    pub shown_under : More (blocks w) t t' → Under e e'
    shown_under more b v y =
        ⊎_elim
        (λ (lb : b < blocks w).
        let lv : v < 512 = omega (arith, has_less (row_of e b) v y, s.wide b (omega (arith, s.tall)), good.sized.locals_most) in
        sym (s'.rows b v lb lv) ∙ more (512 * b + v) (omega arith) (s.rows b v lb lv ∙ y))
        (λ (lb : blocks w ≤ b). none (has (row_of e b) v) y (ap (λ (r : Set). has r v) (get_or-eq_default e [] {n = b} (omega (arith, s.tall)))))
        (split b (blocks w))

  pub shown_few : {exits : List ℕ} {e : List Set} → Shown w exits e → total e ≤ blocks w * locals w
  shown_few {e = e} s = subst (λ (n : ℕ). total e ≤ n * locals w) s.tall (total_le (locals w) e s.wide)

-- ---- passes until one adds nothing

-- k passes are done, and the definition goes on from the sets that are shown
pub record Settling (w exits sent : List ℕ) (k : ℕ) : Type 0 where
  pub exits_long : length exits ≡ 2048
  pub sent_long : length sent ≡ 2048
  pub sent_on : SentOn w exits sent
  pub sets : List Set
  pub shown : Shown w exits sets
  pub few : k ≤ total sets
  pub rest : settle (blocks w * locals w + 1 - k) w k sets ≡ settled w

module _ {w : List ℕ} (good : WellFormed w) where
  pub settling_starts : (exits sent : List ℕ) → exits ≡ replicate 2048 0 → sent ≡ replicate 2048 0 → Settling w exits sent 0
  settling_starts exits sent p q = record {
    exits_long = cleared_long exits 2048 p;
    sent_long = cleared_long sent 2048 q;
    sent_on = λ b r v l m h t. none (contains sent (512 * b + v)) t (cleared_row sent 2048 b v q);
    sets = no_exits w;
    shown = record {
      tall = (empty_shape (blocks w) (locals w)).tall;
      wide = (empty_shape (blocks w) (locals w)).wide;
      rows = λ b i l h. cleared_row exits 2048 b i p ∙ sym (empty_row (blocks w) (locals w) b i);
    };
    few = omega arith;
    rest = let e : blocks w * locals w + 1 - 0 ≡ blocks w * locals w + 1 = omega arith in ap (λ (n : ℕ). settle n w 0 (no_exits w)) e;
  }

  module _ {exits sent : List ℕ} {k : ℕ} (g : Settling w exits sent k) where
    pub settling_few : k ≤ blocks w * locals w
    settling_few = omega (arith, g.few, shown_few good g.shown)

    pub settling_small : k ≤ 131072
    settling_small = let m : blocks w * locals w ≤ 256 * 512 = mul-le-mul good.sized.blocks_most good.sized.locals_most in omega (arith, settling_few)

    one_pass : settle (blocks w * locals w + 1 - k) w k g.sets
        ≡ cond (same_rows (pass w g.sets) g.sets) (suc k, g.sets) (settle (blocks w * locals w - k) w (suc k) (pass w g.sets))
    one_pass = let e : blocks w * locals w + 1 - k ≡ suc (blocks w * locals w - k) = omega (arith, settling_few) in ap (λ (n : ℕ). settle n w k g.sets) e

    module _ {exits' sent' : List ℕ} {told : Bool} (a : Stepped w (pass w) exits exits' sent' told) where
      next : Shown w exits' (pass w g.sets)
      next = a.same g.sets g.shown

      test : same_rows (pass w g.sets) g.sets ≡ not told
      test = rows_tell good g.shown next a.more ∙ ap not (sym a.tells)

      pub settling_more : told ≡ true → Settling w exits' sent' (k + 1)
      settling_more y =
          let n : same_rows (pass w g.sets) g.sets ≡ false = test ∙ ap not y in
          let e : blocks w * locals w + 1 - (k + 1) ≡ blocks w * locals w - k = omega arith in
          record {
            exits_long = a.exits_long;
            sent_long = a.sent_long;
            sent_on = a.sent_on;
            sets = pass w g.sets;
            shown = next;
            few = omega (arith, g.few, total_rises (locals w) g.sets (pass w g.sets) (g.shown.tall ∙ sym next.tall) g.shown.wide next.wide (shown_under good g.shown next a.more) n);
            rest = rw (e, add-one) (sym (one_pass ∙ rw n) ∙ g.rest);
          }

      pub settling_ends : told ≡ false → (k + 1 ≡ rounds w) × SameRows exits' (settled w).1 (blocks w)
      settling_ends y =
          let n : same_rows (pass w g.sets) g.sets ≡ true = test ∙ ap not y in
          let e : settled w ≡ (suc k, g.sets) = sym g.rest ∙ one_pass ∙ rw n in
          let same : pass w g.sets ≡ g.sets = same_rows_lem g.sets (pass w g.sets) n in
          (add-one k ∙ sym (ap (λ r. r.0) e), subst (λ (x : List Set). SameRows exits' x (blocks w)) (same ∙ sym (ap (λ r. r.1) e)) next.rows)
