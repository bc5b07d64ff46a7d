-- The locals that an allocation owns as a set, and the words of its answer.
use mathlib.Core.Path.{◌≡◌, refl, sym, ap, ◌∙◌, ap₂}
use mathlib.Core.Bool.{Bool, true, false, ◌&&◌, ◌||◌, not, and-true, and-false, or-false, or_comm}
use mathlib.Core.List.{List, [], ◌∷◌, ◌++◌, append-nil, append_assoc}
use Rattle.std.specs.Prelude.{Some}
use Rattle.std.specs.Option.{option_eq}
use Rattle.plank_core.specs.declared.index.AllocId.{AllocId}
use Rattle.sir_analyses.specs.inner.Stages.{owner_named}
use Prim.Native.Nat.compare
use lib.Dec.{compare_is_eq}
use Prim.Native.Nat.{ℕ, zero, suc, ◌+◌, ◌-◌, ◌/◌, ◌%◌, ◌<◌}
use native.Mathlib.Omega.{arith}
use native.Mathlib.Numerals.{add-one}
use lib.ListN.{length, get_or, replicate, length-append}
use lib.Dec.{eqb, ltb}
use borrow.Author.Tests.{eqb-true, ne_eqb, not-false, le-ltb, ltb-true, ltb-false}
use Rattle.plank_core.specs.Lists.{upto, one_if}
use Rattle.plank_core.specs.inner.DenseIndexSet.{contains, added}
use Rattle.plank_core.specs.laws.DenseIndexSet.{contains_added, contains_cleared}
use Rattle.plank_core.specs.laws.Prefixes as Prefixes
use Rattle.sir_data.specs.Records.{blocks, operations, locals, code, outs}
use Rattle.sir_data.specs.Codes.{is_alloc}
use Rattle.sir_data.specs.inner.WellFormed.{WellFormed}
use Rattle.sir_analyses.specs.Liveness.{Set, has, Interval}
use Rattle.sir_analyses.specs.Allocation.{allocs, alloc_at, base, reach, marked, merged}
use Rattle.sir_analyses.specs.Flags.{flags_word}
use Rattle.sir_analyses.specs.Answers.{interval_words, allocation_answer}
use Rattle.sir_analyses.specs.Kinds.{kind_of, kind_words}
use Rattle.sir_analyses.specs.declared.allocation_words.AllocKind.{AllocKind}
use Rattle.sir_analyses.specs.inner.Tables.{Same}
use Rattle.sir_analyses.specs.inner.Discovery.{alloc_sites, FlagsOf, Discovered, Site, Unmarked, head_words}
use Rattle.sir_analyses.specs.inner.Sweep.{sweep_from}
use Rattle.sir_analyses.specs.inner.Writing.{Puts}
use Rattle.sir_analyses.specs.laws.Writing.{interval_count}
use Rattle.sir_analyses.proofs.claims.liveness.GenKill.{beyond}
use Rattle.sir_analyses.proofs.claims.marks.Marks.{reach_length}
use Rattle.sir_analyses.proofs.merged_intervals.SweepProof.{sweep_merged}
use Rattle.sir_analyses.proofs.allocation_liveness.Discovery.{sites_long, alloc_op, site_op, site_block}
use Rattle.sir_analyses.proofs.answers.Writing.{puts_as, puts_then}

-- ---- the owner of a local as an option

-- whether a number of an owner names an allocation
pub named_is : (same : AllocId → AllocId → Bool) → ((x y : AllocId) → same x y ≡ eqb x.0 y.0) → (n : ℕ) (a : AllocId) → option_eq same (owner_named n) (Some a) ≡ eqb n (a.0 + 1)
named_is same told zero a = sym (ne_eqb 0 (a.0 + 1) (λ e. omega (arith, e)))
named_is same told (suc n) a = told (record { 0 = n }) a ∙ rw (add-one a.0) (ap compare_is_eq (sym (compare.suc-suc n a.0)))

-- ---- the locals below v for which a test holds

abbrev pub Below : (ℕ → Bool) → ℕ → List ℕ → Type 0
Below own v set = (u : ℕ) → u < 512 → contains set u ≡ (ltb u v && own u)

pub below_none : (own : ℕ → Bool) (set : List ℕ) → set ≡ replicate 8 0 → Below own 0 set
below_none own set e u h = ap (λ (l : List ℕ). contains l u) e ∙ contains_cleared 8 u ∙ rw (le-ltb u 0 (omega arith)) refl

module _ (own : ℕ → Bool) (set : List ℕ) (v : ℕ) (b : Below own v set) where
  pub below_more : (set' : List ℕ) → length set ≡ 8 → set' ≡ added set v → own v ≡ true → Below own (v + 1) set'
  below_more set' long e t u h =
      ap (λ (l : List ℕ). contains l u) e
      ∙ contains_added set v u (omega arith)
      ∙ or_comm (eqb u v) (contains set u)
      ∙ ap₂ (λ (x y : Bool). x || y) (b u h) (sym (ap (λ (x : Bool). eqb u v && x) t ∙ and-true (eqb u v)))
      ∙ Prefixes.below_more u v own

  pub below_on : own v ≡ false → Below own (v + 1) set
  below_on f u h =
      b u h
      ∙ sym (or-false (ltb u v && own u))
      ∙ ap (λ (x : Bool). (ltb u v && own u) || x) (sym (ap (λ (x : Bool). eqb u v && x) f ∙ and-false (eqb u v)))
      ∙ Prefixes.below_more u v own

-- ---- the reach of an unmarked allocation, and its merged intervals

module _ {w owner flags : List ℕ} (good : WellFormed w) (d : Discovered w owner flags) {a : ℕ} (l : a < length (allocs w)) (u : marked w a ≡ false) where
  owned_reach : (set : List ℕ) → Below (λ v. eqb (get_or owner v 0) (a + 1)) (locals w) set → Same set (reach w (alloc_at w a))
  owned_reach set b v h = b v h ∙ go (ltb v (locals w)) refl
    where
      go : (t : Bool) → ltb v (locals w) ≡ t → (t && eqb (get_or owner v 0) (a + 1)) ≡ has (reach w (alloc_at w a)) v
      go true e = ap (eqb (get_or owner v 0)) (add-one a) ∙ sym (d.reach_is a v l u (ltb-true v (locals w) e))
      go false e = sym (beyond (reach w (alloc_at w a)) v (omega (arith, reach_length w good a, ltb-false v (locals w) e)))

  pub owned_unmarked : {b o : ℕ} {set : List ℕ} → Site w a b o → (length set ≡ 8) × Below (λ v. eqb (get_or owner v 0) (a + 1)) (locals w) set → Unmarked w b o set a
  owned_unmarked {b} {o} {set} x s =
      let f = d.flags_are a l in
      let none : get_or flags a 0 ≡ 0 = eqb-true (get_or flags a 0) 0 (not-false (eqb (get_or flags a 0) 0) (sym f.mark ∙ u)) in
      record { site = x; unmarked = u; unflagged = sym f.word ∙ none; long = s.0; same = owned_reach set s.1 }

-- the array of flags tells
pub mark_told : {w owner flags : List ℕ} → Discovered w owner flags → {a : ℕ} → a < length (allocs w) → {told t : Bool} → told ≡ not (eqb (get_or flags a 0) 0) → told ≡ t → marked w a ≡ t
mark_told d {a} l p q = (d.flags_are a l).mark ∙ sym p ∙ q

-- ---- the answer: its head, then the intervals

-- a kind has three words, and so a head has nine
kind_long : (k : AllocKind) → length (kind_words k) ≡ 3
kind_long (AllocKind.Static size id) = refl
kind_long (AllocKind.Dynamic local) = refl

pub head_long : (w : List ℕ) (b o flags count : ℕ) → length (head_words w b o flags count) ≡ 9
head_long w b o flags count = let l = length-append (kind_words (kind_of w o)) (one_if (not (eqb flags 0)) ∷ flags ∷ count ∷ []) in omega (arith, kind_long (kind_of w o))

-- the site of an allocation, from its number
pub site_there : (w : List ℕ) (good : WellFormed w) {sites : List ℕ} {a : ℕ} → a < length sites → sites ≡ alloc_sites w → Site w a (get_or sites a 0 / 1024) (get_or sites a 0 % 1024)
site_there w good {sites} {a} l e =
    let k : a < length (allocs w) = omega (arith, ap length e, sites_long w) in
    record {
      known = k;
      block_is = ap (λ (ks : List ℕ). get_or ks a 0 / 1024) e ∙ site_block w good a k;
      op_is = ap (λ (ks : List ℕ). get_or ks a 0 % 1024) e ∙ site_op w good a k;
    }

module _ (w : List ℕ) {a b o : ℕ} (good : WellFormed w) (x : Site w a b o) where
  pub site_known : (o < operations w) × (is_alloc (code w o) ≡ true)
  site_known = rw x.op_is (alloc_op w good a x.known)

  pub head_is : {f n : ℕ} → FlagsOf w a f → n ≡ length (merged w a) → head_words w b o f n ++ interval_words (merged w a) ≡ allocation_answer w a
  head_is {f} {n} F q =
      ap (λ (t : List ℕ). (b ∷ o ∷ get_or (outs w o) 0 0 ∷ (kind_words (kind_of w o) ++ t)) ++ interval_words (merged w a)) last_three
      ∙ rw (x.op_is, x.block_is)
      (ap (λ (l : List ℕ). (alloc_at w a).block ∷ (alloc_at w a).op ∷ base w (alloc_at w a) ∷ l) (append_assoc (kind_words (kind_of w (alloc_at w a).op)) (one_if (marked w a) ∷ flags_word w a ∷ length (merged w a) ∷ []) (interval_words (merged w a))))
    where
      last_three : one_if (not (eqb f 0)) ∷ f ∷ n ∷ [] ≡ one_if (marked w a) ∷ flags_word w a ∷ length (merged w a) ∷ []
      last_three = ap (λ (t : Bool). one_if t ∷ f ∷ n ∷ []) (sym F.mark) ∙ ap₂ (λ (k l : ℕ). one_if (marked w a) ∷ k ∷ l ∷ []) F.word q

  pub answer_long : length (allocation_answer w a) ≡ 9 + length (interval_words (merged w a))
  answer_long =
      let l = length-append (kind_words (kind_of w (alloc_at w a).op)) (one_if (marked w a) ∷ flags_word w a ∷ length (merged w a) ∷ interval_words (merged w a)) in
      omega (arith, kind_long (kind_of w (alloc_at w a).op))

  module _ (t : marked w a ≡ true) where
    none : merged w a ≡ []
    none = rw t refl

    pub marked_answer : {f : ℕ} → FlagsOf w a f → head_words w b o f 0 ≡ allocation_answer w a
    marked_answer {f} F = sym (append-nil (head_words w b o f 0)) ∙ ap (λ (is : List Interval). head_words w b o f 0 ++ interval_words is) (sym none) ∙ head_is F (sym (ap length none))

    pub marked_long : 9 ≡ length (allocation_answer w a)
    marked_long = omega (arith, answer_long, ap (λ (is : List Interval). length (interval_words is)) none)

-- what a sweep for some locals puts after the head
abbrev Sweeps : List ℕ → List ℕ → List ℕ → List ℕ → ℕ → Type 0
Sweeps w set out out' r = (s : Set) → length s ≡ locals w → Same set s → Puts 9 (interval_words (sweep_from w s (upto (blocks w)))) out out' r

module _ {w set : List ℕ} {b o a : ℕ} (good : WellFormed w) (x : Unmarked w b o set a) where
  swept : {r : ℕ} {out out' : List ℕ} → Sweeps w set out out' r → Puts 9 (interval_words (merged w a)) out out' r
  swept p = puts_as (ap interval_words (sweep_merged w good a x.unmarked)) (p (reach w (alloc_at w a)) (reach_length w good a) x.same)

  -- counting gives the number of words
  pub swept_count : {n : ℕ} {out counted : List ℕ} → Sweeps w set out counted n → n ≡ length (allocation_answer w a)
  swept_count p = let q = swept p in omega (arith, q.next, answer_long w good x.site)

  pub swept_answer : {n m r : ℕ} {out headed left : List ℕ} → n ≡ length (allocation_answer w a)
      → Puts 0 (head_words w b o 0 ((n - 9) / 3)) out headed m → Sweeps w set headed left r → Puts 0 (allocation_answer w a) out left r
  swept_answer {n} {m} {r} {out} {headed} {left} e p q =
      let z : (n - 9) / 3 ≡ length (merged w a) = omega (arith, e, answer_long w good x.site, interval_count (merged w a)) in
      let g : m ≡ 9 = omega (arith, p.next, head_long w b o 0 ((n - 9) / 3)) in
      let p' : Puts 0 (head_words w b o 0 ((n - 9) / 3)) out headed 9 = rw g at p in
      puts_as (head_is w good x.site (record { word = sym x.unflagged; mark = x.unmarked }) z) (puts_then p' (swept q))
