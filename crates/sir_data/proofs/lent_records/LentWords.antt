-- Lent records read into words: their head, and all of them.
use Rattle.std.proofs.Common.{◌≡◌, ℕ, zero, suc, ◌-◌, ◌*◌, ◌/◌, ◌%◌, ◌≤◌, Bool, false, cond, List, [], ◌∷◌, ◌++◌, length, take, drop, replicate, sym, refl, ap, ◌∙◌, subst, arith, length-append, length-drop, length-take-le, get_or-take, ext_get_or, le-ltb, eq-eqb}
use lib.ListN.{length-replicate, get_or-append}
use Rattle.sir_data.specs.Pages.{word_at, pages_for}
use Rattle.sir_data.specs.Records.{word, word_count}
use Rattle.sir_data.specs.Rules.{first, head_rules, field_rules, operand_rules}
use Rattle.sir_data.specs.Paging.{words_of, bad_records, unfit, padded}
use Rattle.sir_data.specs.inner.WellFormed.{Sized}
use Rattle.sir_data.specs.inner.LentRecords.{fit_rules, Lent}
use Rattle.sir_data.specs.laws.Rules.{by_later, by_earlier}
use Rattle.sir_data.specs.laws.Bytes.{length_words, words_at, word_part}
use Rattle.sir_data.specs.laws.Paging.{zeros_after, padded_word, padded_length}
use Rattle.sir_data.specs.laws.LentRecords as L

-- ---- nine words at least: the head is copied

module _ (r : List ℕ) (some : 36 ≤ length r) where
  abbrev front : List ℕ
  front = take 36 r

  front_length : length front ≡ 36
  front_length = length-take-le 36 r some

  -- a word of the first nine
  front_word : (i : ℕ) → i ≤ 8 → word_at front i ≡ word_at r i
  front_word i h = word_part r 0 36 i (omega arith) ∙ ap (word_at r) (omega arith)

  module _ {head : List ℕ} (copied : head ≡ words_of front ++ drop (length front / 4) (replicate 9 0)) where
    head_word : (i : ℕ) → i ≤ 8 → word head i ≡ word (padded (words_of r)) i
    head_word i h =
        ap (λ (xs : List ℕ). word xs i) copied
        ∙ get_or-append (words_of front) (drop (length front / 4) (replicate 9 0)) 0 i (omega (arith, length_words front, front_length))
        ∙ words_at front i (omega (arith, front_length)) ∙ front_word i h ∙ sym (padded_word (words_of r) i ∙ words_at r i (omega arith))

    pub head_rules_lem : head_rules head ≡ head_rules (padded (words_of r))
    head_rules_lem = L.head_same head (padded (words_of r)) head_word

    pub head_count : word_count head ≡ word_count (words_of r)
    head_count =
        rw (head_word 1 (omega arith), head_word 2 (omega arith), head_word 3 (omega arith), head_word 4 (omega arith), head_word 5 (omega arith)) (L.padded_count (words_of r))

  module _ (whole : length r % 4 ≡ 0) where
    abbrev head_asked : List (ℕ × Bool)
    head_asked = head_rules (padded (words_of r))

    good : bad_records r ≡ false
    good = rw (le-ltb (length r) 36 some, eq-eqb (length r % 4) 0 whole)

    -- the head decides, or the number of words
    pub by_head : ¬ (first head_asked ≡ 0) → first (fit_rules r) ≡ first head_asked
    by_head n = rw good (by_earlier head_asked ((6, unfit (words_of r)) ∷ []) refl n)

    pub by_count : first head_asked ≡ 0 → first (fit_rules r) ≡ cond (unfit (words_of r)) 6 0
    by_count z = rw good (by_later head_asked ((6, unfit (words_of r)) ∷ []) refl z)

-- ---- all words

drop_zeros : (k m : ℕ) → drop k (replicate m 0) ≡ replicate {A = ℕ} (m - k) 0
drop_zeros zero m = let e : m - 0 ≡ m = omega arith in rw e
drop_zeros (suc k) zero = let e : 0 - suc k ≡ 0 = omega arith in rw e
drop_zeros (suc k) (suc m) = let e : suc m - suc k ≡ m - k = omega arith in rw e (drop_zeros k m)

module _ (r : List ℕ) where
  -- the rules by which words are refused after their number
  abbrev rest : List (ℕ × Bool)
  rest = field_rules (padded (words_of r)) ++ operand_rules (padded (words_of r))

  pub refused_early : {number : ℕ} {new : List ℕ} → ¬ (number ≡ 0) → number ≡ first (fit_rules r) → Lent r new number
  refused_early n e = record { number_is = e ∙ sym (by_earlier (fit_rules r) rest refl (λ z. n (e ∙ z))); few = λ z. absurd (n z); room = λ z. absurd (n z); words = λ z. absurd (n z) }

  module _ (passed : first (fit_rules r) ≡ 0) where
    pub words_few : length r / 4 ≤ 14665
    words_few = omega (arith, L.few (λ w. []) r passed, length_words r)

    module _ {new : List ℕ} (copied : new ≡ words_of r ++ drop (length r / 4) (replicate 14742 0)) where
      new_length : length new ≡ 14742
      new_length =
          ap length copied ∙ length-append (words_of r) (drop (length r / 4) (replicate 14742 0))
          ∙ omega (arith, words_few, length_words r, length-drop {A = ℕ} (length r / 4) (replicate 14742 0), length-replicate {A = ℕ} 14742 0)

      pub front_fits : 126 * pages_for (length r / 4) ≤ length new
      front_fits = omega (arith, words_few, new_length)

      -- past the words the slice holds zeros
      new_word : (i : ℕ) → word new i ≡ word (words_of r) i
      new_word i = ap (λ (xs : List ℕ). word xs i) (copied ∙ ap (λ (xs : List ℕ). words_of r ++ xs) (drop_zeros (length r / 4) 14742)) ∙ zeros_after (words_of r) (14742 - length r / 4) i

      pub front_is : take (126 * pages_for (length r / 4)) new ≡ padded (words_of r)
      front_is =
          let n : ℕ = 126 * pages_for (length r / 4) in
          let long : length (take n new) ≡ n = length-take-le n new front_fits in
          ext_get_or 0 (take n new) (padded (words_of r)) (long ∙ sym (padded_length (words_of r) ∙ ap (λ (k : ℕ). 126 * pages_for k) (length_words r)))
          (λ i l. get_or-take n new i 0 (omega arith) ∙ new_word i ∙ sym (padded_word (words_of r) i))

      pub front_sized : Sized (take (126 * pages_for (length r / 4)) new)
      front_sized =
          subst Sized (sym front_is) (L.lent_sized (λ w. []) r passed)

      pub read : {number : ℕ} → number ≡ first (field_rules (take (126 * pages_for (length r / 4)) new) ++ operand_rules (take (126 * pages_for (length r / 4)) new)) → Lent r new number
      read e = record {
        number_is = e ∙ ap (λ (w : List ℕ). first (field_rules w ++ operand_rules w)) front_is ∙ sym (by_later (fit_rules r) rest refl passed);
        few = λ z. words_few;
        room = λ z. front_fits;
        words = λ z. front_is;
      }
