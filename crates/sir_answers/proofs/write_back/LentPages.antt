-- The records of an image that is loaded, and the pages of lent records.
use mathlib.Core.Path.{◌≡◌, refl, sym, ap, ◌∙◌, subst}
use mathlib.Core.Bool.{Bool}
use mathlib.Core.List.{List, [], ◌∷◌, ◌++◌}
use Prim.Native.Nat.{ℕ, ◌*◌, ◌/◌, ◌≤◌, ◌<◌}
use native.Mathlib.Omega.{arith}
use lib.ListN.{length, take, drop, take-append-drop}
use lib.Seq.{get_or-take, take-append-le, length-take-le}
use Rattle.sir_data.specs.Pages.{pages_for}
use Rattle.sir_data.specs.Records.{word, word_count}
use Rattle.sir_data.specs.Rules.{first, field_rules, operand_rules, rules_of}
use Rattle.sir_data.specs.Paging.{records_of, words_of, bad_records, unfit, padded, pages_of}
use Rattle.sir_data.specs.inner.WellFormed.{Sized, WellFormed}
use Rattle.sir_data.specs.inner.LentRecords.{Lent}
use Rattle.sir_data.specs.laws.Rules.{by_later, by_earlier, first_right}
use Rattle.sir_data.specs.laws.WellFormed.{words_most, formed}
use Rattle.sir_data.specs.laws.Bytes.{length_words}
use Rattle.sir_data.specs.laws.Paging.{padded_length, padded_pages}
use Rattle.sir_data.specs.laws.LentRecords as L
use Rattle.sir_analyses.specs.Allocation.{rule12}
use Rattle.std.specs.Prelude.{Result, Err}
use Rattle.sir_data.specs.declared.refusals.Refusal.{Refusal}
use Rattle.sir_data.specs.Refusals.{number}
use Rattle.sir_data.specs.laws.Refusals.{not_0}
use Rattle.sir_analyses.specs.Calls.{Rules, call}
use Rattle.sir_analyses.specs.inner.Outcomes.{outcome}
use Rattle.sir_analyses.specs.inner.Loading.{Prepared}
use Rattle.sir_analyses.specs.WriteBack.{lent_rules, lent_refusal, written}
use Rattle.sir_answers.proofs.questions.Asked.{call_err}

-- ---- records

-- an image that is loaded: its records stand at the front of its words
module _ {w words postorder visit sites : List ℕ} {n k a : ℕ} (p : Prepared w words postorder visit sites n k a) where
  good : Sized (take n words)
  good = p.accepted_stage.well_formed.sized

  long : length (take n words) ≡ n
  long = length-take-le n words p.words_fit

  same_word : (i : ℕ) → i < 9 → word words i ≡ word (take n words) i
  same_word i l = sym (get_or-take n words i 0 (omega (arith, long, good.size)))

  same_count : word_count words ≡ word_count (take n words)
  same_count = rw (same_word 1 (omega arith), same_word 2 (omega arith), same_word 3 (omega arith), same_word 4 (omega arith), same_word 5 (omega arith))

  pub count_few : {m : ℕ} → m ≡ word_count words → (m ≤ length words) × (m ≤ 14665)
  count_few e = omega (arith, e, same_count, long, p.words_fit, good.size, words_most good)

  pub front_few : {m : ℕ} → m ≡ word_count words → length (take m words) ≤ 14665
  front_few {m} e = let few = count_few e in omega (arith, few.1, length-take-le m words few.0)

  pub records_front : {m : ℕ} → m ≡ word_count words → take m words ≡ records_of w
  records_front e =
      ap (λ (j : ℕ). take j words) (e ∙ same_count) ∙ ap (take (word_count (take n words))) (sym (take-append-drop n words))
      ∙ take-append-le (word_count (take n words)) (take n words) (drop n words) good.size ∙ ap records_of p.words_are

-- ---- lent records

module _ {r new : List ℕ} {number : ℕ} (k : Lent r new number) where
  -- the rules that `read_records` asks
  abbrev asked_first : Rules
  asked_first = (6, bad_records r) ∷ rules_of (unfit (words_of r)) (padded (words_of r))

  abbrev last : Rules
  last = (12, rule12 (padded (words_of r))) ∷ []

  pub lent_broken : ¬ (number ≡ 0) → number ≡ lent_refusal r
  lent_broken n = k.number_is ∙ sym (by_earlier asked_first last refl (λ z. n (k.number_is ∙ z)))

  module _ (z : number ≡ 0) where
    none_broken : first asked_first ≡ 0
    none_broken = sym k.number_is ∙ z

    -- the rules after 6 that are asked there
    abbrev later : List ℕ → List (ℕ × Bool)
    later w = field_rules w ++ operand_rules w

    abbrev front : List ℕ
    front = take (126 * pages_for (length r / 4)) new

    padded_formed : WellFormed (padded (words_of r))
    padded_formed =
        formed (padded (words_of r)) (unfit (words_of r)) (L.lent_sized later r none_broken).size
        (first_right ((6, bad_records r) ∷ []) (rules_of (unfit (words_of r)) (padded (words_of r))) refl none_broken)

    pub front_formed : WellFormed front
    front_formed = subst WellFormed (sym (k.words z)) padded_formed

    pub front_paged : (length front ≡ 126 * pages_for (length front)) × (length front ≤ 14742)
    front_paged =
        let e : length front ≡ 126 * pages_for (length (words_of r)) = ap length (k.words z) ∙ padded_length (words_of r) in
        omega (arith, e, k.few z, length_words r)

    pub lent_written : (out : List ℕ) → call ((12, rule12 front) ∷ []) (pages_of front) out ≡ written r out
    lent_written out =
        let e : lent_refusal r ≡ first last = by_later asked_first last refl none_broken in
        ap (λ (w : List ℕ). call ((12, rule12 w) ∷ []) (pages_of w) out) (k.words z)
        ∙ ap (λ (bytes : List ℕ). call last bytes out) (padded_pages (words_of r)) ∙ rw e

pub lent_refused : {r new : List ℕ} {why : Refusal} {given : Result ℕ Refusal} → Lent r new (number why) → given ≡ Err why → (out : List ℕ) → outcome given out ≡ written r out
lent_refused {r} {why = why} k e out = call_err e (lent_rules r) (pages_of (words_of r)) out (lent_broken k (not_0 why))
