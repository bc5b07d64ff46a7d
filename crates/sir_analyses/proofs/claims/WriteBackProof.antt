-- The claims of WriteBack, proved, whatever the bytes of the image or of the records.
use mathlib.Core.Path.{◌≡◌, sym, ap, ◌∙◌}
use mathlib.Core.Bool.{Bool}
use Prim.Native.Nat.{ℕ, ◌≤◌}
use native.Mathlib.Omega.{arith}
use mathlib.Core.List.{List, [], ◌∷◌, ◌++◌}
use lib.ListN.{length}
use borrow.Author.Tests.{eqb-true, not-false}
use Rattle.sir_data.specs.Pages.{pages, payload}
use Rattle.sir_data.specs.Records.{word_count}
use Rattle.sir_data.specs.Rules.{first, page_rules, field_rules, operand_rules}
use Rattle.sir_data.specs.Paging.{records_of, words_of, pages_of}
use Rattle.sir_data.specs.laws.Bytes.{Bytes, length_words, words_small}
use Rattle.sir_data.specs.laws.Paging.{payload_pages, pages_kept, pages_back, payload_small}
use Rattle.sir_data.specs.laws.Image.{length_payload, pages_range}
use Rattle.sir_data.specs.laws.LentRecords as L
use Rattle.sir_analyses.specs.Allocation.{rule12}
use Rattle.sir_analyses.specs.Calls.{answered, call, refusal, no_rules, in_words}
use Rattle.sir_analyses.specs.WriteBack.{record_bytes, lent_rules, lent_refusal, PageRule, WrittenBack, ReadBack, ReadersNumber}
use Rattle.sir_analyses.proofs.answers.Calls.{call_answered, image_accepted}

-- the rules after 6
abbrev later : List ℕ → List (ℕ × Bool)
later w = field_rules w ++ operand_rules w ++ ((12, rule12 w) ∷ [])

pub readers_number : (r : List ℕ) → Bytes r → ReadersNumber r
readers_number r bytes =
    record {
      by_words = λ whole. rw (whole, payload_pages (words_of r) (words_small r bytes));
      by_pages = λ whole fit few. rw whole (L.fitting later (words_of r) (words_small r bytes) (eqb-true (length (words_of r)) (word_count (words_of r)) (not-false _ fit)) (omega (arith, few, length_words r)));
    }

pub page_rule : (s : List ℕ) → Bytes s → PageRule s
page_rule s bytes = (λ kept. let range = pages_range s kept in (pages_back s bytes kept, range.0, range.1), λ h. ap (λ (t : List ℕ). first (page_rules t)) (sym h.0) ∙ in_order h)
  where
    in_order : (pages_of (payload s) ≡ s) × (1 ≤ pages s) × (pages s ≤ 117) → first (page_rules (pages_of (payload s))) ≡ 0
    in_order h = pages_kept (payload s) (payload_small s bytes) (omega (arith, length_payload s, h.2)) (omega (arith, length_payload s, h.1))

pub written_back : (s : List ℕ) → Bytes s → refusal s ≡ 0 → WrittenBack s
written_back s bytes z =
    let taken : lent_refusal (record_bytes s) ≡ 0 = L.written_well later s bytes z in
    let same : pages_of (words_of (record_bytes s)) ≡ s = L.written_back later s bytes z in
    record {
      taken = taken;
      same = same;
      written_is = λ out. sym (call_answered (lent_rules (record_bytes s)) (pages_of (words_of (record_bytes s))) out taken) ∙ ap (λ (t : List ℕ). answered t out) same;
    }

pub read_back : (r : List ℕ) → Bytes r → lent_refusal r ≡ 0 → ReadBack r
read_back r bytes z =
    let s : List ℕ = pages_of (words_of r) in
    let taken : refusal s ≡ 0 = L.taken later r z bytes in
    let same : record_bytes s ≡ r = L.yielded later r z bytes in
    record {
      taken = taken;
      same = same;
      records_are = λ out. sym (image_accepted no_rules (in_words records_of) s out taken) ∙ ap (λ (t : List ℕ). answered t out) same;
      size = L.pages_few later r z;
      answers = λ own answer out. sym (image_accepted own answer s out taken) ∙ ap (λ (w : List ℕ). call (own w) (answer w) out) (L.lent_payload later r z bytes);
    }
