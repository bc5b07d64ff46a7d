-- Writing an image back (document 02, R-3): when lent records are refused, what is written, and what is claimed of records and
-- pages. Definitions and statements only.
use Rattle.std.specs.Prelude.{◌≡◌, ◌↔◌, false, ℕ, ◌/◌, ◌≤◌, List, ◌∷◌, length}
use Rattle.sir_data.specs.Pages.{pages, pages_for, payload}
use Rattle.sir_data.specs.Rules.{first, page_rules}
use Rattle.sir_data.specs.Paging.{records_of, words_of, bad_records, unfit, padded, pages_of}
use Rattle.sir_analyses.specs.Calls.{Rules, Outcome, answered, call, word_rules, refusal, asked, no_rules, in_words}

-- the records of an image, as bytes
abbrev pub record_bytes : List ℕ → List ℕ
record_bytes s = in_words records_of (payload s)

-- the rules of lent records r: 6 outright, then those of an image from 4 on, where 6 goes by the number of words. As the reader does, they
-- ask the words with their padding
abbrev pub lent_rules : List ℕ → Rules
lent_rules r = (6, bad_records r) ∷ word_rules (unfit (words_of r)) (padded (words_of r))

-- the refusal of lent records: the first of their rules that applies, or 0
abbrev pub lent_refusal : List ℕ → ℕ
lent_refusal r = first (lent_rules r)

-- lent records written: their pages
abbrev pub written : List ℕ → List ℕ → Outcome
written r out = call (lent_rules r) (pages_of (words_of r)) out

-- ---- claims

-- of any image s: carriage (refusals 1 to 3) is in order just where s is the pages of its payload words, 1 to 117 of them
abbrev pub PageRule : List ℕ → Type 0
PageRule s = (first (page_rules s) ≡ 0) ↔ ((pages_of (payload s) ≡ s) × (1 ≤ pages s) × (pages s ≤ 117))

-- of an accepted image s
pub record WrittenBack (s : List ℕ) : Type 0 where
  -- its records break no rule, and give its pages, byte for byte
  pub taken : lent_refusal (record_bytes s) ≡ 0
  pub same : pages_of (words_of (record_bytes s)) ≡ s
  -- so that the image is what is written from them
  pub written_is : (out : List ℕ) → written (record_bytes s) out ≡ answered s out

-- of lent records r that break no rule
pub record ReadBack (r : List ℕ) : Type 0 where
  -- the reader takes their pages, which yield those same records
  pub taken : refusal (pages_of (words_of r)) ≡ 0
  pub same : record_bytes (pages_of (words_of r)) ≡ r
  pub records_are : (out : List ℕ) → asked no_rules (in_words records_of) (pages_of (words_of r)) out ≡ answered r out
  -- 117 pages suffice
  pub size : length (pages_of (words_of r)) ≤ 59904
  -- whatever is asked of the pages is asked of the lent words
  pub answers : (own : List ℕ → Rules) (bytes : List ℕ → List ℕ) (out : List ℕ)
      → asked own bytes (pages_of (words_of r)) out ≡ call (own (padded (words_of r))) (bytes (padded (words_of r))) out

-- of any lent records r of nine whole words or more: which number refuses them
pub record ReadersNumber (r : List ℕ) : Type 0 where
  -- that of the reader's own rules for the words that it reads from the pages of r, but for the place of 6
  pub by_words : bad_records r ≡ false → lent_refusal r ≡ first (word_rules (unfit (words_of r)) (payload (pages_of (words_of r))))
  -- and, where there are as many words as the counts call for and 117 pages hold them, the reader's number for the pages
  pub by_pages : bad_records r ≡ false → unfit (words_of r) ≡ false → pages_for (length r / 4) ≤ 117 → lent_refusal r ≡ refusal (pages_of (words_of r))
