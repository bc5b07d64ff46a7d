-- Examples of records that are read, lent and written (document 02, R-3), as one table that one proof computes.
use Rattle.std.specs.Prelude.{◌≡◌, refl, true, List, [], ◌∷◌, ◌++◌, map, ℕ, length, set, take, drop, replicate}
use Rattle.plank_core.specs.Lists.{all, bind}
use Rattle.sir_data.specs.Pages.{check_of, payload, bytes_of}
use Rattle.sir_data.specs.Rules.{rule4, rule5, rule6, rule7, rule8, rule9, rule10, rule11}
use Rattle.sir_data.specs.Paging.{records_of, words_of, unchecked, page_of, pages_of}
use Rattle.sir_analyses.specs.Calls.{refusal, asked, no_rules, in_words}
use Rattle.sir_analyses.specs.WriteBack.{record_bytes, lent_refusal, written}
use Rattle.sir_analyses.specs.ExampleImages.{set_const, alloc, add, straight, outcome_words, Row, same}

-- two operations and `Stop`, in one block: 46 words, the codes at words 21, 28 and 35, the operand words from 42 on
abbrev small : List ℕ
small = records_of (straight 2 (set_const 0 ∷ add 1 0 0 ∷ []))

-- the words of an image as they are lent
abbrev lent : List ℕ → List ℕ
lent w = bind w bytes_of

-- the number that refuses lent words
abbrev number : List ℕ → ℕ
number w = lent_refusal (lent w)

-- nine words by the first three: edition, functions, blocks
abbrev head : ℕ → ℕ → ℕ → List ℕ
head edition functions blocks = edition ∷ functions ∷ blocks ∷ replicate 6 0

-- with one word more
abbrev more : List ℕ → List ℕ
more w = w ++ (0 ∷ [])

-- the outcome of writing lent words
abbrev writing : List ℕ → List ℕ → List ℕ
writing w out = outcome_words (written (lent w) out)

-- nine words of edition 2: 4, though the counts call for more words
abbrev nine_of_edition_2 : Row
nine_of_edition_2 = (number (head 2 1 1) ∷ [], 4 ∷ [])

-- two allocations with one base: 12, as the reader gives it
abbrev one_base : Row
one_base = (number (records_of (straight 1 (alloc 0 ∷ alloc 0 ∷ []))) ∷ [], 12 ∷ [])

-- a word too many: 6, before an unknown code
abbrev word_too_many : Row
word_too_many = (number (more small) ∷ number (more (set small 21 93)) ∷ [], 6 ∷ 6 ∷ [])

-- the page of lent words and the byte after it, where the slice has one more
abbrev one_page : Row
one_page = (take 3 (writing small (replicate 513 7)) ++ drop 514 (writing small (replicate 513 7)), 0 ∷ 512 ∷ 0 ∷ 7 ∷ [])

-- a slice that is a byte too short keeps its bytes
abbrev short_slice : Row
short_slice = (writing small (replicate 511 7), 14 ∷ 0 ∷ replicate 511 7)

abbrev table : List Row
table =
    -- taken; eight words; a byte more, whatever the edition
    (length small ∷ number small ∷ number (take 8 small) ∷ [], 46 ∷ 0 ∷ 6 ∷ [])
    ∷ (lent_refusal (lent small ++ (0 ∷ [])) ∷ lent_refusal (lent (set small 0 2) ++ (0 ∷ [])) ∷ [], 6 ∷ 6 ∷ [])
    -- nine words: edition 2; no function; no block; the counts call for more
    ∷ nine_of_edition_2
    ∷ (map number (head 1 0 1 ∷ head 1 1 0 ∷ head 1 1 1 ∷ []), 5 ∷ 5 ∷ 6 ∷ [])
    -- another number of words: after 4 and 5, before 7
    ∷ word_too_many
    ∷ (map number (take 45 small ∷ more (set small 0 2) ∷ more (set small 1 65) ∷ []), 6 ∷ 4 ∷ 5 ∷ [])
    -- an unknown code; a local that is not there; an `Add` of one input; 12
    ∷ (map number (set small 21 93 ∷ set small 43 2 ∷ set small 30 2 ∷ []), 7 ∷ 8 ∷ 9 ∷ [])
    ∷ one_base
    -- written and read again: the image is taken and gives its records; written from these it is the same
    ∷ (refusal (pages_of small) ∷ [], 0 ∷ [])
    ∷ (record_bytes (pages_of small), lent small)
    ∷ (pages_of (words_of (record_bytes (pages_of small))), pages_of small)
    ∷ (outcome_words (asked no_rules (in_words records_of) (pages_of small) (replicate 185 7)), 0 ∷ 184 ∷ (lent small ++ (7 ∷ [])))
    ∷ (outcome_words (asked no_rules (in_words records_of) (pages_of small) (replicate 183 7)), 14 ∷ 0 ∷ replicate 183 7)
    ∷ one_page
    ∷ short_slice
    -- refused before the slice is looked at
    ∷ (writing (head 2 1 1) (7 ∷ []), 4 ∷ 0 ∷ 7 ∷ [])
    ∷ []

-- every row holds
pub examples : all (λ r. same r.0 r.1) table ≡ true
unfolding check_of payload words_of unchecked page_of pages_of rule4 rule5 rule6 rule7 rule8 rule9 rule10 rule11
examples = refl
