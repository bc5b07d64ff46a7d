-- Putting an image together (document 02, R-3): records as bytes, and the pages of words. A page is that of Pages: the check and the
-- least number of pages are the reader's own.
use Rattle.std.specs.Prelude.{ℕ, ◌+◌, ◌-◌, ◌*◌, ◌/◌, ◌%◌, Bool, not, ◌||◌, List, [], ◌∷◌, ◌++◌, map, length, take, replicate, ◌==◌, nat_lt}
use Rattle.plank_core.specs.Lists.{upto, bind}
use Rattle.sir_data.specs.Pages.{word_at, pages_for, check_of, bytes_of}
use Rattle.sir_data.specs.Records.{word, word_count}

-- ---- records

-- the records: the payload words without padding
abbrev pub records_of : List ℕ → List ℕ
records_of w = take (word_count w) w

-- bytes read as words, 32 bits little-endian; what is left of a word is dropped
unfoldable pub words_of : List ℕ → List ℕ
words_of r = map (word_at r) (upto (length r / 4))

-- refusal 6 of lent bytes outright: fewer than 9 words, or no whole number of words
abbrev pub bad_records : List ℕ → Bool
bad_records r = nat_lt (length r) 36 || not (length r % 4 == 0)

-- refusal 6 of lent words in its turn: another number of words than the counts call for
abbrev pub unfit : List ℕ → Bool
unfit w = not (length w == word_count w)

-- ---- pages

-- words and their padding: zeros up to whole pages, the fewest that hold the words
abbrev pub padded : List ℕ → List ℕ
padded w = w ++ replicate (126 * pages_for (length w) - length w) 0

-- page p of words w without its check: the page number, then 126 payload words, zeros past the last
unfoldable pub unchecked : List ℕ → ℕ → List ℕ
unchecked w p = p ∷ map (λ k. word w (126 * p + k)) (upto 126)

-- page p of words w: 128 words, the last the check
unfoldable pub page_of : List ℕ → ℕ → List ℕ
page_of w p = unchecked w p ++ (check_of (word (unchecked w p)) ∷ [])

-- the words of all pages of words w: the least number of pages that holds them
abbrev pub page_words : List ℕ → List ℕ
page_words w = bind (upto (pages_for (length w))) (page_of w)

-- the pages of words w, as bytes
unfoldable pub pages_of : List ℕ → List ℕ
pages_of w = bind (page_words w) bytes_of
