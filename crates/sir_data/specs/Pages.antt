-- The image as pages of 512 bytes, its payload words, and refusals 1 to 3 (document 01, "The image" and "Refusals").
use Rattle.std.specs.Prelude.{ℕ, ◌+◌, ◌-◌, ◌*◌, ◌/◌, ◌%◌, ◌^◌, Bool, not, ◌||◌, List, [], ◌∷◌, map, length, ◌==◌, nat_lt, slice_index}
use Rattle.plank_core.specs.Lists.{upto, any, sum}

-- word i of a list of bytes, 32 bits little-endian
abbrev pub word_at : List ℕ → ℕ → ℕ
word_at s i = slice_index s (4 * i) + 256 * slice_index s (4 * i + 1) + 65536 * slice_index s (4 * i + 2) + 16777216 * slice_index s (4 * i + 3)

-- how many pages of 512 bytes there are
abbrev pub pages : List ℕ → ℕ
pages s = length s / 512

-- the least number of pages that holds n words
abbrev pub pages_for : ℕ → ℕ
pages_for n = (n + 125) / 126

-- word i of page p: 0 the page number, 1 to 126 payload, 127 the check
abbrev pub page_word : List ℕ → ℕ → ℕ → ℕ
page_word s p i = word_at s (128 * p + i)

-- the check of a page whose words are given by f: the sum of word i times (253 - 2i), i from 0 to 126, wrapping at 2^32
unfoldable pub check_of : (ℕ → ℕ) → ℕ
check_of f = sum (map (λ i. f i * (253 - 2 * i)) (upto 127)) % 2 ^ 32

-- the payload words of all pages in turn, page numbers and checks dropped
unfoldable pub payload : List ℕ → List ℕ
payload s = map (λ k. page_word s (k / 126) (1 + k % 126)) (upto (126 * pages s))

-- the four bytes of a word, little-endian
abbrev pub bytes_of : ℕ → List ℕ
bytes_of n = n % 256 ∷ n / 256 % 256 ∷ n / 65536 % 256 ∷ n / 16777216 % 256 ∷ []

-- refusal 1: length 0, not a multiple of 512, or above 59,904 bytes
abbrev pub bad_length : List ℕ → Bool
bad_length s = length s == 0 || not (length s % 512 == 0) || nat_lt 59904 (length s)

-- refusal 2: some page number wrong; page p has number p, from 0
abbrev pub bad_number : List ℕ → Bool
bad_number s = any (λ p. not (page_word s p 0 == p)) (upto (pages s))

-- refusal 3: some page check wrong
abbrev pub bad_check : List ℕ → Bool
bad_check s = any (λ p. not (page_word s p 127 == check_of (page_word s p))) (upto (pages s))
