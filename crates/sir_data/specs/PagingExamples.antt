-- Examples of pages and records (document 02, R-3), as one table that one proof computes.
use Rattle.std.specs.Prelude.{◌≡◌, true, List, [], ◌∷◌, ◌++◌, map, length, replicate, refl}
use Rattle.plank_core.specs.Lists.{all, one_if}
use Rattle.sir_data.specs.Pages.{pages_for, check_of, payload}
use Rattle.sir_data.specs.Paging.{records_of, words_of, bad_records, unfit, padded, unchecked, page_of, pages_of}
use Rattle.sir_data.specs.ExampleRows.{Row, same}

-- three words: number, words, zeros, and the check, 7 * 251 + 8 * 249 + 9 * 247
abbrev first_page : Row
first_page = (page_of (7 ∷ 8 ∷ 9 ∷ []) 0, 0 ∷ 7 ∷ 8 ∷ 9 ∷ (replicate 123 0 ++ (5972 ∷ [])))

-- 127 words: the last stands on page 1, whose number is part of its check, 1 * 253 + 5 * 251
abbrev second_page : Row
second_page = (page_of (replicate 126 1 ++ (5 ∷ [])) 1, 1 ∷ 5 ∷ (replicate 125 0 ++ (1508 ∷ [])))

-- the last word of a page weighs 1 in its check
abbrev last_word : Row
last_word = (page_of (replicate 125 0 ++ (3 ∷ [])) 0, 0 ∷ (replicate 125 0 ++ (3 ∷ 3 ∷ [])))

-- pages for 0, 1, 126, 127, 252 and 253 words, for the most that the limits allow and the most that 117 pages hold, and one more
abbrev page_counts : Row
page_counts = (map pages_for (0 ∷ 1 ∷ 126 ∷ 127 ∷ 252 ∷ 253 ∷ 14665 ∷ 14742 ∷ 14743 ∷ []), 0 ∷ 1 ∷ 1 ∷ 2 ∷ 2 ∷ 3 ∷ 117 ∷ 117 ∷ 118 ∷ [])

-- the padding is zeros
abbrev padding : Row
padding = (padded (replicate 124 9), replicate 124 9 ++ (0 ∷ 0 ∷ []))

-- the records of words whose counts are all 0 are nine
abbrev nine_records : Row
nine_records = (records_of (1 ∷ replicate 20 0), 1 ∷ replicate 8 0)

-- bytes that give 6 outright: 32 of them, eight words, 35, 37, 38 and 39; not so 36 and 40
abbrev outright : Row
outright = (map (λ n. one_if (bad_records (replicate n 0))) (32 ∷ 35 ∷ 36 ∷ 37 ∷ 38 ∷ 39 ∷ 40 ∷ []), 1 ∷ 1 ∷ 0 ∷ 1 ∷ 1 ∷ 1 ∷ 0 ∷ [])

-- nine words whose counts call for nine, for one more, and ten of which nine are called for
abbrev in_turn_row : Row
in_turn_row = (map (λ w. one_if (unfit w)) (replicate 9 0 ∷ (0 ∷ 1 ∷ replicate 7 0) ∷ replicate 10 0 ∷ []), 0 ∷ 1 ∷ 1 ∷ [])

abbrev table : List Row
table =
    first_page ∷ second_page ∷ last_word
    -- the check wraps: (2^32 - 1) * 251
    ∷ (page_of (4294967295 ∷ []) 0, 0 ∷ 4294967295 ∷ (replicate 125 0 ++ (4294967045 ∷ [])))
    ∷ page_counts ∷ padding ∷ nine_records ∷ outright ∷ in_turn_row
    -- the bytes of pages, and what is read from them
    ∷ (map (λ n. length (pages_of (replicate n 1))) (1 ∷ 126 ∷ 127 ∷ []), 512 ∷ 512 ∷ 1024 ∷ [])
    ∷ (payload (pages_of (7 ∷ 8 ∷ [])), 7 ∷ 8 ∷ replicate 124 0)
    -- four bytes are a word, the lowest first, and what is left of one is dropped
    ∷ (words_of (1 ∷ 2 ∷ 3 ∷ 4 ∷ 5 ∷ []), 67305985 ∷ [])
    ∷ []

-- every row holds
pub examples : all (λ r. same r.0 r.1) table ≡ true
unfolding check_of payload words_of unchecked page_of pages_of
examples = refl
