-- How the words of an answer go into a slice: word by word, each only where the slice has room for it. In an empty slice the words
-- are only counted, and in one of the answer's length it is written whole.
use Rattle.std.specs.Prelude.{◌≡◌, cond, List, [], ◌∷◌, ◌++◌, ℕ, ◌+◌, ◌*◌, length, take, drop, leb}
use Rattle.sir_data.specs.Pages.{bytes_of}

-- the slice with x put as word n of an answer, if it ends within the limit
unfoldable pub word_put : ℕ → ℕ → ℕ → List ℕ → List ℕ
word_put limit n x out = cond (leb (4 * n + 4) limit) (take (4 * n) out ++ bytes_of x ++ drop (4 * n + 4) out) out

-- the slice with xs put as the words from number n on
unfoldable pub words_put : ℕ → ℕ → List ℕ → List ℕ → List ℕ
words_put limit n [] out = out
words_put limit n (x ∷ xs) out = words_put limit (n + 1) xs (word_put limit n x out)

-- a call that puts xs from number n on, where the slice has room, and gives the next number
pub record Puts (n : ℕ) (xs out out' : List ℕ) (r : ℕ) : Type 0 where
  pub next : r ≡ n + length xs
  pub left : out' ≡ words_put (length out) n xs out
