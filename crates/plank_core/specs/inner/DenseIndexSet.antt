-- Sets of numbers below 512 in eight words of 64 digits, and tables of such sets, one row of eight words after the other.
-- A set is what `contains` says of each number; row r of a table holds i where the table holds 512 * r + i.
use Rattle.std.specs.Prelude.{Bool, false, not, ◌&&◌, ◌||◌, cond, List, map, ℕ, zero, suc, ◌+◌, ◌*◌, ◌/◌, ◌%◌, ◌^◌, length, get_or, take, drop, eqb}
use Rattle.plank_core.specs.Lists.{foldl, upto, all, any, keep, distinct}

-- is binary digit k of a word 1?
unfoldable pub bit : ℕ → ℕ → Bool
bit w k = eqb (w / 2 ^ k % 2) 1

-- is n a member? digit n % 64 of word n / 64
unfoldable pub contains : List ℕ → ℕ → Bool
contains ws n = bit (get_or ws (n / 64) 0) (n % 64)

-- the word whose digit j is p j, for j below k
unfoldable pub word_of : ℕ → (ℕ → Bool) → ℕ
word_of zero p = 0
word_of (suc k) p = cond (p 0) 1 0 + 2 * word_of k (λ j. p (suc j))

-- the m words that contain just the numbers at which p holds
unfoldable pub set_of : ℕ → (ℕ → Bool) → List ℕ
set_of m p = map (λ j. word_of 64 (λ k. p (64 * j + k))) (upto m)

-- the empty set
unfoldable pub empty_set : List ℕ
empty_set = set_of 8 (λ n. false)

-- a set or table with the number i added
unfoldable pub added : List ℕ → ℕ → List ℕ
added ws i = set_of (length ws) (λ n. eqb n i || contains ws n)

-- a set or table with these numbers added, one after the other
abbrev pub added_all : List ℕ → List ℕ → List ℕ
added_all ws is = foldl added ws is

-- a set or table with the number i taken out
unfoldable pub removed : List ℕ → ℕ → List ℕ
removed ws i = set_of (length ws) (λ n. not (eqb n i) && contains ws n)

-- is n one of the numbers of row r, 512 * r to 512 * r + 511?
abbrev pub in_row : ℕ → ℕ → Bool
in_row r n = eqb (n / 512) r

-- a table with the members of the set s added to its row r
unfoldable pub row_union : List ℕ → ℕ → List ℕ → List ℕ
row_union ws r s = set_of (length ws) (λ n. contains ws n || (in_row r n && contains s (n % 512)))

-- a table with the members of the set s taken out of its row r
unfoldable pub row_difference : List ℕ → ℕ → List ℕ → List ℕ
row_difference ws r s = set_of (length ws) (λ n. contains ws n && not (in_row r n && contains s (n % 512)))

-- has s a member that row r lacks?
unfoldable pub grows : List ℕ → ℕ → List ℕ → Bool
grows ws r s = any (λ n. contains s n && not (contains ws (512 * r + n))) (upto 512)

-- row r of a table, as a set
unfoldable pub row_of : List ℕ → ℕ → List ℕ
row_of ws r = take 8 (drop (8 * r) ws)

-- has the set no member?
unfoldable pub is_empty : List ℕ → Bool
is_empty s = not (any (contains s) (upto 512))

-- have two sets a member in common?
unfoldable pub meets : List ℕ → List ℕ → Bool
meets s t = any (λ n. contains s n && contains t n) (upto 512)

-- the members of a set, ascending
unfoldable pub members : List ℕ → List ℕ
members s = keep (contains s) (upto 512)

-- is none of these numbers in the set s?
abbrev pub outside : List ℕ → List ℕ → Bool
outside s xs = all (λ x. not (contains s x)) xs

-- is none of these numbers in the set s, and no two of them equal?
abbrev pub fresh : List ℕ → List ℕ → Bool
fresh s xs = outside s xs && distinct xs
