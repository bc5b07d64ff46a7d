-- Answers of many ids, filled in one pass: each piece of the pass is some words for one id, and goes to the segment of that id, where
-- a cursor tells how far it is filled. With an empty slice nothing is stored and the cursors only count.
use Rattle.std.specs.Prelude.{◌≡◌, Bool, true, false, cond, ℕ, zero, suc, ◌+◌, ◌-◌, ◌*◌, ◌^◌, ◌≤◌, ◌<◌, length, get_or, take, drop, set, eqb}
use mathlib.Core.List.{List, [], ◌∷◌, reverse, Memᴰ}
use Rattle.plank_core.specs.Lists.{bind, foldl, upto}
use Rattle.sir_data.specs.Pages.{bytes_of}
use Rattle.sir_analyses.specs.inner.Writing.{words_put}

-- the pieces of a pass: an id, and words for it
abbrev pub Pieces : Type 0
Pieces = List (ℕ × List ℕ)

-- the words for one id
abbrev pub pieces_of : ℕ → Pieces → List ℕ
pieces_of v ps = bind ps (λ p. cond (eqb p.0 v) p.1 [])

-- which way segments are filled: from the start on, or from the end back
pub data Direction : Type 0 where
  forward backward : Direction

-- the pieces as the words of a segment have them
abbrev pub in_order : Direction → Pieces → Pieces
in_order forward ps = ps
in_order backward ps = reverse ps

-- a cursor moved past n words
abbrev pub moved : Direction → ℕ → ℕ → ℕ
moved forward c n = c + n
moved backward c n = c - n

-- where n words go
abbrev pub place : Direction → ℕ → ℕ → ℕ
place forward c n = c
place backward c n = c - n

-- n more words lie between two bounds
abbrev pub Inside : Direction → ℕ → ℕ → ℕ → ℕ → Type 0
Inside forward lo hi c n = (lo ≤ c) × (c + n ≤ hi)
Inside backward lo hi c n = (lo + n ≤ c) × (c ≤ hi)

-- where the segments are filled up to, and the slice that holds them
pub record Segments : Type 0 where
  pub cursors : List ℕ
  pub out : List ℕ

-- segments from both
abbrev pub segments : List ℕ → List ℕ → Segments
segments cursors out = record { cursors = cursors; out = out }

-- one piece put
abbrev pub piece_put : Direction → Segments → ℕ × List ℕ → Segments
piece_put d s p =
    let c : ℕ = get_or s.cursors p.0 0 in
    let n : ℕ = length p.1 in
    segments (set s.cursors p.0 (moved d c n)) (words_put (length s.out) (place d c n) p.1 s.out)

-- all pieces put in turn
abbrev pub scatter : Direction → Pieces → Segments → Segments
scatter d ps s = foldl (piece_put d) s ps

-- a call that puts pieces
pub record Scatters (d : Direction) (ps : Pieces) (cursors out cursors' out' : List ℕ) : Type 0 where
  pub left : segments cursors' out' ≡ scatter d ps (segments cursors out)

-- the pieces to come of each id lie between its bounds
pub record Room (d : Direction) (lo hi : ℕ → ℕ) (ps : Pieces) (cursors : List ℕ) : Type 0 where
  pub inside : (v : ℕ) → v < length cursors → Inside d (lo v) (hi v) (get_or cursors v 0) (length (pieces_of v ps))

-- the pieces to come fit the numbers
abbrev pub Fits : Direction → Pieces → List ℕ → Type 0
Fits d ps cursors = Room d (λ v. 0) (λ v. 2 ^ 59) ps cursors

-- every piece is for an id below n
abbrev pub Below : ℕ → Pieces → Type 0
Below n ps = (p : ℕ × List ℕ) → Memᴰ p ps → p.0 < n

-- ---- the segments of all ids, each with its length before it

-- number v of a list
abbrev pub number_at : List ℕ → ℕ → ℕ
number_at xs v = get_or xs v 0

-- where the segment of id v starts, if that of u has 1 + f u words
unfoldable pub base : (ℕ → ℕ) → ℕ → ℕ
base f zero = 0
base f (suc v) = base f v + 1 + f v

-- where the cursor of id v is before the first piece
abbrev pub origin : Direction → (ℕ → ℕ) → ℕ → ℕ
origin forward f v = base f v + 1
origin backward f v = base f (suc v)

-- backward where cursors start at the ends
abbrev pub toward : Bool → Direction
toward true = backward
toward false = forward

-- the words of all ids below n, each id's after their number
abbrev pub all_of : (ℕ → List ℕ) → ℕ → List ℕ
all_of ans n = bind (upto n) (λ v. length (ans v) ∷ ans v)

-- an array has the number of words of each id below n
pub record Counts (n : ℕ) (ans : ℕ → List ℕ) (counts : List ℕ) : Type 0 where
  pub wide : length counts ≡ n
  pub count_is : (v : ℕ) → v < n → get_or counts v 0 ≡ length (ans v)

-- words stand at a place of a slice
pub record Stands (at : ℕ) (xs out : List ℕ) : Type 0 where
  pub within : 4 * (at + length xs) ≤ length out
  pub bytes : take (4 * length xs) (drop (4 * at) out) ≡ bind xs bytes_of

-- the first n segments before the first piece: each has its length, f v for id v, and its cursor at one end
pub record Placed (d : Direction) (f : ℕ → ℕ) (n : ℕ) (cursors out : List ℕ) : Type 0 where
  pub cursor_is : (v : ℕ) → v < n → get_or cursors v 0 ≡ origin d f v
  pub length_stands : (v : ℕ) → v < n → Stands (base f v) (f v ∷ []) out
