-- A chart for the review sheet (document 02, request R-6): lines of 72 columns, sheets of 60 lines, series of 64 allocations. `ChartRule` is the
-- claim, on the bytes of the chart by their place. Of single characters: line feed 10, space 32, `#` 35, `*` 42, `.` 46, `c` 99, bar 124.
use Rattle.std.specs.Prelude.{◌≡◌, ◌⊎◌, ◌↔◌, true, false, cond, ℕ, ◌+◌, ◌-◌, ◌*◌, ◌/◌, ◌%◌, ◌≤◌, ◌<◌, List, [], ◌∷◌, ◌++◌, map, length, get_or, take, drop, replicate, eqb, ltb}
use Rattle.plank_core.specs.Lists.{foldl, upto, bind, ◌∈◌}
use Rattle.plank_core.specs.Text.{ascii, number}
use Rattle.sir_data.specs.Records.{ops, code}
use Rattle.sir_data.specs.Codes.{is_call}
use Rattle.sir_analyses.specs.Order.{blocks_rpo}
use Rattle.sir_analyses.specs.Allocation.{allocs, marked, merged}
use Rattle.sir_analyses.specs.Open.{lies}
use Rattle.sir_analyses.specs.Walk.{Lies}

-- ---- lines, each of 72 columns

abbrev pub spaces : ℕ → List ℕ
spaces n = replicate n 32

-- a text, filled with spaces to 72 columns
abbrev pub filled : List ℕ → List ℕ
filled text = text ++ spaces (72 - length text)

-- the heading of block b: `block`, a space, the id
unfoldable pub heading : ℕ → List ℕ
heading b = filled (ascii "block " ++ number b)

-- a blank line
unfoldable pub blank_line : List ℕ
blank_line = filled []

-- columns 1 to 5: an operation index, right-aligned
unfoldable pub index : ℕ → List ℕ
index o = spaces (5 - length (number o)) ++ number o

-- the column of allocation a at operation o of block b: `*` if marked, `#` inside an interval, `.` otherwise and where there is no such allocation
abbrev pub column : List ℕ → ℕ → ℕ → ℕ → ℕ
column w b o a = cond (ltb a (length (allocs w))) (cond (marked w a) 42 (cond (lies b o (merged w a)) 35 46)) 46

-- columns 7 to 70: the allocations of a series, 64 of them
unfoldable pub columns : List ℕ → ℕ → ℕ → ℕ → List ℕ
columns w series b o = map (λ k. column w b o (64 * series + k)) (upto 64)

-- column 72: `c` for a call, which has code 25 or 26
abbrev pub call_column : List ℕ → ℕ → ℕ
call_column w o = cond (is_call (code w o)) 99 32

-- the line of operation o of block b in a series: index, bar, allocations, bar, call
unfoldable pub op_line : List ℕ → ℕ → ℕ → ℕ → List ℕ
op_line w series b o = index o ++ (124 ∷ (columns w series b o ++ (124 ∷ call_column w o ∷ [])))

-- ---- blocks, series, sheets

-- a block: its heading, then one line for each operation of its range
abbrev pub block_lines : List ℕ → ℕ → ℕ → List (List ℕ)
block_lines w series b = heading b ∷ map (op_line w series b) (ops w b)

-- a series: all blocks, as in the order
abbrev pub series_lines : List ℕ → ℕ → List (List ℕ)
series_lines w series = bind (blocks_rpo w) (block_lines w series)

-- how many lines there are on the sheets for n lines: the last sheet is filled to 60
abbrev pub on_sheets : ℕ → ℕ
on_sheets n = 60 * ((n + 59) / 60)

-- lines on sheets
abbrev pub sheets : List (List ℕ) → List (List ℕ)
sheets lines = lines ++ replicate (on_sheets (length lines) - length lines) blank_line

-- the number of series for so many allocations: 64 each; one where there is no allocation
abbrev pub series_for : ℕ → ℕ
series_for n = cond (eqb n 0) 1 ((n + 63) / 64)

abbrev pub series_count : List ℕ → ℕ
series_count w = series_for (length (allocs w))

-- all lines: series in turn, each with all blocks again
unfoldable pub chart_lines : List ℕ → List (List ℕ)
chart_lines w = bind (upto (series_count w)) (λ series. sheets (series_lines w series))

-- lines as bytes: each ends in a line feed beyond its columns
abbrev pub text_of : List (List ℕ) → List ℕ
text_of lines = bind lines (λ line. line ++ (10 ∷ []))

-- the chart
unfoldable pub chart_text : List ℕ → List ℕ
chart_text w = text_of (chart_lines w)

-- ---- the claim

-- the number that digits stand for
abbrev pub value_of : List ℕ → ℕ
value_of ds = foldl (λ n d. 10 * n + (d - 48)) 0 ds

-- the text of a number: digits that stand for it, the first no 0 but in 0 itself
pub record Decimal (n : ℕ) (text : List ℕ) : Type 0 where
  pub value : value_of text ≡ n
  pub digit : (d : ℕ) → d ∈ text → (48 ≤ d) × (d ≤ 57)
  pub some : 0 < length text
  pub no_zero : get_or text 0 0 ≡ 48 → text ≡ 48 ∷ []

-- a text on the right of so many columns, and one on the left
abbrev pub OnRight : ℕ → (List ℕ → Type 0) → List ℕ → Type 0
OnRight n Text line = (text : List ℕ) × (Text text × (length line ≡ n) × (line ≡ spaces (n - length text) ++ text))

abbrev pub OnLeft : ℕ → (List ℕ → Type 0) → List ℕ → Type 0
OnLeft n Text line = (text : List ℕ) × (Text text × (length line ≡ n) × (line ≡ text ++ spaces (n - length text)))

module _ (w : List ℕ) where
  -- the line of operation o of block b, where columns 7 to 70 are for the allocations from `first` on; columns are counted from 0 here
  pub record OpLine (first b o : ℕ) (line : List ℕ) : Type 0 where
    pub index_right : OnRight 5 (Decimal o) (take 5 line)
    pub bar : get_or line 5 0 ≡ 124
    -- every mark agrees with the interval list
    pub hash : (k : ℕ) → k < 64 → first + k < length (allocs w) → (get_or line (6 + k) 0 ≡ 35) ↔ Lies b o (merged w (first + k))
    pub star : (k : ℕ) → k < 64 → first + k < length (allocs w) → (get_or line (6 + k) 0 ≡ 42) ↔ (marked w (first + k) ≡ true)
    pub otherwise : (k : ℕ) → k < 64 → first + k < length (allocs w)
        → (get_or line (6 + k) 0 ≡ 46) ↔ ((marked w (first + k) ≡ false) × (¬ Lies b o (merged w (first + k))))
    pub past : (k : ℕ) → k < 64 → length (allocs w) ≤ first + k → get_or line (6 + k) 0 ≡ 46
    pub second_bar : get_or line 70 0 ≡ 124
    pub call : (get_or line 71 0 ≡ 99) ↔ ((code w o ≡ 25) ⊎ (code w o ≡ 26))
    pub no_call : ¬ ((code w o ≡ 25) ⊎ (code w o ≡ 26)) → get_or line 71 0 ≡ 32

  -- the lines that some blocks take in a series: a heading for each, and one for each operation of its range
  abbrev pub lines_of : List ℕ → ℕ
  lines_of bs = length (bind bs (λ b. b ∷ ops w b))

  -- the 72 characters of line n of the chart
  abbrev pub line_at : ℕ → List ℕ
  line_at n = take 72 (drop (73 * n) (chart_text w))

  pub record ChartRule : Type 0 where
    -- line feeds stand just behind every 72 characters
    pub line_feeds : (p : ℕ) → p < length (chart_text w) → (get_or (chart_text w) p 0 ≡ 10) ↔ (p % 73 ≡ 72)
    -- series have the same number of lines, whole sheets of 60, only the last of which is filled
    pub height : ℕ
    pub whole : height % 60 ≡ 0
    pub holds_all : lines_of (blocks_rpo w) ≤ height
    pub last_only : height < lines_of (blocks_rpo w) + 60
    pub long : length (chart_text w) ≡ 73 * (height * series_count w)
    -- every allocation has its column in one of them; none is without an allocation, but for the first where there is none; at most eight
    pub every : (a : ℕ) → a < length (allocs w) → a / 64 < series_count w
    pub no_more : (s : ℕ) → s < series_count w → (s ≡ 0) ⊎ (64 * s < length (allocs w))
    pub first_series : 0 < series_count w
    pub most : series_count w ≤ 8
    -- in each, block number j of the order has a heading after the lines of those before it
    pub headings : (s j : ℕ) → s < series_count w → j < length (blocks_rpo w)
        → OnLeft 72 (λ text. (id : List ℕ) × (Decimal (get_or (blocks_rpo w) j 0) id × (text ≡ ascii "block " ++ id))) (line_at (height * s + lines_of (take j (blocks_rpo w))))
    -- then one line for each operation of its own range, in turn
    pub operations : (s j i : ℕ) → s < series_count w → j < length (blocks_rpo w) → i < length (ops w (get_or (blocks_rpo w) j 0))
        → OpLine (64 * s) (get_or (blocks_rpo w) j 0) (get_or (ops w (get_or (blocks_rpo w) j 0)) i 0) (line_at (height * s + lines_of (take j (blocks_rpo w)) + 1 + i))
    -- and after all blocks the filling
    pub filling : (s i : ℕ) → s < series_count w → lines_of (blocks_rpo w) ≤ i → i < height → line_at (height * s + i) ≡ spaces 72
