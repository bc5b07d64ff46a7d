-- The chart is as its claim says.
use mathlib.Core.Path.{◌≡◌, refl, sym, ap, ◌∙◌, subst}
use mathlib.Core.Logic.{◌⊎◌, inl, inr}
use mathlib.Core.Bool.{false}
use Prim.Native.Nat.{ℕ, zero, suc, ◌+◌, ◌*◌, ◌/◌, ◌≤◌, ◌<◌}
use native.Mathlib.Omega.{arith}
use mathlib.Core.List.{List, [], ◌++◌}
use lib.ListN.{length, get_or}
use borrow.Author.Tests.{ne_eqb}
use Rattle.plank_core.specs.Text.{ascii, number}
use Rattle.plank_core.specs.laws.Lists.{get_or_mem}
use Rattle.sir_data.specs.Records.{ops}
use Rattle.sir_data.specs.inner.WellFormed.{WellFormed}
use Rattle.sir_analyses.specs.Order.{blocks_rpo}
use Rattle.sir_analyses.specs.Allocation.{allocs, rule12}
use Rattle.sir_analyses.specs.Chart.{heading, op_line, series_for, series_count, chart_lines, chart_text, Decimal, OnLeft, OpLine, lines_of, line_at, ChartRule}
use Rattle.sir_analyses.proofs.allocation_liveness.Discovery.{sites_most}
use Rattle.sir_analyses.proofs.claims.chart.Numbers.{decimal_number}
use Rattle.sir_analyses.proofs.claims.chart.Lines.{heading_line}
use Rattle.sir_analyses.proofs.claims.chart.Marks.{op_exact}
use Rattle.sir_analyses.proofs.claims.chart.Texts.{text_long, feeds}
use Rattle.sir_analyses.proofs.claims.chart.Places.{map_place, sheets_whole, sheets_hold, sheets_last, high, block_at, before, chart_long, short_op, short_block, chart_lines_lem, block_at_lem, filling_at}

-- ---- how many series

series_some : (n : ℕ) → series_for (suc n) ≡ (suc n + 63) / 64
series_some n = rw (ne_eqb (suc n) 0 (λ e. omega arith))

has_series : (n a : ℕ) → a < n → a / 64 < series_for n
has_series zero a l = absurd (omega arith)
has_series (suc n) a l = rw (series_some n) (omega arith)

series_has : (n s : ℕ) → s < series_for n → (s ≡ 0) ⊎ (64 * s < n)
series_has zero s l = inl (omega arith)
series_has (suc n) s l = let k : s < (suc n + 63) / 64 = rw (series_some n) at l in inr (omega arith)

first_one : (n : ℕ) → 0 < series_for n
first_one zero = omega arith
first_one (suc n) = rw (series_some n) (omega arith)

pub series_most : (n : ℕ) → n ≤ 512 → series_for n ≤ 8
series_most zero l = omega arith
series_most (suc n) l = rw (series_some n) (omega arith)

-- ---- headings

-- `block`, a space, the id
abbrev BlockId : ℕ → List ℕ → Type 0
BlockId b text = (id : List ℕ) × (Decimal b id × (text ≡ ascii "block " ++ id))

heading_exact : (b : ℕ) → length (number b) ≤ 66 → OnLeft 72 (BlockId b) (heading b)
unfolding heading
heading_exact b few = (ascii "block " ++ number b, ((number b, (decimal_number b, refl)), (heading_line b few).0, refl))

-- ---- the claim

-- where the first line of a block stands, and those after it
first_line : (a b : ℕ) → a + b ≡ a + (b + 0)
first_line a b = omega arith

next_line : (a b i : ℕ) → a + b + 1 + i ≡ a + (b + suc i)
next_line a b i = omega arith

module _ (w : List ℕ) (good : WellFormed w) where
  heading_at : (s j : ℕ) → s < series_count w → j < length (blocks_rpo w) → OnLeft 72 (BlockId (block_at w j)) (line_at w (high w * s + before w j))
  heading_at s j l k =
      let e : line_at w (high w * s + before w j) ≡ line_at w (high w * s + (before w j + 0)) = ap (line_at w) (first_line (high w * s) (before w j)) in
      let few : length (number (block_at w j)) ≤ 66 = short_block w good (get_or_mem (blocks_rpo w) j 0 k) in
      subst (OnLeft 72 (BlockId (block_at w j))) (sym (e ∙ block_at_lem w good s j 0 l k (omega arith))) (heading_exact (block_at w j) few)

  module _ (s j i : ℕ) (l : s < series_count w) (k : j < length (blocks_rpo w)) (h : i < length (ops w (block_at w j))) where
    -- operation number i of block number j
    abbrev op_at : ℕ
    op_at = get_or (ops w (block_at w j)) i 0

    operation_line : line_at w (high w * s + before w j + 1 + i) ≡ op_line w s (block_at w j) op_at
    operation_line =
        ap (line_at w) (next_line (high w * s) (before w j) i)
        ∙ block_at_lem w good s j (suc i) l k (omega arith) ∙ map_place (op_line w s (block_at w j)) (ops w (block_at w j)) i 0 [] h

    operation_at : OpLine w (64 * s) (block_at w j) op_at (line_at w (high w * s + before w j + 1 + i))
    operation_at =
        let few : length (number op_at) ≤ 5 = short_op w good (get_or_mem (blocks_rpo w) j 0 k) (get_or_mem (ops w (block_at w j)) i 0 h) in
        subst (OpLine w (64 * s) (block_at w j) op_at) (sym operation_line) (op_exact w s (block_at w j) op_at few)

  pub chart_rule : rule12 w ≡ false → ChartRule w
  unfolding chart_text
  chart_rule distinct =
      record {
        line_feeds = feeds (chart_lines w) (chart_lines_lem w good);
        height = high w;
        whole = sheets_whole (lines_of w (blocks_rpo w));
        holds_all = sheets_hold (lines_of w (blocks_rpo w));
        last_only = sheets_last (lines_of w (blocks_rpo w));
        long = text_long (chart_lines w) (chart_lines_lem w good) ∙ ap (λ (n : ℕ). 73 * n) (chart_long w);
        every = has_series (length (allocs w));
        no_more = series_has (length (allocs w));
        first_series = first_one (length (allocs w));
        most = series_most (length (allocs w)) (sites_most w good distinct);
        headings = heading_at;
        operations = operation_at;
        filling = filling_at w good;
      }
