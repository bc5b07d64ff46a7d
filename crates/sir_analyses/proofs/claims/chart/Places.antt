-- Where lines stand: those of a block in a series, those of a series on the sheets of all.
use mathlib.Core.Path.{◌≡◌, refl, sym, ap, ◌∙◌, subst}
use mathlib.Core.Logic.{⊎_elim}
use Prim.Native.Nat.{ℕ, zero, suc, ◌+◌, ◌-◌, ◌*◌, ◌%◌, ◌≤◌, ◌<◌}
use native.Mathlib.Nat.{mul-suc, mul-le-mul_left}
use native.Mathlib.Omega.{arith}
use mathlib.Core.List.{List, [], ◌∷◌, ◌++◌, map, Memᴰ}
use lib.ListN.{length, get_or, take, replicate, length-append, length-replicate, length-map, get_or-replicate, get_or-append, get_or-map}
use lib.Seq.{get_or-append-add}
use Rattle.plank_core.specs.Lists.{upto, bind, ◌∈◌}
use Rattle.plank_core.specs.Text.{number}
use Rattle.plank_core.specs.laws.Lists.{get_d_any, map_each, bind_out}
use Rattle.plank_core.specs.laws.Loops.{length_count, get_or_count}
use Rattle.plank_core.specs.laws.Folds.{bind_long, bind_at}
use Rattle.plank_core.specs.laws.Text.{number_short}
use Rattle.sir_data.specs.Records.{ops}
use Rattle.sir_data.specs.inner.WellFormed.{WellFormed}
use Rattle.sir_analyses.specs.Order.{blocks_rpo}
use Rattle.sir_analyses.specs.Chart.{spaces, heading, blank_line, op_line, block_lines, series_lines, on_sheets, sheets, series_count, chart_lines, chart_text, lines_of, line_at}
use Rattle.sir_analyses.proofs.Accepted.{listed_op}
use Rattle.sir_analyses.proofs.claims.order.OrderProof.{blocks_below}
use Rattle.sir_analyses.proofs.claims.chart.Numbers.{number_five}
use Rattle.sir_analyses.proofs.claims.chart.Lines.{Line, replicate_out, heading_line, blank_line_lem, blank_spaces, op_line_lem}
use Rattle.sir_analyses.proofs.claims.chart.Texts.{Lines, text_line}

-- ---- lists joined

module _ {A B : Type 0} where
  -- lists that are as long, joined
  bind_alike : {C : Type 0} (g : A → List B) (f : A → List C) (xs : List A) → ((x : A) → length (g x) ≡ length (f x)) → length (bind xs g) ≡ length (bind xs f)
  bind_alike g f [] h = refl
  bind_alike g f (x ∷ xs) h = length-append (g x) (bind xs g) ∙ omega (arith, h x, bind_alike g f xs h, length-append (f x) (bind xs f))

  module _ (g : A → List B) where
    -- element i of the list of the j-th stands after all lists before it
    bind_place : (xs : List A) (j i : ℕ) (a : A) (d : B) → j < length xs → i < length (g (get_or xs j a))
        → get_or (bind xs g) (length (bind (take j xs) g) + i) d ≡ get_or (g (get_or xs j a)) i d
    bind_place [] j i a d l m = absurd (omega arith)
    bind_place (x ∷ xs) zero i a d l m = let e : 0 + i ≡ i = omega arith in rw e (get_or-append (g x) (bind xs g) d i m)
    bind_place (x ∷ xs) (suc j) i a d l m =
        let e : length (g x ++ bind (take j xs) g) + i ≡ length (g x) + (length (bind (take j xs) g) + i) = omega (arith, length-append (g x) (bind (take j xs) g)) in
        ap (λ (n : ℕ). get_or (g x ++ bind xs g) n d) e ∙ get_or-append-add (g x) (bind xs g) (length (bind (take j xs) g) + i) d ∙ bind_place xs j i a d (omega arith) m

    bind_within : (xs : List A) (j i : ℕ) (a : A) → j < length xs → i < length (g (get_or xs j a)) → length (bind (take j xs) g) + i < length (bind xs g)
    bind_within [] j i a l m = absurd (omega arith)
    bind_within (x ∷ xs) zero i a l m = omega (arith, length-append (g x) (bind xs g))
    bind_within (x ∷ xs) (suc j) i a l m = omega (arith, length-append (g x) (bind xs g), length-append (g x) (bind (take j xs) g), bind_within xs j i a (omega arith) m)

-- element i of list number s, of n with h elements each, stands in the h * n of all
below_all : (h n s i : ℕ) → s < n → i < h → h * s + i < h * n
below_all h n s i l k = let m : h * suc s ≤ h * n = mul-le-mul_left h l in omega (arith, mul-suc h s)

pub map_place : {A B : Type 0} (f : A → B) (xs : List A) (i : ℕ) (a : A) (d : B) → i < length xs → get_or (map f xs) i d ≡ f (get_or xs i a)
map_place f xs i a d h = get_d_any (map f xs) i d (f a) (omega (arith, length-map xs f)) ∙ get_or-map f xs i a

-- ---- sheets

-- whole sheets, which hold all; only the last is filled
pub sheets_whole : (n : ℕ) → on_sheets n % 60 ≡ 0
sheets_whole n = omega arith

pub sheets_hold : (n : ℕ) → n ≤ on_sheets n
sheets_hold n = omega arith

pub sheets_last : (n : ℕ) → on_sheets n < n + 60
sheets_last n = omega arith

sheets_long : (lines : List (List ℕ)) → length (sheets lines) ≡ on_sheets (length lines)
sheets_long lines =
    let n : ℕ = on_sheets (length lines) - length lines in
    length-append lines (replicate n blank_line) ∙ ap (λ (k : ℕ). length lines + k) (length-replicate n blank_line) ∙ omega (arith, sheets_hold (length lines))

-- lines on sheets, and the filling after them
sheets_first : (lines : List (List ℕ)) (i : ℕ) → i < length lines → get_or (sheets lines) i [] ≡ get_or lines i []
sheets_first lines i h = get_or-append lines (replicate (on_sheets (length lines) - length lines) blank_line) [] i h

sheets_filled : (lines : List (List ℕ)) (i : ℕ) → length lines ≤ i → i < on_sheets (length lines) → get_or (sheets lines) i [] ≡ blank_line
sheets_filled lines i h k =
    let n : ℕ = on_sheets (length lines) - length lines in
    let e : i ≡ length lines + (i - length lines) = omega arith in
    ap (λ (j : ℕ). get_or (sheets lines) j []) e ∙ get_or-append-add lines (replicate n blank_line) (i - length lines) [] ∙ get_or-replicate n (i - length lines) blank_line [] (omega arith)

-- ---- the chart

module _ (w : List ℕ) where
  -- the lines on the sheets of a series
  abbrev pub high : ℕ
  high = on_sheets (lines_of w (blocks_rpo w))

  -- block number j of the order, and the lines of those before it
  abbrev pub block_at : ℕ → ℕ
  block_at j = get_or (blocks_rpo w) j 0

  abbrev pub before : ℕ → ℕ
  before j = lines_of w (take j (blocks_rpo w))

  -- series are as long, whatever the allocations
  pub series_long : (s : ℕ) (bs : List ℕ) → length (bind bs (block_lines w s)) ≡ lines_of w bs
  series_long s bs = bind_alike (block_lines w s) (λ (b : ℕ). b ∷ ops w b) bs (λ b. ap suc (length-map (ops w b) (op_line w s b)))

  series_high : (s : ℕ) → length (sheets (series_lines w s)) ≡ high
  series_high s = sheets_long (series_lines w s) ∙ ap on_sheets (series_long s (blocks_rpo w))

  pub chart_long : length (chart_lines w) ≡ high * series_count w
  unfolding chart_lines
  chart_long = bind_long (λ (s : ℕ). sheets (series_lines w s)) high (upto (series_count w)) series_high ∙ ap (λ (n : ℕ). high * n) (length_count 0 (series_count w))

  -- line i of series s
  chart_at : (s i : ℕ) → s < series_count w → i < high → get_or (chart_lines w) (high * s + i) [] ≡ get_or (sheets (series_lines w s)) i []
  unfolding chart_lines
  chart_at s i l k =
      bind_at (λ (t : ℕ). sheets (series_lines w t)) high (upto (series_count w)) series_high s i 0 [] (rw (length_count 0 (series_count w)) l) k
      ∙ ap (λ (t : ℕ). get_or (sheets (series_lines w t)) i []) (get_or_count 0 (series_count w) s 0 l ∙ omega arith)

  module _ (good : WellFormed w) where
    -- ids and indexes have few digits
    pub short_op : {b o : ℕ} → b ∈ blocks_rpo w → o ∈ ops w b → length (number o) ≤ 5
    short_op {b} {o} m n = number_five o (omega (arith, listed_op w good m n, good.sized.operations_most))

    pub short_block : {b : ℕ} → b ∈ blocks_rpo w → length (number b) ≤ 66
    short_block {b} m = omega (arith, number_short b (omega (arith, blocks_below w good b m, good.sized.blocks_most)))

    -- the heading and each line of an operation
    block_lines_lem : (s b : ℕ) → b ∈ blocks_rpo w → Lines (block_lines w s b)
    block_lines_lem s b m line k =
        ⊎_elim
        (λ (e : line ≡ heading b). subst Line (sym e) (heading_line b (short_block m)))
        (λ (j : Memᴰ line (map (op_line w s b) (ops w b))). map_each Line (op_line w s b) (ops w b) (λ o i. op_line_lem w s b o (short_op m i)) line j)
        (mathlib.Core.List.Memᴰ.cases_cons k)

    -- and the filling
    pub chart_lines_lem : Lines (chart_lines w)
    unfolding chart_lines
    chart_lines_lem line m =
        let r = bind_out (λ (s : ℕ). sheets (series_lines w s)) (upto (series_count w)) m in
        let s : ℕ = r.0 in
        let n : ℕ = on_sheets (length (series_lines w s)) - length (series_lines w s) in
        ⊎_elim
        (λ (k : Memᴰ line (series_lines w s)). let q = bind_out (block_lines w s) (blocks_rpo w) k in block_lines_lem s q.0 q.1 line q.2)
        (λ (k : Memᴰ line (replicate n blank_line)). subst Line (sym (replicate_out n blank_line k)) blank_line_lem)
        (mathlib.Core.List.Memᴰ.append_cases (series_lines w s) r.2)

    line_at_lem : (s i : ℕ) → s < series_count w → i < high → line_at w (high * s + i) ≡ get_or (sheets (series_lines w s)) i []
    unfolding chart_text
    line_at_lem s i l k = text_line (chart_lines w) chart_lines_lem (high * s + i) (rw chart_long (below_all high (series_count w) s i l k)) ∙ chart_at s i l k

    -- line i of block number j
    pub block_at_lem : (s j i : ℕ) → s < series_count w → j < length (blocks_rpo w) → i < suc (length (ops w (block_at j)))
        → line_at w (high * s + (before j + i)) ≡ get_or (block_lines w s (block_at j)) i []
    block_at_lem s j i l k h =
        let within : before j + i < lines_of w (blocks_rpo w) = bind_within (λ (c : ℕ). c ∷ ops w c) (blocks_rpo w) j i 0 k h in
        line_at_lem s (before j + i) l (omega (arith, sheets_hold (lines_of w (blocks_rpo w))))
        ∙ sheets_first (series_lines w s) (before j + i) (rw (series_long s (blocks_rpo w)) within)
        ∙ ap (λ (n : ℕ). get_or (series_lines w s) (n + i) []) (sym (series_long s (take j (blocks_rpo w))))
        ∙ bind_place (block_lines w s) (blocks_rpo w) j i 0 [] k (rw (length-map (ops w (block_at j)) (op_line w s (block_at j))) h)

    -- after all blocks
    pub filling_at : (s i : ℕ) → s < series_count w → lines_of w (blocks_rpo w) ≤ i → i < high → line_at w (high * s + i) ≡ spaces 72
    filling_at s i l h k =
        line_at_lem s i l k
        ∙ sheets_filled (series_lines w s) i (rw (series_long s (blocks_rpo w)) h) (rw (series_long s (blocks_rpo w)) k)
        ∙ blank_spaces
