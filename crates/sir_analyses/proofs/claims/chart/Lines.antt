-- The lines of the chart: each has 72 characters and no line feed, and what stands in which column of an operation's line.
use mathlib.Core.Path.{◌≡◌, refl, sym, ap, ◌∙◌}
use mathlib.Core.Logic.{⊎_elim}
use mathlib.Core.Bool.{Bool, true, false, cond}
use Prim.Native.Nat.{ℕ, zero, suc, ◌+◌, ◌-◌, ◌*◌, ◌≤◌, ◌<◌}
use native.Mathlib.Omega.{arith}
use mathlib.Core.List.Memᴰ
use mathlib.Core.List.{List, [], ◌∷◌, ◌++◌, Memᴰ}
use lib.ListN.{length, get_or, take, replicate, length-append, length-replicate, get_or-append}
use lib.Seq.{get_or-append-add, take_at}
use lib.Dec.{ltb}
use Rattle.plank_core.specs.Lists.{upto, ◌∈◌}
use Rattle.plank_core.specs.laws.Lists.{map_each}
use Rattle.plank_core.specs.laws.Loops.{length_map_upto, get_or_map_upto}
use Rattle.plank_core.specs.Text.{ascii, number}
use Rattle.sir_data.specs.Records.{code}
use Rattle.sir_data.specs.Codes.{is_call}
use Rattle.sir_analyses.specs.Allocation.{allocs, marked, merged}
use Rattle.sir_analyses.specs.Open.{lies}
use Rattle.sir_analyses.specs.Chart.{spaces, filled, heading, blank_line, index, column, columns, call_column, op_line}
use Rattle.sir_analyses.proofs.claims.chart.Numbers.{decimal_number}

-- ---- no line feed among some characters

abbrev Clean : List ℕ → Type 0
Clean xs = (x : ℕ) → x ∈ xs → ¬ (x ≡ 10)

clean_append : (xs ys : List ℕ) → Clean xs → Clean ys → Clean (xs ++ ys)
clean_append xs ys h k x m = ⊎_elim (λ (p : x ∈ xs). h x p) (λ (q : x ∈ ys). k x q) (Memᴰ.append_cases xs m)

clean_cons : (y : ℕ) (ys : List ℕ) → ¬ (y ≡ 10) → Clean ys → Clean (y ∷ ys)
clean_cons y ys h k x m = ⊎_elim (λ (p : x ≡ y). λ z. h (sym p ∙ z)) (λ (q : x ∈ ys). k x q) (Memᴰ.cases_cons m)

clean_nil : Clean []
clean_nil x m = absurd (Memᴰ.not-nil m)

pub replicate_out : {A : Type 0} {x : A} (n : ℕ) (a : A) → Memᴰ x (replicate n a) → x ≡ a
replicate_out zero a m = absurd (Memᴰ.not-nil m)
replicate_out {A} {x} (suc n) a m = ⊎_elim (λ (e : x ≡ a). e) (λ (k : Memᴰ x (replicate n a)). replicate_out n a k) (Memᴰ.cases_cons m)

clean_spaces : (n : ℕ) → Clean (spaces n)
clean_spaces n x m e = let z = replicate_out n 32 m in omega arith

clean_number : (n : ℕ) → Clean (number n)
clean_number n x m e = let r = (decimal_number n).digit x m in omega arith

-- ---- lines of 72 characters

-- a line: 72 characters, none of them a line feed
abbrev pub Line : List ℕ → Type 0
Line line = (length line ≡ 72) × Clean line

filled_long : (text : List ℕ) → length text ≤ 72 → length (filled text) ≡ 72
filled_long text l = length-append text (spaces (72 - length text)) ∙ omega (arith, length-replicate {A = ℕ} (72 - length text) 32)

filled_line : (text : List ℕ) → length text ≤ 72 → Clean text → Line (filled text)
filled_line text l h = (filled_long text l, clean_append text (spaces (72 - length text)) h (clean_spaces (72 - length text)))

-- the heading of a block whose id has few digits
pub heading_line : (b : ℕ) → length (number b) ≤ 66 → Line (heading b)
unfolding heading
heading_line b l = filled_line (ascii "block " ++ number b) (omega (arith, length-append (ascii "block ") (number b))) (clean_append (ascii "block ") (number b) word (clean_number b))
  where
    word : Clean (ascii "block ")
    word = clean_cons 98 _ (λ e. omega arith) (clean_cons 108 _ (λ e. omega arith) (clean_cons 111 _ (λ e. omega arith) (clean_cons 99 _ (λ e. omega arith) (clean_cons 107 _ (λ e. omega arith) (clean_cons 32 _ (λ e. omega arith) clean_nil)))))

pub blank_line_lem : Line blank_line
unfolding blank_line
blank_line_lem = filled_line [] (omega arith) clean_nil

pub blank_spaces : blank_line ≡ spaces 72
unfolding blank_line
blank_spaces = refl

clean_cond : (t : Bool) (a b : ℕ) → ¬ (a ≡ 10) → ¬ (b ≡ 10) → ¬ (cond t a b ≡ 10)
clean_cond true a b h k = h
clean_cond false a b h k = k

-- ---- the line of an operation

clean_index : (o : ℕ) → Clean (index o)
unfolding index
clean_index o = clean_append (spaces (5 - length (number o))) (number o) (clean_spaces (5 - length (number o))) (clean_number o)

pub index_long : (o : ℕ) → length (number o) ≤ 5 → length (index o) ≡ 5
unfolding index
index_long o few = length-append (spaces (5 - length (number o))) (number o) ∙ omega (arith, length-replicate {A = ℕ} (5 - length (number o)) 32)

module _ (w : List ℕ) (s b o : ℕ) where
  -- the column of the k-th allocation of the series
  abbrev mark : ℕ → ℕ
  mark k = column w b o (64 * s + k)

  -- what comes after the allocations, and what comes after the index
  abbrev ending : List ℕ
  ending = 124 ∷ call_column w o ∷ []

  abbrev behind : List ℕ
  behind = 124 ∷ (columns w s b o ++ ending)

  columns_long : length (columns w s b o) ≡ 64
  unfolding columns
  columns_long = length_map_upto mark 64

  columns_at : (k : ℕ) → k < 64 → get_or (columns w s b o) k 0 ≡ column w b o (64 * s + k)
  unfolding columns
  columns_at k h = get_or_map_upto mark 64 k 0 h

  clean_columns : Clean (columns w s b o)
  unfolding columns
  clean_columns =
      map_each (λ (x : ℕ). ¬ (x ≡ 10)) mark (upto 64)
      (λ k i. clean_cond (ltb (64 * s + k) (length (allocs w))) _ 46
      (clean_cond (marked w (64 * s + k)) 42 _ (λ e. omega arith) (clean_cond (lies b o (merged w (64 * s + k))) 35 46 (λ e. omega arith) (λ e. omega arith)))
      (λ e. omega arith))

  clean_op : Clean (op_line w s b o)
  unfolding op_line
  clean_op =
      clean_append (index o) behind (clean_index o)
      (clean_cons 124 (columns w s b o ++ ending) (λ e. omega arith)
      (clean_append (columns w s b o) ending clean_columns
      (clean_cons 124 (call_column w o ∷ []) (λ e. omega arith) (clean_cons (call_column w o) [] (clean_cond (is_call (code w o)) 99 32 (λ e. omega arith) (λ e. omega arith)) clean_nil))))

  module _ (few : length (number o) ≤ 5) where
    op_long : length (op_line w s b o) ≡ 72
    unfolding op_line
    op_long = length-append (index o) behind ∙ omega (arith, index_long o few, length-append (columns w s b o) ending, columns_long)

    pub op_line_lem : Line (op_line w s b o)
    op_line_lem = (op_long, clean_op)

    pub op_index : take 5 (op_line w s b o) ≡ index o
    unfolding op_line
    op_index = take_at (index o) behind 5 (index_long o few)

    -- a column behind the index
    op_behind : (c : ℕ) → get_or (op_line w s b o) (5 + c) 0 ≡ get_or behind c 0
    unfolding op_line
    op_behind c =
        let e : 5 + c ≡ length (index o) + c = omega (arith, index_long o few) in
        ap (λ (i : ℕ). get_or (op_line w s b o) i 0) e ∙ get_or-append-add (index o) behind c 0

    pub op_bar : get_or (op_line w s b o) 5 0 ≡ 124
    op_bar = op_behind 0

    pub op_mark : (k : ℕ) → k < 64 → get_or (op_line w s b o) (6 + k) 0 ≡ column w b o (64 * s + k)
    op_mark k h =
        let e : 6 + k ≡ 5 + suc k = omega arith in
        ap (λ (i : ℕ). get_or (op_line w s b o) i 0) e
        ∙ op_behind (suc k) ∙ get_or-append (columns w s b o) ending 0 k (omega (arith, columns_long)) ∙ columns_at k h

    -- a column behind the allocations
    op_ending : (c : ℕ) → get_or (op_line w s b o) (70 + c) 0 ≡ get_or ending c 0
    op_ending c =
        let e : 70 + c ≡ 5 + suc (length (columns w s b o) + c) = omega (arith, columns_long) in
        ap (λ (i : ℕ). get_or (op_line w s b o) i 0) e ∙ op_behind (suc (length (columns w s b o) + c)) ∙ get_or-append-add (columns w s b o) ending c 0

    pub op_second : get_or (op_line w s b o) 70 0 ≡ 124
    op_second = op_ending 0

    pub op_last : get_or (op_line w s b o) 71 0 ≡ call_column w o
    op_last = op_ending 1
