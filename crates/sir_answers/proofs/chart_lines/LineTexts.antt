-- Lines of a chart put piece by piece, and lines in a slice one after the other.
use mathlib.Core.Path.{◌≡◌, sym, ap, ◌∙◌}
use mathlib.Core.List.{List, [], ◌∷◌, ◌++◌, append_assoc, append-nil}
use Prim.Native.Nat.{ℕ, ◌+◌, ◌-◌, ◌≤◌, ◌<◌}
use native.Mathlib.Omega.{arith}
use lib.ListN.{length, take, drop, replicate, replicate-append-replicate, length-append}
use lib.Seq.{take_at, drop_at, take-append-le, length-take-le, take-take, drop-drop}
use Rattle.plank_core.specs.Text.{ascii, number}
use Rattle.plank_core.specs.laws.Loops.{bind_snoc, after_end}
use Rattle.sir_analyses.specs.Chart.{spaces, heading, blank_line, index, call_column, text_of}
use Rattle.sir_analyses.proofs.claims.chart.Numbers.{number_five}
use Rattle.sir_analyses.proofs.claims.chart.Lines.{index_long}
use Rattle.sir_answers.specs.inner.Columns.{line_with}

-- a line with its line feed, piece by piece
pub line_fed : (w : List ℕ) (o : ℕ) (cs : List ℕ) → index o ++ (124 ∷ (cs ++ (124 ∷ call_column w o ∷ 10 ∷ []))) ≡ line_with w o cs ++ (10 ∷ [])
line_fed w o cs =
    ap (λ (l : List ℕ). index o ++ (124 ∷ l)) (sym (append_assoc cs (124 ∷ call_column w o ∷ []) (10 ∷ [])))
    ∙ sym (append_assoc (index o) (124 ∷ (cs ++ (124 ∷ call_column w o ∷ []))) (10 ∷ []))

pub line_fed_length : (w : List ℕ) (o : ℕ) (cs : List ℕ) → o < 100000 → length cs ≡ 64 → length (line_with w o cs ++ (10 ∷ [])) ≡ 73
line_fed_length w o cs h e =
    ap length (sym (line_fed w o cs)) ∙ length-append (index o) (124 ∷ (cs ++ (124 ∷ call_column w o ∷ 10 ∷ [])))
    ∙ omega (arith, index_long o (number_five o h), length-append cs (124 ∷ call_column w o ∷ 10 ∷ []))

-- a heading with its line feed, piece by piece
pub heading_fed : (b n : ℕ) → n ≡ 6 + length (number b) → ascii "block " ++ (number b ++ (spaces (72 - n) ++ (10 ∷ []))) ≡ heading b ++ (10 ∷ [])
unfolding heading
heading_fed b n e =
    let text = ascii "block " ++ number b in
    let k : 72 - n ≡ 72 - length text = omega arith in
    ap (λ (i : ℕ). ascii "block " ++ (number b ++ (spaces i ++ (10 ∷ [])))) k
    ∙ ap (λ (l : List ℕ). ascii "block " ++ l) (sym (append_assoc (number b) (spaces (72 - length text)) (10 ∷ [])))

-- one blank line more
pub blanks_more : (n : ℕ) → text_of (replicate n blank_line) ++ (blank_line ++ (10 ∷ [])) ≡ text_of (replicate (n + 1) blank_line)
blanks_more n = sym (bind_snoc (λ line. line ++ (10 ∷ [])) (replicate n blank_line) blank_line) ∙ ap text_of (replicate-append-replicate n 1 blank_line)

-- ---- parts of a slice

-- a part is written whole, after what stands in front of it
pub fill_next : (front more : List ℕ) (n m : ℕ) (d : List ℕ) {xs part : List ℕ} → length front ≡ n → xs ≡ front ++ drop n d → part ≡ more → length part ≡ m
    → (length (front ++ more) ≡ n + m) × (take n xs ++ (part ++ drop (n + m - n) (drop n xs)) ≡ (front ++ more) ++ drop (n + m) d)
fill_next front more n m d {xs} {part} l e p k =
    let stored : take n xs ≡ front = rw e (take_at front (drop n d) n l) in
    let end : drop n xs ≡ drop n d = rw e (drop_at front (drop n d) n l) in
    let s : n + m - n ≡ m = omega arith in
    (length-append front more ∙ omega (arith, ap length p), rw (p, s, stored, end, drop-drop m n d, append_assoc))

-- the last part, to the end of the slice
pub fill_end : (front more : List ℕ) (n : ℕ) (d : List ℕ) {xs part : List ℕ} → length front ≡ n → xs ≡ front ++ drop n d → part ≡ more
    → take n xs ++ (part ++ drop (length xs - n) (drop n xs)) ≡ front ++ more
fill_end front more n d {xs} {part} l e p =
    let stored : take n xs ≡ front = rw e (take_at front (drop n d) n l) in
    rw (p, after_end n xs, stored, append-nil)

-- a part is written whole, before what stands after it
pub fill_before : (more rest : List ℕ) (n m : ℕ) (d : List ℕ) {xs part : List ℕ} → m ≤ n → n ≤ length d → xs ≡ take n d ++ rest → part ≡ more
    → take (n - m) xs ++ (part ++ drop (n - (n - m)) (drop (n - m) xs)) ≡ take (n - m) d ++ (more ++ rest)
fill_before more rest n m d {xs} {part} k h e p =
    let long : length (take n d) ≡ n = length-take-le n d h in
    let stored : take (n - m) xs ≡ take (n - m) d = rw e (take-append-le (n - m) (take n d) rest (omega arith) ∙ take-take (n - m) n d (omega arith)) in
    let s : n - m + (n - (n - m)) ≡ n = omega arith in
    let end : drop (n - (n - m)) (drop (n - m) xs) ≡ rest = drop-drop (n - (n - m)) (n - m) xs ∙ rw (s, e) (drop_at (take n d) rest n long) in
    rw (stored, end, p)
