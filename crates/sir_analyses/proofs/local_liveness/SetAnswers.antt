-- What the questions read off the tables: the members of exit and entry sets, and the intervals of a local.
use mathlib.Core.Path.{◌≡◌, refl, sym, ap, ap₂, ◌∙◌}
use mathlib.Core.Bool.{Bool, false, ◌||◌}
use mathlib.Core.List.{List, [], ◌++◌, append-nil}
use Prim.Native.Nat.{ℕ, zero, suc, ◌+◌, ◌-◌, ◌*◌, ◌≤◌, ◌<◌}
use native.Mathlib.Omega.{arith}
use lib.ListN.{length, take, drop, replicate}
use lib.Seq.{take_at}
use Rattle.plank_core.specs.Lists.{count, upto, keep}
use Rattle.plank_core.specs.laws.Lists.{keep_alike, mem_upto}
use Rattle.plank_core.specs.laws.Loops.{count_add, keep_append}
use Rattle.plank_core.specs.inner.DenseIndexSet.{contains}
use Rattle.plank_core.specs.inner.DenseIndexSet as Words
use Rattle.plank_core.specs.laws.DenseIndexSet.{contains_row, contains_cleared, length_row}
use Rattle.sir_data.specs.Records.{blocks}
use Rattle.sir_data.specs.inner.WellFormed.{WellFormed}
use Rattle.sir_analyses.specs.Order.{is_visited}
use Rattle.sir_analyses.specs.Liveness.{Set, has, members, entry_from, settled, exit_set, end_open, block_intervals}
use Rattle.sir_analyses.specs.Answers.{exit_answer, entry_answer, interval_words}
use Rattle.sir_analyses.specs.inner.Tables.{Same, SameRows, BlockRows, EndRows, EntryWords, LiveRows}
use Rattle.sir_analyses.specs.inner.Scanning.{scan_words}
use Rattle.sir_analyses.proofs.claims.liveness.GenKill.{beyond, entry_length}
use Rattle.sir_analyses.proofs.claims.liveness.LivenessProof.{exit_size}
use Rattle.sir_analyses.proofs.local_liveness.Stepping.{entry_shows}

-- ---- words that show a set have its members

keep_none : (p : ℕ → Bool) (s n : ℕ) → ((i : ℕ) → s ≤ i → i < s + n → p i ≡ false) → keep p (count s n) ≡ []
keep_none p s zero h = refl
keep_none p s (suc n) h = rw (h s (omega arith) (omega arith)) (keep_none p (suc s) n (λ i a b. h i (omega arith) (omega arith)))

-- a test that passes none from n on keeps of more numbers what it keeps of those below n
pub keep_below : (p q : ℕ → Bool) (n N : ℕ) → n ≤ N → ((i : ℕ) → i < n → p i ≡ q i) → ((i : ℕ) → n ≤ i → i < N → p i ≡ false) → keep p (upto N) ≡ keep q (upto n)
keep_below p q n N l f g =
    let e : n + (N - n) ≡ N = omega arith in
    ap (λ (k : ℕ). keep p (upto k)) (sym e) ∙ ap (keep p) (count_add 0 n (N - n))
    ∙ keep_append p (upto n) (count (0 + n) (N - n))
    ∙ ap₂ (λ (xs ys : List ℕ). xs ++ ys)
    (keep_alike p q (upto n) (λ i m. f i (mem_upto i n m)))
    (keep_none p (0 + n) (N - n) (λ i a b. g i (omega arith) (omega arith)))
    ∙ append-nil (keep q (upto n))

pub same_members : (ws : List ℕ) (s : Set) → length s ≤ 512 → Same ws s → Words.members ws ≡ members s
unfolding Words.members
same_members ws s l h = keep_below (contains ws) (has s) (length s) 512 l (λ i q. h i (omega arith)) (λ i m q. h i q ∙ beyond s i m)

-- ---- the sets of a block

module _ {w : List ℕ} (good : WellFormed w) (b : ℕ) (l : b < blocks w) (exits : List ℕ) (rows : SameRows exits (settled w).1 (blocks w)) where
  pub exit_members : Words.members (Words.row_of exits b) ≡ exit_answer w b
  exit_members = same_members (Words.row_of exits b) (exit_set w b) (omega (arith, exit_size w good b l, good.sized.locals_most)) (λ v h. contains_row exits b v h ∙ rows b v l h)

  pub entry_members : (ws : List ℕ) {uses defs : List ℕ} → BlockRows w uses defs → EntryWords uses defs exits b ws → Words.members ws ≡ members (entry_from w b (exit_set w b))
  entry_members ws blockRows words =
      same_members ws (entry_from w b (exit_set w b)) (omega (arith, entry_length w b (exit_set w b), exit_size w good b l, good.sized.locals_most))
      (entry_shows good b l ws exits (exit_set w b) blockRows words (exit_size w good b l) (λ v h. rows b v l h))

  pub interval_words_lem : (v : ℕ) {ends : List ℕ} → v < 512 → EndRows w ends
      → scan_words w b v (end_open (contains exits (512 * b + v) || contains ends (512 * b + v))) ≡ interval_words (block_intervals w (exit_set w b) v b)
  interval_words_lem v {ends} h e = rw (rows b v l h, e.ended b v l h)

pub front_members : (s out : List ℕ) {out' : List ℕ} {n : ℕ} → n ≡ length (Words.members s) → out' ≡ Words.members s ++ drop n out → take n out' ≡ Words.members s
front_members s out {n = n} l e = ap (take n) e ∙ take_at (Words.members s) (drop n out) n (sym l)

module _ {w : List ℕ} (good : WellFormed w) {uses defs exits : List ℕ} (t : LiveRows w uses defs exits) {b : ℕ} (l : b < blocks w) where
  pub row_answer : {set : List ℕ} → set ≡ Words.row_of exits b → (length set ≡ 8) × (Words.members set ≡ exit_answer w b)
  row_answer e = (ap length e ∙ length_row exits b (omega (arith, t.exits_long, good.sized.blocks_most)), ap Words.members e ∙ t.exit_is b l)

-- an unvisited block has an empty entry set
pub no_entry : (w : List ℕ) (b : ℕ) → is_visited w b ≡ false → Words.members (replicate 8 0) ≡ entry_answer w b
no_entry w b v = rw v (same_members (replicate 8 0) [] (omega arith) (λ n h. contains_cleared 8 n))
