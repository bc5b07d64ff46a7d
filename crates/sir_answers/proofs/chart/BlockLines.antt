-- The lines of a block, from its last operation to the first.
use mathlib.Core.Path.{◌≡◌, sym, ap, ◌∙◌}
use mathlib.Core.Bool.{not, ◌&&◌, ◌||◌}
use mathlib.Core.List.{List, [], ◌∷◌, ◌++◌, map, append-nil}
use Prim.Native.Nat.{ℕ, ◌+◌, ◌-◌, ◌*◌, ◌≤◌, ◌<◌}
use native.Mathlib.Omega.{arith}
use lib.ListN.{length, take, drop}
use lib.Seq.{take_all}
use Rattle.plank_core.specs.Lists.{range, ◌∈◌}
use Rattle.plank_core.specs.laws.Lists.{count_mem}
use Rattle.plank_core.specs.inner.DenseIndexSet.{contains}
use Rattle.sir_data.specs.Records.{operations, block_word, ops}
use Rattle.sir_analyses.specs.Chart.{columns, op_line, text_of}
use Rattle.sir_analyses.specs.inner.Stages.{LivenessStage, PointerStage, reads_in, writes_in}
use Rattle.sir_answers.specs.inner.LiveAround.{LiveAround}
use Rattle.sir_answers.specs.inner.Columns.{line_with, OtherLocals, Columns}
use Rattle.sir_answers.proofs.LiveSets.{LiveBefore, ScanStart, around_here, live_passed}
use Rattle.sir_answers.proofs.chart_columns.ColumnLaws.{columns_are}
use Rattle.sir_answers.proofs.chart_lines.LineTexts.{fill_before}

-- the operations os, the last of block b, are passed: what is live before them, and their lines stand from `end` on
pub record LinesScan (w : List ℕ) (series b end : ℕ) (os set old out : List ℕ) : Type 0 where
  pub live : LiveBefore w b os set
  pub lines_are : out ≡ take end old ++ text_of (map (op_line w series b) os)

-- none is passed
pub lines_none : {w set old os : List ℕ} {series b end : ℕ} → os ≡ [] → end ≡ length old → LiveBefore w b [] set → LinesScan w series b end os set old old
lines_none {w} {set} {old} {os} {series} {b} {end} e l k = record {
  live = rw e k;
  lines_are = sym (ap (λ (ps : List ℕ). take end old ++ text_of (map (op_line w series b) ps)) e ∙ append-nil (take end old) ∙ take_all end old (omega arith));
}

-- a line with the columns of the definition
line_is : (w : List ℕ) (series b o : ℕ) {cs : List ℕ} → cs ≡ columns w series b o → line_with w o cs ++ (10 ∷ []) ≡ op_line w series b o ++ (10 ∷ [])
unfolding op_line
line_is w series b o e = ap (λ (l : List ℕ). line_with w o l ++ (10 ∷ [])) e

module _ {w live pointers others set₀ : List ℕ} {first last series b : ℕ} (stage : LivenessStage w live) (points : PointerStage w pointers) (x : OtherLocals pointers series others) (s : ScanStart w first last set₀ b)
    {o end : ℕ} {set old out : List ℕ} (k : LinesScan w series b end (range (o + 1) last) set old out) (from : first ≤ o) (till : o < last) where
  few : o < operations w
  few = omega (arith, s.end_is, stage.well_formed.in_range.ops_range b s.below)

  held : o ∈ ops w b
  held = count_mem o (block_word w b 4) (block_word w b 5 - block_word w b 4) (omega (arith, s.start_is)) (omega (arith, s.start_is, s.end_is))

  -- one operation more
  pub lines_more : (around met : List ℕ) {cs part set' : List ℕ}
      → ((v : ℕ) → v < 512 → contains around v ≡ (contains set v || contains (reads_in live) (512 * o + v))) → length around ≡ 8
      → ((v : ℕ) → v < 512 → contains met v ≡ (contains around v && not (contains others v))) → Columns pointers series met cs → part ≡ line_with w o cs ++ (10 ∷ [])
      → ((v : ℕ) → v < 512 → contains set' v ≡ ((contains around v && not (contains (writes_in live) (512 * o + v))) || contains (reads_in live) (512 * o + v))) → length set' ≡ 8
      → 73 ≤ end → end ≤ length old
      → LinesScan w series b (end - 73) (o ∷ range (o + 1) last) set' old (take (end - 73) out ++ (part ++ drop (end - (end - 73)) (drop (end - 73) out)))
  lines_more around met f long h c p g long' m n = record {
    live = live_passed stage s.below k.live few around f g long';
    lines_are = fill_before (op_line w series b o ++ (10 ∷ [])) (text_of (map (op_line w series b) (range (o + 1) last))) end 73 old m n k.lines_are
        (p ∙ line_is w series b o (columns_are x around met h points s.visited held here c));
  }
    where
      here : LiveAround w b o around
      here = around_here stage s.below k.live few around f held (ap (range (o + 1)) s.end_is) long
