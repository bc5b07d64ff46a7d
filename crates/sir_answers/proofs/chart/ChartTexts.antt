-- The text of a chart: blocks and series in turn.
use mathlib.Core.Path.{◌≡◌, refl, sym, ap, ◌∙◌}
use mathlib.Core.List.{List, [], ◌∷◌, ◌++◌}
use Prim.Native.Nat.{ℕ, ◌+◌, ◌-◌, ◌*◌, ◌≤◌, ◌<◌}
use native.Mathlib.Omega.{arith}
use native.Mathlib.Nat.{mul_assoc}
use native.Mathlib.Numerals.{add-one}
use lib.ListN.{length, get_or, take, drop, replicate, length-append, take-append-drop}
use lib.Seq.{take-suc}
use borrow.Author.Tests.{lt-ltb, le-ltb}
use Rattle.plank_core.specs.Lists.{bind, upto}
use Rattle.plank_core.specs.laws.Loops.{bind_append, bind_snoc, upto_more}
use Rattle.sir_data.specs.Records.{ops}
use Rattle.sir_analyses.specs.Order.{blocks_rpo}
use Rattle.sir_analyses.specs.Calls.{made, answered}
use Rattle.sir_analyses.specs.Chart.{blank_line, block_lines, series_lines, on_sheets, sheets, series_for, series_count, text_of, chart_text, lines_of}
use Rattle.sir_analyses.specs.inner.Stages.{VisitStage, AcceptedStage, rpo_in}
use Rattle.sir_analyses.proofs.stages.Parts.{part_most}
use Rattle.sir_analyses.proofs.allocation_liveness.Discovery.{sites_long}
use Rattle.sir_analyses.proofs.claims.chart.Places.{series_long}
use Rattle.sir_analyses.proofs.claims.chart.ChartProof.{chart_rule}

-- the order has at most 256 blocks
pub order_most : {w visit order : List ℕ} → VisitStage w visit → order ≡ rpo_in visit → length order ≤ 256
order_most {w} {visit} stage e = omega (arith, ap length e, part_most 1 (get_or visit 0 0) visit, stage.few)

-- ---- how long the chart is

pub series_is : {w sites : List ℕ} → AcceptedStage w sites → series_for (length sites) ≡ series_count w
series_is {w} stage = ap series_for (ap length stage.sites_are ∙ sites_long w)

pub chart_length : {w sites : List ℕ} → AcceptedStage w sites → length (chart_text w) ≡ 73 * on_sheets (lines_of w (blocks_rpo w)) * series_count w
chart_length {w} stage =
    let r = chart_rule w stage.well_formed stage.bases_differ in
    let h : r.height ≡ on_sheets (lines_of w (blocks_rpo w)) = omega (arith, r.whole, r.holds_all, r.last_only) in
    r.long ∙ ap (λ (n : ℕ). 73 * (n * series_count w)) h ∙ sym (mul_assoc 73 (on_sheets (lines_of w (blocks_rpo w))) (series_count w))

-- a slice that is too short, and one that holds it
pub chart_refused : (bytes out : List ℕ) → length out < length bytes → made 14 0 out ≡ answered bytes out
chart_refused bytes out h = rw (lt-ltb (length out) (length bytes) h) refl

pub chart_answered : (bytes out : List ℕ) {n : ℕ} {part : List ℕ} → n ≡ length bytes → n ≤ length out → part ≡ bytes → made 0 n (part ++ drop n out) ≡ answered bytes out
chart_answered bytes out e h p = rw (e, p, le-ltb (length out) (length bytes) (omega arith)) refl

-- ---- lines as text

pub text_append : (xs ys : List (List ℕ)) → text_of (xs ++ ys) ≡ text_of xs ++ text_of ys
text_append xs ys = bind_append (λ line. line ++ (10 ∷ [])) xs ys

-- ---- blocks of a series

module _ (w : List ℕ) where
  pub lines_append : (bs cs : List ℕ) → lines_of w (bs ++ cs) ≡ lines_of w bs + lines_of w cs
  lines_append bs cs = ap length (bind_append (λ b. b ∷ ops w b) bs cs) ∙ length-append (bind bs (λ b. b ∷ ops w b)) (bind cs (λ b. b ∷ ops w b))

  pub lines_one : (b : ℕ) → lines_of w (b ∷ []) ≡ 1 + length (ops w b)
  lines_one b = length-append (b ∷ ops w b) [] ∙ omega arith

  module _ (bs : List ℕ) (i : ℕ) (h : i < length bs) where
    taken : take (i + 1) bs ≡ take i bs ++ (get_or bs i 0 ∷ [])
    taken = ap (λ (k : ℕ). take k bs) (add-one i) ∙ take-suc bs i 0 h

    pub lines_next : lines_of w (take (i + 1) bs) ≡ lines_of w (take i bs) + (1 + length (ops w (get_or bs i 0)))
    lines_next = ap (lines_of w) taken ∙ lines_append (take i bs) (get_or bs i 0 ∷ []) ∙ omega (arith, lines_one (get_or bs i 0))

    pub blocks_next : (series : ℕ) → text_of (bind (take i bs) (block_lines w series)) ++ text_of (block_lines w series (get_or bs i 0)) ≡ text_of (bind (take (i + 1) bs) (block_lines w series))
    blocks_next series =
        sym (text_append (bind (take i bs) (block_lines w series)) (block_lines w series (get_or bs i 0)))
        ∙ ap text_of (sym (ap (λ (cs : List ℕ). bind cs (block_lines w series)) taken ∙ bind_snoc (block_lines w series) (take i bs) (get_or bs i 0)))

  -- the first blocks have no more lines than all
  pub lines_within : (bs : List ℕ) (i : ℕ) → lines_of w (take i bs) ≤ lines_of w bs
  lines_within bs i = let e = ap (lines_of w) (sym (take-append-drop i bs)) ∙ lines_append (take i bs) (drop i bs) in omega arith

  -- the blocks and the filling are the sheets of a series
  pub sheets_text : (series n : ℕ) → n ≡ on_sheets (lines_of w (blocks_rpo w)) - lines_of w (blocks_rpo w)
      → text_of (series_lines w series) ++ text_of (replicate n blank_line) ≡ text_of (sheets (series_lines w series))
  sheets_text series n e =
      let l : length (series_lines w series) ≡ lines_of w (blocks_rpo w) = series_long w series (blocks_rpo w) in
      let k : n ≡ on_sheets (length (series_lines w series)) - length (series_lines w series) = e ∙ ap (λ (i : ℕ). on_sheets i - i) (sym l) in
      sym (text_append (series_lines w series) (replicate n blank_line)) ∙ ap (λ (i : ℕ). text_of (series_lines w series ++ replicate i blank_line)) k

  -- ---- series of a chart

  -- the text of the first series
  abbrev pub series_to : ℕ → List ℕ
  series_to n = text_of (bind (upto n) (λ series. sheets (series_lines w series)))

  pub series_next : (n : ℕ) → series_to n ++ text_of (sheets (series_lines w n)) ≡ series_to (n + 1)
  series_next n =
      sym (text_append (bind (upto n) (λ series. sheets (series_lines w series))) (sheets (series_lines w n)))
      ∙ ap text_of (sym (ap (λ (ns : List ℕ). bind ns (λ series. sheets (series_lines w series))) (upto_more n) ∙ bind_snoc (λ series. sheets (series_lines w series)) (upto n) n))
