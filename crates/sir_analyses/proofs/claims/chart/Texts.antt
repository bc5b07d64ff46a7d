-- The text of lines of 72 characters: where each stands, and where line feeds do.
use mathlib.Core.Path.{◌≡◌, refl, sym, ap, ◌∙◌}
use mathlib.Core.Logic.{◌↔◌, ⊎_elim}
use Prim.Native.Nat.{ℕ, zero, suc, ◌+◌, ◌*◌, ◌/◌, ◌%◌, ◌≤◌, ◌<◌}
use native.Mathlib.Omega.{arith}
use mathlib.Core.List.{List, [], ◌∷◌, ◌++◌, Memᴰ, append_assoc}
use lib.ListN.{length, get_or, take, drop, length-append, get_or-append}
use lib.Seq.{drop-append-add, get_or-drop, get_or_at, take_at}
use Rattle.plank_core.specs.laws.Lists.{get_or_mem, split}
use Rattle.sir_analyses.specs.Chart.{text_of}
use Rattle.sir_analyses.proofs.claims.chart.Lines.{Line}

-- lines, each of 72 characters and with no line feed
abbrev pub Lines : List (List ℕ) → Type 0
Lines lines = (line : List ℕ) → Memᴰ line lines → Line line

pub text_long : (lines : List (List ℕ)) → Lines lines → length (text_of lines) ≡ 73 * length lines
text_long [] h = omega arith
text_long (l ∷ ls) h =
    length-append (l ++ (10 ∷ [])) (text_of ls)
    ∙ omega (arith, length-append l (10 ∷ []), (h l (Memᴰ.head refl)).0, text_long ls (λ k m. h k (Memᴰ.tail m)))

-- the text from line i on
text_from : (lines : List (List ℕ)) → Lines lines → (i : ℕ) → i < length lines → drop (73 * i) (text_of lines) ≡ get_or lines i [] ++ (10 ∷ text_of (drop (suc i) lines))
text_from [] h i k = absurd (omega arith)
text_from (l ∷ ls) h zero k = append_assoc l (10 ∷ []) (text_of ls)
text_from (l ∷ ls) h (suc i) k =
    let e : 73 * suc i ≡ length (l ++ (10 ∷ [])) + 73 * i = omega (arith, length-append l (10 ∷ []), (h l (Memᴰ.head refl)).0) in
    ap (λ (n : ℕ). drop n (text_of (l ∷ ls))) e ∙ drop-append-add (l ++ (10 ∷ [])) (text_of ls) (73 * i) ∙ text_from ls (λ j m. h j (Memᴰ.tail m)) i (omega arith)

module _ (lines : List (List ℕ)) (h : Lines lines) (i : ℕ) (k : i < length lines) where
  abbrev line : List ℕ
  line = get_or lines i []

  fits : Line line
  fits = h line (get_or_mem lines i [] k)

  pub text_line : take 72 (drop (73 * i) (text_of lines)) ≡ get_or lines i []
  text_line = ap (take 72) (text_from lines h i k) ∙ take_at line (10 ∷ text_of (drop (suc i) lines)) 72 fits.0

  -- character c of line i
  text_at : (c : ℕ) → get_or (text_of lines) (73 * i + c) 0 ≡ get_or (line ++ (10 ∷ text_of (drop (suc i) lines))) c 0
  text_at c = sym (get_or-drop (73 * i) (text_of lines) c 0) ∙ ap (λ (t : List ℕ). get_or t c 0) (text_from lines h i k)

  -- no character of a line is a line feed
  no_feed : (c : ℕ) → c < 72 → get_or (text_of lines) (73 * i + c) 0 ≡ 10 → ⊥
  no_feed c l e =
      let inside : c < length line = omega (arith, fits.0) in
      fits.1 (get_or line c 0) (get_or_mem line c 0 inside) (sym (get_or-append line (10 ∷ text_of (drop (suc i) lines)) 0 c inside) ∙ sym (text_at c) ∙ e)

  -- the one behind it is
  feed_behind : (c : ℕ) → c < 73 → (get_or (text_of lines) (73 * i + c) 0 ≡ 10) ↔ (c ≡ 72)
  feed_behind c l = (
    (λ e. ⊎_elim (λ (m : c < 72). absurd (no_feed c m e)) (λ (m : 72 ≤ c). omega arith) (split c 72)),
    (λ e. text_at c ∙ get_or_at line 10 (text_of (drop (suc i) lines)) 0 c (fits.0 ∙ sym e)),
  )

pub feeds : (lines : List (List ℕ)) → Lines lines → (p : ℕ) → p < length (text_of lines) → (get_or (text_of lines) p 0 ≡ 10) ↔ (p % 73 ≡ 72)
feeds lines h p k =
    let e : 73 * (p / 73) + p % 73 ≡ p = omega arith in
    let f = feed_behind lines h (p / 73) (omega (arith, text_long lines h)) (p % 73) (omega arith) in
    rw e at f
