-- The text of an interval that stands in an answer has at most 36 bytes.
use mathlib.Core.Path.{◌≡◌, ap, ◌∙◌}
use mathlib.Core.List.{List, ◌++◌}
use Prim.Native.Nat.{ℕ, zero, suc, ◌+◌, ◌*◌, ◌≤◌, ◌<◌}
use native.Mathlib.Omega.{arith}
use lib.ListN.{length, get_or, length-append}
use Rattle.plank_core.specs.Lists.{bind, upto}
use Rattle.plank_core.specs.laws.Loops.{bind_snoc, upto_suc}
use Rattle.sir_data.specs.Pages.{word_at}
use Rattle.report_lines.specs.inner.AnswerLines.{interval_at, intervals_at}
use Rattle.report_lines.proofs.Numbers.{interval_short}

pub word_small : (bytes : List ℕ) (i : ℕ) → ((k : ℕ) → get_or bytes k 0 < 256) → word_at bytes i < 4294967296
word_small bytes i h = omega (arith, h (4 * i), h (4 * i + 1), h (4 * i + 2), h (4 * i + 3))

pub interval_at_short : (bytes : List ℕ) (i : ℕ) → ((k : ℕ) → get_or bytes k 0 < 256) → length (interval_at bytes i) ≤ 36
unfolding interval_at
interval_at_short bytes i h = interval_short (word_at bytes i) (word_at bytes (i + 1)) (word_at bytes (i + 2)) (word_small bytes i h) (word_small bytes (i + 1) h) (word_small bytes (i + 2) h)

-- so many of them
pub intervals_short : (bytes : List ℕ) (first n : ℕ) → ((k : ℕ) → get_or bytes k 0 < 256) → length (intervals_at bytes first n) ≤ 36 * n
intervals_short bytes first zero h = omega arith
intervals_short bytes first (suc n) h =
    let e : bind (upto (suc n)) f ≡ bind (upto n) f ++ f n = ap (λ (l : List ℕ). bind l f) (upto_suc n) ∙ bind_snoc f (upto n) n in
    omega (arith, ap length e, length-append (bind (upto n) f) (f n), intervals_short bytes first n h, interval_at_short bytes (first + 3 * n) h)
  where
    f : ℕ → List ℕ
    f k = interval_at bytes (first + 3 * k)
