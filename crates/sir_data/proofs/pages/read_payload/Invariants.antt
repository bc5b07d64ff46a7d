-- `read_payload` meets its contract. The loop's invariant: the payload of p pages is stored, and the rest is as it was.
use Rattle.std.proofs.Common.{◌≡◌, ℕ, ◌+◌, ◌*◌, ◌/◌, ◌%◌, List, ◌++◌, map, length, drop}
use Rattle.plank_core.specs.Lists.{upto}
use Rattle.sir_data.specs.Pages.{page_word}
use Rattle.sir_data.proofs.pages.read_payload.Given as goal

-- payload word k
abbrev pub taken : List ℕ → ℕ → ℕ
taken s k = page_word s (k / 126) (1 + k % 126)

abbrev pub invariant-loop-p : goal.invariant-loop-p
invariant-loop-p l = (length l.words ≡ length l.initial.words) × (l.words ≡ map (taken l.image) (upto (126 * l.p)) ++ drop (126 * l.p) l.initial.words)
