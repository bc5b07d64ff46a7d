-- The lines of locals and allocations by the bytes of their answers. Used by inner contracts; no promise of `report` speaks of it.
use Rattle.std.specs.Prelude.{cond, List, ◌++◌, ℕ, ◌+◌, ◌-◌, ◌*◌, ◌/◌, ◌<◌, length, get_or, eqb}
use Rattle.plank_core.specs.Lists.{bind, upto}
use Rattle.sir_data.specs.Pages.{word_at}
use Rattle.plank_core.specs.Text.{ascii}
use Rattle.report_lines.specs.Lines.{named, interval}

-- numbers that fit 32 bits
abbrev pub Words : List ℕ → Type 0
Words xs = (k : ℕ) → get_or xs k 0 < 4294967296

-- the interval of an answer that starts at word i
unfoldable pub interval_at : List ℕ → ℕ → List ℕ
interval_at answer i = interval (word_at answer i) (word_at answer (i + 1)) (word_at answer (i + 2))

-- the ends of n intervals, from word `first` on, are not 0
abbrev pub EndsSome : List ℕ → ℕ → ℕ → Type 0
EndsSome answer first n = (k : ℕ) → k < n → 0 < word_at answer (first + 3 * k + 2)

-- n intervals of an answer, from word `first` on
abbrev pub intervals_at : List ℕ → ℕ → ℕ → List ℕ
intervals_at answer first n = bind (upto n) (λ k. interval_at answer (first + 3 * k))

-- "vN" and the intervals of its answer, as bytes
abbrev pub local_line : ℕ → List ℕ → List ℕ
local_line v answer = named (ascii "v") v ++ intervals_at answer 0 (length answer / 12) ++ ascii "\n"

-- "kept" or "escaped"
abbrev pub mark : ℕ → List ℕ
mark m = cond (eqb m 0) (ascii " kept") (ascii " escaped")

-- "aN bB opO vV" and the mark
unfoldable pub allocation_head : ℕ → List ℕ → List ℕ
allocation_head a answer =
    named (ascii "a") a ++ named (ascii " b") (word_at answer 0) ++ named (ascii " op") (word_at answer 1)
    ++ named (ascii " v") (word_at answer 2) ++ mark (word_at answer 6)

-- an allocation by its answer, as bytes
abbrev pub allocation_line : ℕ → List ℕ → List ℕ
allocation_line a answer = allocation_head a answer ++ intervals_at answer 9 ((length answer - 36) / 12) ++ ascii "\n"
