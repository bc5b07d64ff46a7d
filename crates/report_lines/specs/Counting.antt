-- When a report is refused with 14: an answer that it prints would not fit its result slice of 65,536 bytes (document 01, "Paths
-- and joins").
use Rattle.std.specs.Prelude.{Bool, cond, List, [], ◌∷◌, ◌++◌, map, ℕ, ◌*◌, length, eqb, ltb}
use Rattle.plank_core.specs.Lists.{bind, upto, any}
use Rattle.sir_data.specs.Pages.{payload}
use Rattle.sir_data.specs.Records.{locals}
use Rattle.sir_analyses.specs.Allocation.{allocs}
use Rattle.sir_analyses.specs.Answers.{order_answer, rounds_answer, entry_answer, exit_answer, intervals_answer, allocation_answer}
use Rattle.sir_analyses.specs.Calls.{refusal}
use Rattle.report_lines.specs.Lines.{visited_blocks}

-- an answer of so many words needs more than 65,536 bytes
abbrev pub too_long : List ℕ → Bool
too_long answer = ltb 65536 (4 * length answer)

-- the answers that a report prints
abbrev pub printed : List ℕ → List (List ℕ)
printed w =
    order_answer w ∷ rounds_answer w
    ∷ (bind (visited_blocks w) (λ b. entry_answer w b ∷ exit_answer w b ∷ [])
    ++ map (intervals_answer w) (upto (locals w)) ++ map (allocation_answer w) (upto (length (allocs w))))

-- any one of them is too long
unfoldable pub some_too_long : List ℕ → Bool
some_too_long w = any too_long (printed w)

-- 0, or the number that is printed after `refused`
unfoldable pub reported : List ℕ → ℕ
reported image = cond (eqb (refusal image) 0) (cond (some_too_long (payload image)) 14 0) (refusal image)

-- ---- the two kinds of answers that can be too long; used by inner contracts

unfoldable pub local_too_long : List ℕ → Bool
local_too_long w = any (λ v. too_long (intervals_answer w v)) (upto (locals w))

unfoldable pub allocation_too_long : List ℕ → Bool
allocation_too_long w = any (λ a. too_long (allocation_answer w a)) (upto (length (allocs w)))
