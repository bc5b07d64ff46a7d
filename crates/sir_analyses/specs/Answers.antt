-- What each question answers, as words (document 01, "What can be put to an image").
use Rattle.std.specs.Prelude.{ℕ, List, [], ◌∷◌, ◌++◌, length, get_or}
use Rattle.plank_core.specs.Lists.{bind, one_if}
use Rattle.sir_analyses.specs.Order.{functions_rpo, function_blocks, predecessors}
use Rattle.sir_analyses.specs.Liveness.{uses, members, entry_set, exit_set, rounds, Interval, intervals}
use Rattle.sir_analyses.specs.Allocation.{alloc_at, base, marked, merged, owners}
use Rattle.sir_analyses.specs.Flags.{flags_word}
use Rattle.sir_analyses.specs.Kinds.{kind_of, kind_words}

-- order: for each function of `functions_rpo` its id, its block count, its block ids
abbrev pub order_answer : List ℕ → List ℕ
order_answer w = bind (functions_rpo w) (λ f. f ∷ length (function_blocks w f) ∷ function_blocks w f)

-- predecessors of a block, repeats kept
abbrev pub predecessors_answer : List ℕ → ℕ → List ℕ
predecessors_answer w b = predecessors w b

-- entry set of a block, ids ascending
abbrev pub entry_answer : List ℕ → ℕ → List ℕ
entry_answer w b = members (entry_set w b)

-- exit set of a block, ids ascending
abbrev pub exit_answer : List ℕ → ℕ → List ℕ
exit_answer w b = members (exit_set w b)

-- uses of a local, three words each: block, kind, then operation index, 0, or position
abbrev pub uses_answer : List ℕ → ℕ → List ℕ
uses_answer w v = bind (uses w v) (λ u. u.block ∷ u.kind ∷ u.place ∷ [])

-- three words for each interval: block, start, end
abbrev pub interval_words : List Interval → List ℕ
interval_words is = bind is (λ i. i.block ∷ i.from ∷ i.to ∷ [])

-- intervals of a local
abbrev pub intervals_answer : List ℕ → ℕ → List ℕ
intervals_answer w v = interval_words (intervals w v)

-- an allocation: defining block, operation, base local, its three words of kind, mark, flags, interval count, intervals
abbrev pub allocation_answer : List ℕ → ℕ → List ℕ
allocation_answer w a =
    let x = alloc_at w a in
    x.block ∷ x.op ∷ base w x
    ∷ (kind_words (kind_of w x.op) ++ (one_if (marked w a) ∷ flags_word w a ∷ length (merged w a) ∷ interval_words (merged w a)))

-- owner of a local: allocation + 1, or 0
abbrev pub owner_answer : List ℕ → ℕ → List ℕ
owner_answer w v = get_or (owners w) v 0 ∷ []

-- rounds
abbrev pub rounds_answer : List ℕ → List ℕ
rounds_answer w = rounds w ∷ []
