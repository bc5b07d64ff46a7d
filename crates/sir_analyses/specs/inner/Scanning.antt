-- The intervals of one local in one block, step by step; an end of 0 is none, and so is the option of it.
use Rattle.std.specs.Prelude.{Bool, ◌&&◌, cond, Option, None, Some, ℕ, zero, suc, eqb}
use mathlib.Core.List.{List, [], ◌∷◌, foldr}
use Rattle.sir_data.specs.Records.{ops}
use Rattle.sir_analyses.specs.Liveness.{Interval, close, scan_op}
use Rattle.sir_analyses.specs.Answers.{interval_words}

-- the open end before an operation whose own end is `here`, by whether it defines the local and whether it reads it
abbrev pub open_before : Bool → Bool → ℕ → ℕ → ℕ
open_before defined read here till = let left = cond defined 0 till in cond (read && eqb left 0) here left

-- the end of the interval that the operation closes
abbrev pub closed_by : Bool → ℕ → ℕ
closed_by defined till = cond defined till 0

-- an end as an option
abbrev pub end_of : ℕ → Option ℕ
end_of zero = None
end_of (suc e) = Some (suc e)

-- the interval that a start closes, if an end is open
abbrev pub ending : ℕ → ℕ → Option ℕ → List Interval
ending b from None = []
ending b from (Some e) = record { block = b; from = from; to = e } ∷ []

-- the words of a block's intervals, from the end that is open after its operations
abbrev pub scan_words : List ℕ → ℕ → ℕ → ℕ → List ℕ
scan_words w b v end = interval_words (close b 0 (foldr (scan_op w b v) (record { open' = end; closed = [] }) (ops w b))).closed
