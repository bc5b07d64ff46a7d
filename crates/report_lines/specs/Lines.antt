-- The lines of a report as bytes (document 01, "Paths and joins"): items with one space between them.
use Rattle.std.specs.Prelude.{cond, List, [], ◌++◌, ℕ, ◌-◌, length, eqb}
use Rattle.plank_core.specs.Lists.{bind, keep, upto}
use Rattle.plank_core.specs.Text.{ascii, number}
use Rattle.sir_data.specs.Records.{blocks, locals}
use Rattle.sir_analyses.specs.Order.{blocks_rpo, is_visited}
use Rattle.sir_analyses.specs.Liveness.{Interval, intervals, rounds}
use Rattle.sir_analyses.specs.Allocation.{allocs, alloc_at, base, marked, merged}
use Rattle.sir_analyses.specs.Answers.{entry_answer, exit_answer}

-- a name and a number
abbrev pub named : List ℕ → ℕ → List ℕ
named name n = name ++ number n

-- " vN" for each
abbrev pub locals_text : List ℕ → List ℕ
locals_text vs = bind vs (named (ascii " v"))

-- " bN" for each
abbrev pub blocks_text : List ℕ → List ℕ
blocks_text bs = bind bs (named (ascii " b"))

-- the members of a set, or " -"
abbrev pub members_text : List ℕ → List ℕ
members_text vs = cond (eqb (length vs) 0) (ascii " -") (locals_text vs)

-- "start", or the operation
abbrev pub start_text : ℕ → List ℕ
start_text s = cond (eqb s 0) (ascii "start") (number (s - 1))

-- "end", or the operation
abbrev pub end_text : ℕ → List ℕ
end_text e = cond (eqb e 4294967295) (ascii "end") (number (e - 1))

-- " bB S..E": an interval after its block
abbrev pub interval : ℕ → ℕ → ℕ → List ℕ
interval b s e = named (ascii " b") b ++ ascii " " ++ start_text s ++ ascii ".." ++ end_text e

-- the same of an interval
abbrev pub interval_text : Interval → List ℕ
interval_text i = interval i.block i.from i.to

-- "refused N": all that a refused image prints
abbrev pub refused_line : ℕ → List ℕ
refused_line n = ascii "refused " ++ number n ++ ascii "\n"

-- "order", and the blocks
abbrev pub order_line : List ℕ → List ℕ
order_line bs = ascii "order" ++ blocks_text bs ++ ascii "\n"

-- "rounds N"
abbrev pub rounds_line : ℕ → List ℕ
rounds_line n = ascii "rounds " ++ number n ++ ascii "\n"

-- "bN in .. out .."
abbrev pub block_line : ℕ → List ℕ → List ℕ → List ℕ
block_line b entry exit =
    named (ascii "b") b ++ ascii " in" ++ members_text entry ++ ascii " out" ++ members_text exit ++ ascii "\n"

-- ---- the lines of an image, from its payload words w

-- the visited blocks in the sequence of the order
unfoldable pub order_text : List ℕ → List ℕ
order_text w = order_line (blocks_rpo w)

-- the rounds of liveness
unfoldable pub rounds_text : List ℕ → List ℕ
rounds_text w = rounds_line (rounds w)

-- the visited blocks by id
abbrev pub visited_blocks : List ℕ → List ℕ
visited_blocks w = keep (is_visited w) (upto (blocks w))

-- the sets of a visited block, "-" for an empty one
unfoldable pub block_text : List ℕ → ℕ → List ℕ
block_text w b = block_line b (entry_answer w b) (exit_answer w b)

-- a local and its intervals, in the sequence of their answer; no line where there is none
unfoldable pub local_text : List ℕ → ℕ → List ℕ
local_text w v = cond (eqb (length (intervals w v)) 0) [] (named (ascii "v") v ++ bind (intervals w v) interval_text ++ ascii "\n")

-- an allocation: where it is defined, its base, `kept` or `escaped`, its intervals
unfoldable pub allocation_text : List ℕ → ℕ → List ℕ
allocation_text w a =
    let x = alloc_at w a in
    named (ascii "a") a ++ named (ascii " b") x.block ++ named (ascii " op") x.op ++ named (ascii " v") (base w x)
    ++ cond (marked w a) (ascii " escaped") (ascii " kept") ++ bind (merged w a) interval_text ++ ascii "\n"

-- all that `report` prints of an image that is not refused, line by line
abbrev pub report_text : List ℕ → List ℕ
report_text w =
    order_text w ++ rounds_text w ++ bind (visited_blocks w) (block_text w)
    ++ bind (upto (locals w)) (local_text w) ++ bind (upto (length (allocs w))) (allocation_text w)
