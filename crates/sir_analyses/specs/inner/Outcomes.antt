-- What the functions of answers give, before it is told to C: how many bytes the answer has, or a refusal.
use Rattle.std.specs.Prelude.{◌≡◌, ℕ, ◌*◌, List, Result, Ok, Err, cond, ltb}
use Rattle.sir_data.specs.declared.refusals.Refusal.{Refusal}
use Rattle.sir_data.specs.declared.refusals.Refusal.TheVariants.{ShortResult}
use Rattle.sir_data.specs.Refusals.{refused}
use Rattle.sir_analyses.specs.Calls.{Outcome, made}

-- the length that a result gives; 0 for a refusal
abbrev pub given : Result ℕ Refusal → ℕ
given (Ok n) = n
given (Err refusal) = 0

-- the outcome of a call with this result and what it leaves in the slice
abbrev pub outcome : Result ℕ Refusal → List ℕ → Outcome
outcome r out = made (refused r) (given r) out

-- an answer of n words in a slice of `room` bytes: its length, or no room for it
pub record Finished (n room : ℕ) (r : Result ℕ Refusal) : Type 0 where
  pub is : r ≡ cond (ltb room (4 * n)) (Err ShortResult) (Ok (4 * n))
