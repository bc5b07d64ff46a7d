-- How long texts with numbers are: a number below 2 ^ 32 has at most ten digits.
use mathlib.Core.Bool.{Bool, true, false, cond}
use mathlib.Core.List.{List, [], ◌∷◌}
use Prim.Native.Nat.{ℕ, suc, ◌+◌, ◌-◌, ◌*◌, ◌≤◌, ◌<◌}
use native.Mathlib.Omega.{arith}
use lib.ListN.{length, get_or, length-append}
use lib.Dec.{eqb}
use Rattle.plank_core.specs.Lists.{bind}
use Rattle.plank_core.specs.Text.{number}
use Rattle.plank_core.specs.laws.Text.{number_short}
use Rattle.report_lines.specs.Lines.{named, start_text, end_text, interval, locals_text, blocks_text, members_text}

-- a start and an end have at most ten bytes
pub start_short : (s : ℕ) → s < 4294967296 → length (start_text s) ≤ 10
start_short s h = go (eqb s 0)
  where
    go : (t : Bool) → length (cond t (115 ∷ 116 ∷ 97 ∷ 114 ∷ 116 ∷ []) (number (s - 1))) ≤ 10
    go true = omega arith
    go false = number_short (s - 1) (omega arith)

pub end_short : (e : ℕ) → e < 4294967296 → length (end_text e) ≤ 10
end_short e h = go (eqb e 4294967295)
  where
    go : (t : Bool) → length (cond t (101 ∷ 110 ∷ 100 ∷ []) (number (e - 1))) ≤ 10
    go true = omega arith
    go false = number_short (e - 1) (omega arith)

pub interval_short : (b s e : ℕ) → b < 4294967296 → s < 4294967296 → e < 4294967296 → length (interval b s e) ≤ 36
interval_short b s e p q r = simp length-append (omega (arith, number_short b p, start_short s q, end_short e r))

-- ids, each with a name of two bytes
ids_short : (a b : ℕ) (ids : List ℕ) → ((k : ℕ) → get_or ids k 0 < 4294967296) → length (bind ids (named (a ∷ b ∷ []))) ≤ 13 * length ids
ids_short a b [] h = omega arith
ids_short a b (x ∷ ids) h =
    omega (arith, ids_short a b ids (λ k. h (suc k)), number_short x (h 0), length-append (number x) (bind ids (named (a ∷ b ∷ []))))

pub blocks_short : (ids : List ℕ) → ((k : ℕ) → get_or ids k 0 < 4294967296) → length (blocks_text ids) ≤ 13 * length ids
blocks_short ids h = ids_short 32 98 ids h

pub members_short : (ids : List ℕ) → ((k : ℕ) → get_or ids k 0 < 4294967296) → length (members_text ids) ≤ 13 * length ids + 2
members_short ids h = go (eqb (length ids) 0)
  where
    go : (t : Bool) → length (cond t (32 ∷ 45 ∷ []) (locals_text ids)) ≤ 13 * length ids + 2
    go true = omega arith
    go false = omega (arith, ids_short 32 118 ids h)
