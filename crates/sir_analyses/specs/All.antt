-- A question put for all ids in one call (an addition to document 01's questions): the answers in turn, each after its length in words.
-- A length fits a word of 32 bits: the longest answer about one id is a local's uses, at most 3 (2^30 + 2^20 + 2^8) words.
use Rattle.std.specs.Prelude.{ℕ, List, ◌∷◌, length}
use Rattle.plank_core.specs.Lists.{bind, upto}

-- the answers of all ids below a count
abbrev pub all : (List ℕ → ℕ) → (List ℕ → ℕ → List ℕ) → List ℕ → List ℕ
all count answer w = bind (upto (count w)) (λ i. length (answer w i) ∷ answer w i)
