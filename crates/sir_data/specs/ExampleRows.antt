-- Rows of computed lists, for tables of examples.
use Rattle.std.specs.Prelude.{ℕ, Bool, true, false, ◌&&◌, List, [], ◌∷◌, ◌==◌}

-- a row of a table: what is computed, and what it must be
abbrev pub Row : Type 0
Row = List ℕ × List ℕ

-- are two lists the same?
abbrev pub same : List ℕ → List ℕ → Bool
same [] [] = true
same [] (y ∷ ys) = false
same (x ∷ xs) [] = false
same (x ∷ xs) (y ∷ ys) = x == y && same xs ys
