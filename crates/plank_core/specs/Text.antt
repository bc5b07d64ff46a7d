-- Texts as bytes: characters and decimal numbers.
use Rattle.std.specs.Prelude.{cond, List, [], ◌∷◌, ◌++◌, ℕ, zero, suc, ◌+◌, ◌/◌, ◌%◌, ltb}
use Prim.Native.Char.{code}
use Prim.Native.String.{String, [] as []ᵀ, ◌∷◌ as ◌∷ᵀ◌}

-- the bytes of a text, one for each character; for ASCII texts only
abbrev pub ascii : String → List ℕ
ascii []ᵀ = []
ascii (c ∷ᵀ s) = code c ∷ ascii s

-- decimal digits; one more step than the number suffices
abbrev pub digits : ℕ → ℕ → List ℕ
digits zero n = []
digits (suc k) n = cond (ltb n 10) ((48 + n) ∷ []) (digits k (n / 10) ++ ((48 + n % 10) ∷ []))

-- a number
unfoldable pub number : ℕ → List ℕ
number n = digits (suc n) n
