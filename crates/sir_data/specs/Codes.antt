-- The tables by operation code (document 01, "The image" and "Rules of the analyses", and request R-2): calls, allocations, operand
-- counts, deriving codes, escaping inputs.
use Rattle.std.specs.Prelude.{ℕ, ◌+◌, ◌-◌, Bool, true, cond, not, ◌&&◌, ◌||◌, [], ◌∷◌, ◌==◌, nat_le}
use Rattle.plank_core.specs.Lists.{mem}

-- is c one of the codes lo to hi, both counted?
abbrev pub between : ℕ → ℕ → ℕ → Bool
between lo hi c = nat_le lo c && nat_le c hi

-- a call: `InternalCall` 25, `InternalCallNever` 26
abbrev pub is_call : ℕ → Bool
is_call c = c == 25 || c == 26

-- a static allocation: `StaticAllocZeroed` 82, `StaticAllocAnyBytes` 83
abbrev pub is_static_alloc : ℕ → Bool
is_static_alloc c = c == 82 || c == 83

-- a dynamic allocation: `DynamicAllocZeroed` 21, `DynamicAllocAnyBytes` 22
abbrev pub is_dynamic_alloc : ℕ → Bool
is_dynamic_alloc c = c == 21 || c == 22

-- an allocation operation, static or dynamic
abbrev pub is_alloc : ℕ → Bool
is_alloc c = is_static_alloc c || is_dynamic_alloc c

-- the codes that take nothing and give one local (0→1)
abbrev pub none_to_one : ℕ → Bool
none_to_one c = between 53 70 c || between 81 83 c || between 86 88 c || between 90 92 c

-- the operand counts of a code, inputs and outputs, where they are fixed: 71 to 75 are Log0 to Log4, and the last line is for
-- 25, 26 and numbers that are no code
abbrev pub arity : ℕ → ℕ × ℕ
arity c =
    cond (c == 0 || between 27 33 c || between 36 42 c || between 44 46 c || between 48 51 c) (2, 1)
    (cond (mem c (1 ∷ 2 ∷ 5 ∷ 13 ∷ 21 ∷ 22 ∷ 43 ∷ 47 ∷ 52 ∷ 84 ∷ 85 ∷ []) || between 8 11 c) (1, 1)
    (cond (mem c (15 ∷ 34 ∷ 35 ∷ [])) (3, 1)
    (cond (c == 16) (4, 1)
    (cond (mem c (17 ∷ 18 ∷ [])) (7, 1)
    (cond (mem c (19 ∷ 20 ∷ [])) (6, 1)
    (cond (mem c (3 ∷ 4 ∷ 7 ∷ 23 ∷ [])) (3, 0)
    (cond (c == 6) (4, 0)
    (cond (mem c (12 ∷ 14 ∷ 24 ∷ 76 ∷ 78 ∷ [])) (2, 0)
    (cond (between 71 75 c) (2 + (c - 71), 0)
    (cond (c == 80) (1, 0)
    (cond (mem c (77 ∷ 79 ∷ 89 ∷ [])) (0, 0)
    (cond (none_to_one c) (0, 1)
    (0, 0)))))))))))))

-- are these operand counts right for the code? any→any for 25, any→0 for 26
abbrev pub arity_ok : ℕ → ℕ → ℕ → Bool
arity_ok c i o =
    cond (c == 25) true
    (cond (c == 26) (o == 0)
    (i == (arity c).0 && o == (arity c).1))

-- the deriving codes: 27 to 37, 44 to 51, `SetCopy` 85
abbrev pub derives : ℕ → Bool
derives c = between 27 37 c || between 44 51 c || c == 85

-- is the input at position k, from 0, an escaping operand of the code? The list is document 01's, and request R-2 added the clause of 72 to
-- 75, `Log1` to `Log4`: their topics, from position 2 up, which are all inputs but offset and size. The last line has the codes with all inputs
-- escaping
abbrev pub escaping : ℕ → ℕ → Bool
escaping c k =
    cond (c == 0 || c == 24) (k == 1)
    (cond (mem c (3 ∷ 4 ∷ 7 ∷ [])) (mem k (1 ∷ 2 ∷ []))
    (cond (c == 6) (mem k (0 ∷ 2 ∷ 3 ∷ []))
    (cond (c == 15) (mem k (0 ∷ 2 ∷ []))
    (cond (c == 16) (mem k (0 ∷ 2 ∷ 3 ∷ []))
    (cond (mem c (17 ∷ 18 ∷ [])) (mem k (0 ∷ 1 ∷ 2 ∷ 4 ∷ 6 ∷ []))
    (cond (mem c (19 ∷ 20 ∷ [])) (mem k (0 ∷ 1 ∷ 3 ∷ 5 ∷ []))
    (cond (c == 23) (k == 2)
    (cond (between 72 75 c) (not (mem k (0 ∷ 1 ∷ [])))
    (mem c (1 ∷ 2 ∷ 5 ∷ 21 ∷ 22 ∷ 25 ∷ 26 ∷ []) || between 8 14 c)))))))))
