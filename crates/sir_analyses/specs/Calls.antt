-- The one shape of every call (document 01, "Refusals, by who causes them"): numbered rules in sequence, those of the image or of
-- lent records first and then the question's own, then the bytes of the answer. Every exported promise is an instance.
use Rattle.std.specs.Prelude.{Bool, not, cond, ℕ, List, [], ◌∷◌, ◌++◌, length, drop, eqb, ltb}
use Rattle.plank_core.specs.Lists.{bind}
use Rattle.sir_data.specs.Pages.{payload, bytes_of}
use Rattle.sir_data.specs.Rules.{rule6, first, page_rules, rules_of}
use Rattle.sir_analyses.specs.Allocation.{rule12}

-- rules in sequence: the number of each, and whether it applies
abbrev pub Rules : Type 0
Rules = List (ℕ × Bool)

-- ---- calls

-- the outcome of a call: number, answer length in bytes, and the result slice as it is left
pub record Outcome : Type 0 where
  pub number : ℕ
  pub len : ℕ
  pub result : List ℕ

-- what a call gave and left
abbrev pub made : ℕ → ℕ → List ℕ → Outcome
made n l out = record { number = n; len = l; result = out }

-- a refusal gives its number and answer length 0, and the result slice keeps its bytes
abbrev pub refused : ℕ → List ℕ → Outcome
refused n out = made n 0 out

-- success is number 0, and bytes past the answer stay; 14: result slice shorter than the answer
abbrev pub answered : List ℕ → List ℕ → Outcome
answered bytes out =
    cond (ltb (length out) (length bytes)) (refused 14 out)
    (made 0 (length bytes) (bytes ++ drop (length bytes) out))

-- a call: the first of its rules that applies refuses it, or its bytes are answered
abbrev pub call : Rules → List ℕ → List ℕ → Outcome
call rules bytes out = cond (eqb (first rules) 0) (answered bytes out) (refused (first rules) out)

-- ---- questions

-- the rules of words from 4 on: the front end that wrote them, and 12. `unfit` tells whether 6 applies
abbrev pub word_rules : Bool → List ℕ → Rules
word_rules unfit w = rules_of unfit w ++ ((12, rule12 w) ∷ [])

-- the rules of an image: carriage, then those of the words that are read from its pages
abbrev pub image_rules : List ℕ → Rules
image_rules s = page_rules s ++ word_rules (rule6 (payload s)) (payload s)

-- the refusal of an image: the first of its rules that applies, or 0
abbrev pub refusal : List ℕ → ℕ
refusal s = first (image_rules s)

-- a question put to an image: its own rules and the bytes of its answer go by the payload words
abbrev pub asked : (List ℕ → Rules) → (List ℕ → List ℕ) → List ℕ → List ℕ → Outcome
asked own bytes s out = call (image_rules s ++ own (payload s)) (bytes (payload s)) out

-- no rules of its own: a question without an id
abbrev pub no_rules : List ℕ → Rules
no_rules w = []

-- 13: id asked for not below its count
abbrev pub known : (List ℕ → ℕ) → ℕ → List ℕ → Rules
known count id w = (13, not (ltb id (count w))) ∷ []

-- an answer in words, as little-endian bytes
abbrev pub in_words : (List ℕ → List ℕ) → List ℕ → List ℕ
in_words words w = bind (words w) bytes_of
