-- Refusals 4 to 11 on payload words w, and which of 1 to 11 is given (document 01, "Refusals, by who causes them"). Each rule
-- tells whether its refusal applies; a name ending in `Ok` tells the opposite.
use Rattle.std.specs.Prelude.{ℕ, ◌+◌, ◌-◌, ◌*◌, Bool, true, cond, not, ◌&&◌, ◌||◌, ltb, List, [], ◌∷◌, ◌++◌, length, drop, ◌==◌, nat_eq, nat_le, nat_lt}
use Rattle.plank_core.specs.Lists.{upto, count, all, any, distinct}
use Rattle.sir_data.specs.Pages.{pages_for, bad_length, bad_number, bad_check}
use Rattle.sir_data.specs.Records.{edition, functions, blocks, operations, operand_words, case_targets, locals, init_function, main_plus_one, word_count, entry_block, block_word, op_word, operand, target, inputs, outputs, control, field, successors, optional, code, ins, outs, extra}
use Rattle.sir_data.specs.Codes.{arity_ok, is_call, is_static_alloc}

-- refusal 4: edition not 1
unfoldable pub rule4 : List ℕ → Bool
rule4 w = not (edition w == 1)

-- refusal 5: a count above its limit, or no function, or no block
unfoldable pub rule5 : List ℕ → Bool
rule5 w =
    nat_lt 64 (functions w) || nat_lt 256 (blocks w) || nat_lt 1024 (operations w) || nat_lt 4096 (operand_words w)
    || nat_lt 512 (case_targets w) || nat_lt 512 (locals w) || functions w == 0 || blocks w == 0

-- refusal 6: page count not the least that holds the words, or padding not zero; w has 126 words for each page
unfoldable pub rule6 : List ℕ → Bool
rule6 w =
    not (length w == 126 * pages_for (word_count w)) || any (λ x. not (x == 0)) (drop (word_count w) w)

-- are the control fields of block b zero from field k on?
abbrev pub zero_from : List ℕ → ℕ → ℕ → Bool
zero_from w b k = all (λ j. nat_eq (field w b j) 0) (count k (4 - k))

-- is the control kind known, and are the fields that it does not use zero? A switch uses all four
abbrev pub block_fields_ok : List ℕ → ℕ → Bool
block_fields_ok w b =
    cond (control w b == 0 || control w b == 1) (zero_from w b 0)
    (cond (control w b == 2) (zero_from w b 1)
    (cond (control w b == 3) (zero_from w b 3)
    (control w b == 4)))

-- is the code known, and are the extras that it does not use zero? A static allocation uses both, a call the first
abbrev pub op_fields_ok : List ℕ → ℕ → Bool
op_fields_ok w o =
    nat_le (code w o) 92
    && (cond (is_static_alloc (code w o)) true (cond (is_call (code w o)) true (extra w o 0 == 0) && extra w o 1 == 0))

-- refusal 7: operation code or control kind unknown, or an unused field not zero
unfoldable pub rule7 : List ℕ → Bool
rule7 w = not (all (block_fields_ok w) (upto (blocks w)) && all (op_fields_ok w) (upto (operations w)))

-- is s to e a range of a list of n: start not above end, end not above n?
abbrev pub range_ok : ℕ → ℕ → ℕ → Bool
range_ok s e n = nat_le s e && nat_le e n

-- is an optional id (id + 1 or 0), if there, below its count n?
abbrev pub optional_below : ℕ → ℕ → Bool
optional_below k n = all (λ i. ltb i n) (optional k)

-- are the ids of the control below their counts, and is a switch's end, first target plus target count not wrapped, in its list?
abbrev pub control_ids_ok : List ℕ → ℕ → Bool
control_ids_ok w b =
    cond (control w b == 2) (nat_lt (field w b 0) (blocks w))
    (cond (control w b == 3) (nat_lt (field w b 0) (locals w) && nat_lt (field w b 1) (blocks w) && nat_lt (field w b 2) (blocks w))
    (cond (control w b == 4)
    (nat_lt (field w b 0) (locals w) && nat_le (field w b 1 + field w b 2) (case_targets w) && optional_below (field w b 3) (blocks w))
    true))

-- are the three ranges of block b in their lists, and its control's ids below their counts?
abbrev pub block_ids_ok : List ℕ → ℕ → Bool
block_ids_ok w b =
    range_ok (block_word w b 0) (block_word w b 1) (operand_words w)
    && range_ok (block_word w b 2) (block_word w b 3) (operand_words w)
    && range_ok (block_word w b 4) (block_word w b 5) (operations w)
    && control_ids_ok w b

-- are the two ranges of operation o in their list, its callee below the function count, its static id not 4294967295?
abbrev pub op_ids_ok : List ℕ → ℕ → Bool
op_ids_ok w o =
    range_ok (op_word w o 1) (op_word w o 2) (operand_words w)
    && range_ok (op_word w o 3) (op_word w o 4) (operand_words w)
    && (not (is_call (code w o)) || nat_lt (extra w o 0) (functions w))
    && (not (is_static_alloc (code w o)) || not (extra w o 1 == 4294967295))

-- refusal 8: a range wrong, an id not below its count, or a static id of 4294967295
unfoldable pub rule8 : List ℕ → Bool
rule8 w =
    not (nat_lt (init_function w) (functions w)
    && optional_below (main_plus_one w) (functions w)
    && all (λ f. ltb (entry_block w f) (blocks w)) (upto (functions w))
    && all (block_ids_ok w) (upto (blocks w))
    && all (op_ids_ok w) (upto (operations w))
    && all (λ i. ltb (operand w i) (locals w)) (upto (operand_words w))
    && all (λ i. ltb (target w i) (blocks w)) (upto (case_targets w)))

-- refusal 9: operand counts wrong for the code
unfoldable pub rule9 : List ℕ → Bool
rule9 w = not (all (λ o. arity_ok (code w o) (length (ins w o)) (length (outs w o))) (upto (operations w)))

-- refusal 10: a block whose output count differs from some successor's input count
unfoldable pub rule10 : List ℕ → Bool
rule10 w = not (all (λ b. all (λ s. nat_eq (length (outputs w b)) (length (inputs w s))) (successors w b)) (upto (blocks w)))

-- refusal 11: one local twice among a block's inputs
unfoldable pub rule11 : List ℕ → Bool
rule11 w = not (all (λ b. distinct (inputs w b)) (upto (blocks w)))

-- a sequence of rules, each the number of a refusal and whether it applies: the number of the first that applies, or 0
abbrev pub first : List (ℕ × Bool) → ℕ
first [] = 0
first (r ∷ rs) = cond r.1 r.0 (first rs)

-- refusals 1 to 3 in their sequence: carriage
abbrev pub page_rules : List ℕ → List (ℕ × Bool)
page_rules s = (1, bad_length s) ∷ (2, bad_number s) ∷ (3, bad_check s) ∷ []

-- refusals 4 and 5: the head
abbrev pub head_rules : List ℕ → List (ℕ × Bool)
head_rules w = (4, rule4 w) ∷ (5, rule5 w) ∷ []

-- refusals 7 and 8: kinds, codes, fields, ranges and ids
abbrev pub field_rules : List ℕ → List (ℕ × Bool)
field_rules w = (7, rule7 w) ∷ (8, rule8 w) ∷ []

-- refusals 9 to 11: operands and what edges pass
abbrev pub operand_rules : List ℕ → List (ℕ × Bool)
operand_rules w = (9, rule9 w) ∷ (10, rule10 w) ∷ (11, rule11 w) ∷ []

-- refusals 4 to 11 in their sequence: the front end that wrote the image. `unfit` tells whether 6 applies
abbrev pub rules_of : Bool → List ℕ → List (ℕ × Bool)
rules_of unfit w = head_rules w ++ ((6, unfit) ∷ []) ++ field_rules w ++ operand_rules w

-- those of words that are read from pages
abbrev pub record_rules : List ℕ → List (ℕ × Bool)
record_rules w = rules_of (rule6 w) w
