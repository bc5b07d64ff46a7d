-- The text by the bytes of an answer is the text by its intervals.
use mathlib.Core.Path.{◌≡◌, refl, sym, ap, ◌∙◌, subst}
use mathlib.Core.Bool.{Bool, true, false, cond}
use mathlib.Core.List.{List, [], ◌∷◌, ◌++◌, append_assoc}
use Prim.Native.Nat.{ℕ, zero, suc, ◌+◌, ◌-◌, ◌*◌, ◌/◌, ◌<◌}
use native.Mathlib.Omega.{arith}
use lib.ListN.{length, get_or, length-append}
use lib.Seq.{get_or-append-add}
use borrow.Author.Tests.{ne_eqb}
use Rattle.plank_core.specs.Lists.{bind, count, one_if}
use Rattle.sir_data.specs.Pages.{word_at, bytes_of}
use Rattle.sir_data.specs.laws.Bytes.{word_bytes}
use Rattle.sir_data.specs.inner.WellFormed.{WellFormed}
use Rattle.sir_analyses.specs.Liveness.{Interval, intervals}
use Rattle.sir_analyses.specs.Allocation.{allocs, alloc_at, base, marked, merged}
use Rattle.sir_analyses.specs.Flags.{flags_word}
use Rattle.sir_analyses.specs.Answers.{interval_words, intervals_answer, allocation_answer}
use Rattle.sir_analyses.specs.Kinds.{kind_of, kind_words}
use Rattle.sir_analyses.specs.declared.allocation_words.AllocKind.{AllocKind}
use Rattle.sir_analyses.specs.laws.Writing.{length_bytes, interval_count}
use Rattle.plank_core.specs.Text.{ascii}
use Rattle.report_lines.specs.Lines.{named, interval_text, interval, local_text, allocation_text}
use Rattle.report_lines.specs.inner.AnswerLines.{interval_at, intervals_at, EndsSome, local_line, mark, allocation_head, allocation_line}
use Rattle.report_lines.proofs.Fields.{Good, Goods, intervals_good, merged_good, alloc_within, base_small}

-- word j after some front
word_after : {xs : List ℕ} (front ys : List ℕ) (j : ℕ) → xs ≡ front ++ ys → j < length ys → get_or ys j 0 < 4294967296 → word_at (bind xs bytes_of) (length front + j) ≡ get_or ys j 0
word_after {xs} front ys j e h l =
    let g : get_or xs (length front + j) 0 ≡ get_or ys j 0 = ap (λ (l : List ℕ). get_or l (length front + j) 0) e ∙ get_or-append-add front ys j 0 in
    word_bytes xs (length front + j) (omega (arith, ap length e, length-append front ys)) (omega (arith, g)) ∙ g

-- the three words of an interval
abbrev three : Interval → List ℕ
three i = i.block ∷ i.from ∷ i.to ∷ []

module _ {xs : List ℕ} (front : List ℕ) (i : Interval) (is : List Interval) (e : xs ≡ front ++ interval_words (i ∷ is)) (g : Good i) where
  end_at : word_at (bind xs bytes_of) (length front + 2) ≡ i.to
  end_at = word_after front (interval_words (i ∷ is)) 2 e (omega arith) g.end_small

  text_at : interval_at (bind xs bytes_of) (length front) ≡ interval_text i
  unfolding interval_at
  text_at =
      let z : length front + 0 ≡ length front = omega arith in
      let a : word_at (bind xs bytes_of) (length front) ≡ i.block =
      ap (word_at (bind xs bytes_of)) (sym z) ∙ word_after front (interval_words (i ∷ is)) 0 e (omega arith) g.block_small in
      let b : word_at (bind xs bytes_of) (length front + 1) ≡ i.from = word_after front (interval_words (i ∷ is)) 1 e (omega arith) g.start_small in
      ap (λ (n : ℕ). interval n (word_at (bind xs bytes_of) (length front + 1)) (word_at (bind xs bytes_of) (length front + 2))) a
      ∙ ap (λ (n : ℕ). interval i.block n (word_at (bind xs bytes_of) (length front + 2))) b
      ∙ ap (λ (n : ℕ). interval i.block i.from n) end_at

  next_is : xs ≡ (front ++ three i) ++ interval_words is
  next_is = e ∙ sym (append_assoc front (three i) (interval_words is))

texts_from : (first : ℕ) {xs : List ℕ} (is : List Interval) (s : ℕ) (front : List ℕ) → xs ≡ front ++ interval_words is → length front ≡ first + 3 * s → Goods is
    → bind (count s (length is)) (λ k. interval_at (bind xs bytes_of) (first + 3 * k)) ≡ bind is interval_text
texts_from first [] s front e l g = refl
texts_from first {xs} (i ∷ is) s front e l g =
    let a : interval_at (bind xs bytes_of) (first + 3 * s) ≡ interval_text i = ap (interval_at (bind xs bytes_of)) (sym l) ∙ text_at front i is e g.0 in
    let r = texts_from first is (suc s) (front ++ three i) (next_is front i is e g.0) (omega (arith, length-append front (three i))) g.1 in
    ap (λ (t : List ℕ). t ++ bind (count (suc s) (length is)) (λ k. interval_at (bind xs bytes_of) (first + 3 * k))) a ∙ ap (λ (t : List ℕ). interval_text i ++ t) r

ends_from : {xs : List ℕ} (is : List Interval) (k : ℕ) (front : List ℕ) → xs ≡ front ++ interval_words is → Goods is → k < length is → 0 < word_at (bind xs bytes_of) (length front + 3 * k + 2)
ends_from [] k front e g l = absurd (omega arith)
ends_from {xs} (i ∷ is) zero front e g l =
    let z : length front + 3 * 0 + 2 ≡ length front + 2 = omega arith in
    rw z (omega (arith, end_at front i is e g.0, g.0.end_some))
ends_from {xs} (i ∷ is) (suc k) front e g l =
    let z : length (front ++ three i) + 3 * k + 2 ≡ length front + 3 * suc k + 2 = omega (arith, length-append front (three i)) in
    rw (sym z) (ends_from is k (front ++ three i) (next_is front i is e g.0) g.1 (omega arith))

-- a kind is three words
three_words : (k : AllocKind) → kind_words k ≡ get_or (kind_words k) 0 0 ∷ get_or (kind_words k) 1 0 ∷ get_or (kind_words k) 2 0 ∷ []
three_words (AllocKind.Static size id) = refl
three_words (AllocKind.Dynamic local) = refl

module _ (w : List ℕ) (good : WellFormed w) where
  -- ---- the line of a local

  local_count : (v : ℕ) → length (bind (intervals_answer w v) bytes_of) / 12 ≡ length (intervals w v)
  local_count v = omega (arith, length_bytes (intervals_answer w v), interval_count (intervals w v))

  pub local_ends : (v : ℕ) → EndsSome (bind (intervals_answer w v) bytes_of) 0 (length (bind (intervals_answer w v) bytes_of) / 12)
  local_ends v k l = ends_from (intervals w v) k [] refl (intervals_good w good v) (omega (arith, local_count v))

  pub local_as : (v : ℕ) → ¬ (length (intervals_answer w v) ≡ 0) → local_line v (bind (intervals_answer w v) bytes_of) ≡ local_text w v
  unfolding local_text
  local_as v n =
      let m : ¬ (length (intervals w v) ≡ 0) = λ e. n (omega (arith, interval_count (intervals w v))) in
      ap (λ (n : ℕ). named (ascii "v") v ++ intervals_at (bind (intervals_answer w v) bytes_of) 0 n ++ ascii "\n") (local_count v)
      ∙ ap (λ (t : List ℕ). named (ascii "v") v ++ t ++ ascii "\n") (texts_from 0 (intervals w v) 0 [] refl (omega arith) (intervals_good w good v))
      ∙ rw (ne_eqb (length (intervals w v)) 0 m) refl

  -- ---- the line of an allocation

  module _ (a : ℕ) (l : a < length (allocs w)) where
    abbrev kind : List ℕ
    kind = kind_words (kind_of w (alloc_at w a).op)

    abbrev front : List ℕ
    front =
        (alloc_at w a).block ∷ (alloc_at w a).op ∷ base w (alloc_at w a) ∷ get_or kind 0 0 ∷ get_or kind 1 0 ∷ get_or kind 2 0
        ∷ one_if (marked w a) ∷ flags_word w a ∷ length (merged w a) ∷ []

    -- the answer, with the words of its kind one by one
    abbrev answer : List ℕ
    answer = front ++ interval_words (merged w a)

    spelled : answer ≡ allocation_answer w a
    spelled =
        ap (λ (ks : List ℕ). (alloc_at w a).block ∷ (alloc_at w a).op ∷ base w (alloc_at w a) ∷ (ks ++ (one_if (marked w a) ∷ flags_word w a ∷ length (merged w a) ∷ interval_words (merged w a))))
        (sym (three_words (kind_of w (alloc_at w a).op)))

    allocation_count : (length (bind answer bytes_of) - 36) / 12 ≡ length (merged w a)
    allocation_count = omega (arith, length_bytes answer, interval_count (merged w a))

    answer_ends : EndsSome (bind answer bytes_of) 9 ((length (bind answer bytes_of) - 36) / 12)
    answer_ends k h = ends_from (merged w a) k front refl (merged_good w good a) (omega (arith, allocation_count))

    mark_as : (t : Bool) → mark (one_if t) ≡ cond t (ascii " escaped") (ascii " kept")
    mark_as true = refl
    mark_as false = refl

    one_small : (t : Bool) → one_if t < 4294967296
    one_small true = omega arith
    one_small false = omega arith

    answer_as : allocation_line a (bind answer bytes_of) ≡ allocation_text w a
    unfolding allocation_text allocation_head
    answer_as =
        let x = alloc_within w good a l in
        let b : word_at (bind answer bytes_of) 0 ≡ (alloc_at w a).block = word_bytes answer 0 (omega arith) (omega (arith, x.0, good.sized.blocks_most)) in
        let o : word_at (bind answer bytes_of) 1 ≡ (alloc_at w a).op = word_bytes answer 1 (omega arith) (omega (arith, x.1, good.sized.operations_most)) in
        let v : word_at (bind answer bytes_of) 2 ≡ base w (alloc_at w a) = word_bytes answer 2 (omega arith) (base_small w good (alloc_at w a) x.1) in
        let m : word_at (bind answer bytes_of) 6 ≡ one_if (marked w a) = word_bytes answer 6 (omega arith) (one_small (marked w a)) in
        let h : allocation_head a (bind answer bytes_of) ≡
        named (ascii "a") a ++ named (ascii " b") (alloc_at w a).block ++ named (ascii " op") (alloc_at w a).op ++ named (ascii " v") (base w (alloc_at w a))
        ++ cond (marked w a) (ascii " escaped") (ascii " kept") = rw (b, o, v, m) (rw (mark_as (marked w a)) refl) in
        ap (λ (n : ℕ). allocation_head a (bind answer bytes_of) ++ intervals_at (bind answer bytes_of) 9 n ++ ascii "\n") allocation_count
        ∙ ap (λ (t : List ℕ). allocation_head a (bind answer bytes_of) ++ t ++ ascii "\n") (texts_from 9 (merged w a) 0 front refl (omega arith) (merged_good w good a))
        ∙ ap (λ (t : List ℕ). t ++ bind (merged w a) interval_text ++ ascii "\n") h

    pub allocation_ends : EndsSome (bind (allocation_answer w a) bytes_of) 9 ((length (bind (allocation_answer w a) bytes_of) - 36) / 12)
    allocation_ends = subst (λ (xs : List ℕ). EndsSome (bind xs bytes_of) 9 ((length (bind xs bytes_of) - 36) / 12)) spelled answer_ends

    pub allocation_as : allocation_line a (bind (allocation_answer w a) bytes_of) ≡ allocation_text w a
    allocation_as = ap (λ (xs : List ℕ). allocation_line a (bind xs bytes_of)) (sym spelled) ∙ answer_as

-- what is lent is the answer
pub local_ends_as : {xs ys : List ℕ} → xs ≡ ys → EndsSome ys 0 (length ys / 12) → EndsSome xs 0 (length xs / 12)
local_ends_as e k = rw (sym e) at k

pub allocation_ends_as : {xs ys : List ℕ} → xs ≡ ys → EndsSome ys 9 ((length ys - 36) / 12) → EndsSome xs 9 ((length xs - 36) / 12)
allocation_ends_as e k = rw (sym e) at k
