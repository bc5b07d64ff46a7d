-- `AllocationLine` shows its text.
use Rattle.std.proofs.Common.{rules, append_assoc, ◌≡◌, ◌++◌, ℕ, List, ◌-◌, ◌/◌, ◌<◌, ◌^◌, length}
use Rattle.std.proofs.lemmas.Grind.{put_four}
use Rattle.plank_core.specs.Text.{ascii}
use Rattle.sir_data.specs.Pages.{word_at}
use Rattle.report_lines.specs.Lines.{named}
use Rattle.report_lines.specs.inner.AnswerLines.{allocation_head, allocation_line, intervals_at, mark}
use Rattle.report_lines.proofs.Decimals.{decimal_is}
use Rattle.report_lines.proofs.lines.AllocationLineDisplay.fmt.Goals as goal

regroup : (a b o v m i e : List ℕ) → (a ++ b) ++ ((o ++ (v ++ m)) ++ (i ++ e)) ≡ a ++ b ++ o ++ v ++ m ++ i ++ e
regroup a b o v m i e = simp append_assoc

-- the four texts, one after the other
joined : (a : ℕ) (answer : List ℕ) →
    (named (ascii "a") a ++ named (ascii " b") (word_at answer 0))
    ++ ((named (ascii " op") (word_at answer 1) ++ (named (ascii " v") (word_at answer 2) ++ mark (word_at answer 6)))
    ++ (intervals_at answer 9 ((length answer - 36) / 12) ++ ascii "\n"))
    ≡ allocation_line a answer
unfolding allocation_head
joined a answer =
    regroup (named (ascii "a") a) (named (ascii " b") (word_at answer 0)) (named (ascii " op") (word_at answer 1)) (named (ascii " v") (word_at answer 2))
    (mark (word_at answer 6)) (intervals_at answer 9 ((length answer - 36) / 12)) (ascii "\n")

pub returns-clause-writes : goal.returns-clause-writes
returns-clause-writes g c = λ plain ok.
    let x = c.args.self.now in
    let a : x.allocation.0 < 2 ^ 32 = search rules in
    let b : c.word_at-block.result < 2 ^ 32 = search rules in
    let o : c.word_at-operation.result < 2 ^ 32 = search rules in
    let v : c.word_at-base.result < 2 ^ 32 = search rules in
    let name = rw (decimal_is x.allocation.0 a, decimal_is c.word_at-block.result b, c.word_at-block.ensures) at (c.in_ok-write.ensures.writes plain (search rules)) in
    let head = rw (decimal_is c.word_at-operation.result o, decimal_is c.word_at-base.result v, c.word_at-operation.ensures, c.word_at-base.ensures, c.mark-mark.ensures, c.word_at.ensures) at (c.in_ok-write-2.ensures.writes name.plain (search rules)) in
    let intervals = c.in_ok-write_intervals.ensures head.plain (search rules) in
    let end = c.write-3.ensures.writes intervals.plain ok in
    put_four _ _ _ _ _ _ _ _ _ _ _ name head intervals end (joined x.allocation.0 x.answer.now)
