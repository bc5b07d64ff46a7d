-- `page_check` meets its contract. The loop keeps the sum of the words so far and the sum of those sums, both wrapped.
use Rattle.std.proofs.Common.{◌≡◌, ◌%◌, ◌^◌, ◌≤◌}
use Rattle.sir_data.specs.Pages.{page_word}
use Rattle.sir_data.proofs.pages.PageCheck.{total, running}
use Rattle.sir_data.proofs.pages.page_check.Given as goal

abbrev pub invariant-loop-i : goal.invariant-loop-i
invariant-loop-i l = (l.i ≤ 127) × (l.a ≡ total (page_word l.image l.page) l.i % 2 ^ 32) × (l.b ≡ running (page_word l.image l.page) l.i % 2 ^ 32)
