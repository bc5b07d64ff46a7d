-- `copy_words` meets its contract. The loop's invariant: i words are stored, and the rest is as it was.
use Rattle.std.proofs.Common.{◌≡◌, ◌≤◌, ◌++◌, map, length, drop}
use Rattle.plank_core.specs.Lists.{upto}
use Rattle.sir_data.specs.Pages.{word_at}
use Rattle.sir_data.proofs.pages.copy_words.Given as goal

abbrev pub invariant-loop-i : goal.invariant-loop-i
invariant-loop-i l = (l.i ≤ l.i-end) × (length l.words ≡ length l.initial.words) × (l.words ≡ map (word_at l.bytes) (upto l.i) ++ drop l.i l.initial.words)
