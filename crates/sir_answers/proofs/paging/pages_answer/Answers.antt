-- `pages_answer` meets its contract.
use Rattle.std.proofs.Common.{◌≡◌, ℕ, ◌*◌, ◌/◌, length, Ok, refl, subst, arith, rules}
use Rattle.sir_data.specs.Paging.{page_words, pages_of}
use Rattle.sir_data.specs.laws.Paging.{page_words_length}
use Rattle.sir_analyses.specs.inner.Outcomes.{Finished}
use Rattle.sir_analyses.proofs.answers.Calls.{answered_short, answered_whole}
use Rattle.sir_answers.proofs.paging.WrittenPages.{pages_put}
use Rattle.sir_answers.proofs.paging.pages_answer.Goals as goal

pub returns-in_err-end : goal.returns-in_err-end
unfolding pages_of
returns-in_err-end c =
    let w = c.args.words.now in
    answered_short (page_words w) c.args.out.now c.in_err-end.ensures (omega (arith, page_words_length w, c.requires.0)) (search rules)

pub returns : goal.returns
unfolding pages_of
returns c =
    let w = c.args.words.now in
    let out = c.args.out.now in
    let n : 128 * (length w / 126) ≡ length (page_words w) = omega (arith, page_words_length w, c.requires.0) in
    let f = subst (λ (k : ℕ). Finished k (length out) (Ok c.in_ok-end.end)) n c.in_ok-end.ensures in
    answered_whole (page_words w) out f (pages_put w out f c.write_pages.ensures) refl
