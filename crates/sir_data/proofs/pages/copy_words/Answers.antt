-- `copy_words` meets its contract. The loop's invariant: i words are stored, and the rest is as it was.
use Rattle.std.proofs.Common.{◌≡◌, ◌/◌, length, arith, length-set}
use Rattle.plank_core.specs.laws.Loops.{fill_step}
use Rattle.sir_data.specs.Pages.{word_at}
use Rattle.sir_data.specs.Paging.{words_of}
use Rattle.sir_data.proofs.pages.copy_words.Goals as goal

pub loop-i-preserved : goal.loop-i-preserved
loop-i-preserved c =
    let at_loop = c.loop-i in
    let f = word_at c.args.bytes.now in
    (omega arith, simp length-set (omega arith), rw (at_loop.invariant.2, c.word_at.ensures) (fill_step f at_loop.i c.args.words.now (omega arith)))

pub returns : goal.returns
unfolding words_of
returns c =
    let l = c.loop-i in
    let e : l.i ≡ length c.args.bytes.now / 4 = omega arith in rw e at l.invariant.2
