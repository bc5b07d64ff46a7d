-- `try_write` meets its contract.
use Rattle.std.proofs.Common.{ℕ, [], ◌∷◌, take, refl, ap, ◌∙◌, rules}
use Rattle.sir_data.specs.Paging.{pages_of}
use Rattle.sir_analyses.specs.Allocation.{rule12}
use Rattle.sir_analyses.specs.Calls.{call}
use Rattle.sir_answers.proofs.write_back.LentPages.{lent_refused, front_formed, lent_written}
use Rattle.sir_answers.proofs.write_back.try_write.Goals as goal

pub returns-in_err-n : goal.returns-in_err-n
returns-in_err-n c = lent_refused c.in_err-n.ensures.lent (search rules) c.args.out.now

pub invariant_of-write_words : goal.invariant_of-write_words
invariant_of-write_words c =
    let k = c.in_ok-n.ensures in
    record { well_formed = rw k.count (front_formed k.lent refl) }

pub returns : goal.returns
returns c =
    let k = c.in_ok-n.ensures in
    let new = c.read_records.new.words in
    let out = c.args.out.now in
    c.write_words.ensures ∙ ap (λ (n : ℕ). call ((12, rule12 (take n new)) ∷ []) (pages_of (take n new)) out) k.count ∙ lent_written k.lent refl out
