-- `edges_ok` meets its contract.
use native.Mathlib.Omega.{arith}
use borrow.Author.Tests.{tests}
use Rattle.std.proofs.Common.{rules, ℕ, Bool, ◌∙◌, eqb, length, get_or}
use Rattle.plank_core.specs.laws.Ranges.{all_range, all_at}
use Rattle.sir_data.specs.Records.{inputs, outputs, successors}
use Rattle.sir_data.proofs.block_rules.edges_ok.Goals as goal

pub returns : goal.returns
returns c =
    let w = c.args.ranged.records.words.now in
    let b = c.args.b.0 in
    let same : ℕ → Bool = λ s. eqb (length (outputs w b)) (length (inputs w s)) in
    all_range (λ i. same (get_or (successors w b) i 0)) 0 c.successor_count.result (length (successors w b)) (omega (arith, c.successor_count.ensures)) c.all.result c.all.ensures.ran (λ x t q k. search (rules, tests))
    ∙ all_at same (successors w b)
