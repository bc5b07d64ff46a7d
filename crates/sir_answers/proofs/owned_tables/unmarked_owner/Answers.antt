-- `unmarked_owner` meets its contract.
use Rattle.std.proofs.Common.{◌≡◌, ◌-◌, None, get_or, sym, ◌∙◌, arith, rules}
use Rattle.sir_analyses.specs.inner.Stages.{owners_in}
use Rattle.sir_answers.proofs.owned_tables.OwnedTables.{named, unowned, owned_marked, owned_unmarked}
use Rattle.sir_answers.proofs.owned_tables.unmarked_owner.Goals as goal

pub returns-in_err-a : goal.returns-in_err-a
returns-in_err-a c =
    let a = c.args in
    let none : c.from_residual.result ≡ None = search rules in
    rw none (sym (unowned a.pointers.now a.v.0 (named c.in_err-a.ensures)), omega arith)

pub returns-then-is_marked : goal.returns-then-is_marked
returns-then-is_marked c =
    let a = c.args in
    let e = named c.in_ok-a.ensures in
    let place : get_or (owners_in a.pointers.now) a.v.0 0 - 1 ≡ c.in_ok-a.a.0 = omega (arith, e) in
    (sym (owned_marked a.pointers.now a.v.0 (λ q. omega (arith, e, q)) (rw place (sym c.is_marked.ensures ∙ c.if-is_marked.true))), omega arith)

pub returns : goal.returns
returns c =
    let a = c.args in
    let e = named c.in_ok-a.ensures in
    let place : get_or (owners_in a.pointers.now) a.v.0 0 - 1 ≡ c.in_ok-a.a.0 = omega (arith, e) in
    let n : ¬ (get_or (owners_in a.pointers.now) a.v.0 0 ≡ 0) = λ q. omega (arith, e, q) in
    let z = owned_unmarked a.pointers.now a.v.0 n (rw place (sym c.is_marked.ensures ∙ c.if-is_marked.false)) in
    (sym (z ∙ e), omega (arith, e, c.requires.1))
