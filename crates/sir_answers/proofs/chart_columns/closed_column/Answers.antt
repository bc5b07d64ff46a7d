-- `closed_column` meets its contract.
use mathlib.Core.Path.{refl, sym, ap, ◌∙◌}
use native.Mathlib.Omega.{arith}
use lib.ListN.{length}
use borrow.Author.Tests.{lt-ltb, le-ltb}
use Rattle.sir_analyses.specs.inner.Stages.{sites_in}
use Rattle.sir_answers.proofs.chart_columns.ColumnLaws.{sites_few}
use Rattle.sir_answers.proofs.chart_columns.closed_column.Goals as goal

pub returns-then-alloc_sites-a : goal.returns-then-alloc_sites-a
returns-then-alloc_sites-a c =
    rw (le-ltb c.args.a (length (sites_in c.args.pointers.now)) (omega (arith, c.if-alloc_sites-a.true, ap length c.alloc_sites.ensures))) refl

pub overflow_cast-a : goal.overflow_cast-a
overflow_cast-a c =
    omega (arith, c.if-alloc_sites-a.false, ap length c.alloc_sites.ensures, sites_few c.requires.1)

pub is_marked-requires : goal.is_marked-requires
is_marked-requires c =
    omega (arith, c.if-alloc_sites-a.false, ap length c.alloc_sites.ensures, sites_few c.requires.1)

pub returns-then-is_marked : goal.returns-then-is_marked
returns-then-is_marked c =
    let known = lt-ltb c.args.a (length (sites_in c.args.pointers.now)) (omega (arith, c.if-alloc_sites-a.false, ap length c.alloc_sites.ensures)) in
    rw (known, sym c.is_marked.ensures ∙ c.if-is_marked.true) refl

pub returns : goal.returns
returns c =
    let known = lt-ltb c.args.a (length (sites_in c.args.pointers.now)) (omega (arith, c.if-alloc_sites-a.false, ap length c.alloc_sites.ensures)) in
    rw (known, sym c.is_marked.ensures ∙ c.if-is_marked.false) refl
