-- `all_new` meets its contract. The loop's invariant: the numbers that are left decide, and go into the set.
use Rattle.std.proofs.Common.{◌≡◌, ℕ, ◌+◌, ◌<◌, ◌≤◌, false, List, [], ◌∷◌, ◌++◌, length, get_or, drop, sym, ◌∙◌, zero-add, arith}
use borrow.Author.Tests.{not-true}
use Rattle.plank_core.specs.laws.Lists.{get_or_mem, drop_mem}
use Rattle.plank_core.specs.laws.Loops.{drop_next}
use Rattle.plank_core.specs.inner.DenseIndexSet.{contains, added}
use Rattle.sir_data.proofs.giver_rules.Passing as passing
use Rattle.sir_data.proofs.giver_rules.Passing.{Passing, Locals}
use Rattle.sir_data.proofs.giver_rules.all_new.Goals as goal

pub row_add-requires : goal.row_add-requires
row_add-requires c =
    let l = c.loop-local in
    (omega (arith, l.invariant.1.wide), c.requires.by_index _ (get_or_mem c.args.run.now l.local-index 0 (omega arith)))

-- the run from place i on: the next number, and then those left
module _ {set₀ set run : List ℕ} {i : ℕ} (h : i < length run) (small : Locals run) (p : Passing set₀ run set (drop i run)) where
  abbrev x : ℕ
  x = get_or run i 0

  fit : Locals ((x ∷ []) ++ drop (i + 1) run)
  fit v m = small v (drop_mem v run i (rw (drop_next i run h) m))

  split : Passing set₀ run set ((x ∷ []) ++ drop (i + 1) run)
  split = rw (drop_next i run h) at p

  added_next : {next : List ℕ} → contains set x ≡ false → next ≡ added set x → Passing set₀ run next (drop (i + 1) run)
  added_next e more = passing.step (x ∷ []) (drop (i + 1) run) fit split (rw e) more

pub loop-local-preserved : goal.loop-local-preserved
loop-local-preserved c =
    let l = c.loop-local in
    let less : l.local-index + 1 ≤ length c.args.run.now = omega arith in
    let e = not-true _ (rw zero-add at (sym c.row_add.ensures.0) ∙ c.if-not-row_add.false) in
    (less, added_next (omega (arith, less)) c.requires.by_index l.invariant.1 e (rw zero-add at c.row_add.ensures.1))
