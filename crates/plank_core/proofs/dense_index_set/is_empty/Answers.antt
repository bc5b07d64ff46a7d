-- `is_empty` meets its contract.
use mathlib.Core.Path.{◌≡◌, refl}
use lib.ListN.{get_or}
use borrow.Author.Tests.{tests}
use Rattle.std.proofs.Common.{rules}
use Rattle.std.proofs.lemmas.Iterator.{cases_from_all, YieldsList-from_slice}
use Rattle.plank_core.specs.inner.DenseIndexSet.{contains, is_empty}
use Rattle.plank_core.specs.laws.DenseIndexSet.{no_word, shows_contains}
use Rattle.plank_core.proofs.dense_index_set.is_empty.Goals as goal

pub returns : goal.returns
unfolding is_empty
returns c =
    let s = c.args.set.now in
    let cases = cases_from_all _ _ c.all.result (λ w. w ≡ 0) (λ w. w ≡ 0 → ⊥) c.all.ensures.ran (YieldsList-from_slice s cc) (λ x q k. search (rules, tests)) (λ x q k. search (rules, tests)) in
    no_word (contains s) (λ j. get_or s j 0) (shows_contains s) (λ j. (c.type_inv.set j).fits) s 0 c.requires (λ w. w) (λ k h. refl) c.all.result cases
