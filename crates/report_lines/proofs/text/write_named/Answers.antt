-- `write_named` meets its contract.
use Rattle.std.proofs.Common.{rules, ◌≡◌, ◌++◌, ℕ, List, ap, sym, ◌∙◌, ◌+◌, ◌<◌, take, length, arith, add-one, take-suc}
use Rattle.std.proofs.lemmas.Grind.{put_two}
use lib.ListN.{get_or}
use Rattle.plank_core.specs.Lists.{bind}
use Rattle.plank_core.specs.laws.Loops.{bind_snoc}
use Rattle.report_lines.specs.Lines.{named}
use Rattle.report_lines.proofs.Decimals.{decimal_is}
use Rattle.report_lines.proofs.text.write_named.Goals as goal

-- the text so far, and that of one more
more : (f : ℕ → List ℕ) (xs : List ℕ) (i : ℕ) → i < length xs → bind (take i xs) f ++ f (get_or xs i 0) ≡ bind (take (i + 1) xs) f
more f xs i l = sym (ap (λ (ys : List ℕ). bind ys f) (ap (λ (k : ℕ). take k xs) (add-one i) ∙ take-suc xs i 0 l) ∙ bind_snoc f (take i xs) (get_or xs i 0))

pub loop-id-preserved : goal.loop-id-preserved
loop-id-preserved g c = λ plain.
    let xs = c.args.ids.now in
    let i = c.loop-id.id-index in
    let so_far = c.loop-id.invariant plain in
    let wrote = rw (decimal_is (get_or xs i 0) (omega (arith, c.type_inv.ids i))) at (c.write.ensures.writes so_far.plain (search rules)) in
    put_two _ _ _ _ _ _ _ so_far wrote (more (named c.args.name.now) xs i c.loop-id-test.true)
