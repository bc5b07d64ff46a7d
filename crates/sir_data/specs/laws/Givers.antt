-- Rule 16 passes exactly where each local has one giver, and one pass with a set finds that out.
use Rattle.std.specs.Prelude.{◌≡◌, ℕ, ◌<◌, true, false, not, ◌&&◌, ◌↔◌, List}
use Rattle.std.proofs.Common.{sym, ◌∙◌, arith}
use Rattle.std.proofs.Math.Path.{ap}
use Rattle.std.proofs.Math.Logic.{⊎_elim}
use mathlib.Core.List.Memᴰ
use borrow.Author.Tests.{not-false}
use Rattle.plank_core.specs.Lists.{upto, bind, distinct, ◌∈◌}
use Rattle.plank_core.specs.inner.DenseIndexSet.{set_of, empty_set, added_all, fresh}
use Rattle.plank_core.specs.laws.Lists.{upto_mem, mem_upto, bind_mem, bind_out}
use Rattle.plank_core.specs.laws.Distinct.{distinct_left, distinct_right, distinct_apart, distinct_join, count_distinct, bind_distinct, part_distinct, part_one, fresh_all, fresh_append}
use Rattle.sir_data.specs.Records.{operations, blocks, outs, inputs}
use Rattle.sir_data.specs.Givers.{givings, rule16, OneGiver}
use Rattle.sir_data.specs.inner.WellFormed.{Sized, InRange}

module _ (w : List ℕ) where
  abbrev pub by_operations : List ℕ
  by_operations = bind (upto (operations w)) (outs w)

  abbrev pub by_blocks : List ℕ
  by_blocks = bind (upto (blocks w)) (inputs w)

  pub given_once : rule16 w ≡ false → OneGiver w
  unfolding rule16
  given_once h =
      let d : distinct (givings w) ≡ true = not-false _ h in
      let ops : distinct by_operations ≡ true = distinct_left by_operations by_blocks d in
      let bs : distinct by_blocks ≡ true = distinct_right by_operations by_blocks d in
      record {
        outputs_once = λ o l. part_distinct (outs w) ops (upto_mem o (operations w) l);
        inputs_once = λ b l. part_distinct (inputs w) bs (upto_mem b (blocks w) l);
        one_operation = λ o p v l k. part_one (outs w) v ops (upto_mem o (operations w) l) (upto_mem p (operations w) k);
        one_block = λ b c v l k. part_one (inputs w) v bs (upto_mem b (blocks w) l) (upto_mem c (blocks w) k);
        not_both = λ o b v l k m n. distinct_apart by_blocks d (bind_mem (outs w) (upto_mem o (operations w) l) m) (bind_mem (inputs w) (upto_mem b (blocks w) k) n);
      }

  pub none_twice : OneGiver w → rule16 w ≡ false
  unfolding rule16
  none_twice g =
      ap not
      (distinct_join by_operations by_blocks
      (bind_distinct (outs w) (upto (operations w)) (count_distinct 0 (operations w)) (λ o i. g.outputs_once o (mem_upto o (operations w) i))
      (λ o p v i j. g.one_operation o p v (mem_upto o (operations w) i) (mem_upto p (operations w) j)))
      (bind_distinct (inputs w) (upto (blocks w)) (count_distinct 0 (blocks w)) (λ b i. g.inputs_once b (mem_upto b (blocks w) i))
      (λ b c v i j. g.one_block b c v (mem_upto b (blocks w) i) (mem_upto c (blocks w) j)))
      (λ v m n.
      let o = bind_out (outs w) (upto (operations w)) m in
      let b = bind_out (inputs w) (upto (blocks w)) n in
      g.not_both o.0 b.0 v (mem_upto o.0 (operations w) o.1) (mem_upto b.0 (blocks w) b.1) o.2 b.2))

  pub one_giver : (rule16 w ≡ false) ↔ OneGiver w
  one_giver = (given_once, none_twice)

  -- with a set of those given so far, which is empty at first: the outputs of all operations, and then the inputs of all blocks
  pub in_one_pass : Sized w → InRange w → rule16 w ≡ not (fresh empty_set by_operations && fresh (added_all empty_set by_operations) by_blocks)
  unfolding rule16 empty_set set_of
  in_one_pass sized in_range = ap not (sym (fresh_all (givings w)) ∙ fresh_append empty_set by_operations by_blocks small)
    where
      small : (v : ℕ) → v ∈ givings w → v < 512
      small v m =
          ⊎_elim
          (λ (k : v ∈ by_operations). let at = bind_out {y = v} (outs w) (upto (operations w)) k in let l : v < 512 = omega (arith, in_range.written at.0 v (mem_upto at.0 (operations w) at.1) at.2, sized.locals_most) in l)
          (λ (k : v ∈ by_blocks). let at = bind_out {y = v} (inputs w) (upto (blocks w)) k in let l : v < 512 = omega (arith, in_range.input at.0 v (mem_upto at.0 (blocks w) at.1) at.2, sized.locals_most) in l)
          (Memᴰ.append_cases by_operations m)
