-- What reading an image and the visit of its blocks give every question.
use mathlib.Core.Path.{◌≡◌, refl, sym, ap, ◌∙◌, subst}
use mathlib.Core.Bool.{false, cond}
use mathlib.Core.List.{List, [], ◌∷◌, ◌++◌}
use Prim.Native.Nat.{ℕ, ◌≤◌}
use native.Mathlib.Omega.{arith}
use lib.ListN.{length, take, drop, length-append}
use lib.Seq.{take_at, length-take-le}
use Rattle.std.specs.Prelude.{Result, Ok, Err, IfOk}
use Rattle.sir_data.specs.declared.refusals.Refusal.{Refusal}
use Rattle.sir_analyses.specs.declared.loading.Sizes.{Sizes}
use Rattle.sir_data.specs.Pages.{payload}
use Rattle.sir_data.specs.Rules.{first, page_rules, record_rules}
use Rattle.sir_data.specs.inner.WellFormed.{WellFormed}
use Rattle.sir_data.specs.inner.Image.{Read}
use Rattle.sir_data.specs.laws.Rules.{first_append}
use Rattle.sir_data.specs.laws.Image.{accepted}
use Rattle.sir_analyses.specs.Order.{blocks_rpo}
use Rattle.sir_analyses.specs.Allocation.{rule12}
use Rattle.sir_analyses.specs.Answers.{order_answer}
use Rattle.sir_analyses.specs.Calls.{refusal}
use Rattle.sir_analyses.specs.inner.Visiting.{VisitedAll, blocks_in, order_in, Listed}
use Rattle.sir_analyses.specs.inner.Discovery.{alloc_sites}
use Rattle.sir_analyses.specs.inner.Loading.{Prepared, VisitPrepared}
use Rattle.sir_analyses.specs.inner.Stages.{OrderStage, AcceptedStage}
use Rattle.sir_analyses.proofs.allocation_liveness.Discovery.{sites_long, sites_most}
use Rattle.sir_analyses.proofs.reverse_post_order.Postorder.{blocks_rpo_lem, order_answer_lem}
use Rattle.sir_analyses.proofs.claims.order.OrderLength.{blocks_most, order_most}

module _ {s old new : List ℕ} {r : ℕ} (k : Read s old new r) where
  module _ (z : r ≡ 0) {n : ℕ} (long : n ≡ length (payload s)) where
    none_broken : first (page_rules s ++ record_rules (payload s)) ≡ 0
    none_broken = sym k.number ∙ z

    words_are : new ≡ payload s ++ drop (length (payload s)) old
    words_are = k.words (accepted s none_broken).0

    pub words_fit : n ≤ length new
    words_fit = omega (arith, ap length words_are, length-append (payload s) (drop (length (payload s)) old))

    front_is : take n new ≡ payload s
    front_is = ap (take n) words_are ∙ take_at (payload s) (drop (length (payload s)) old) n (sym long)

    pub front_good : WellFormed (take n new)
    front_good = subst WellFormed (sym front_is) (accepted s none_broken).1

    -- rule 12, the last one, decides
    pub last_is : refusal s ≡ cond (rule12 (take n new)) 12 0
    last_is = first_append (page_rules s ++ record_rules (payload s)) ((12, rule12 (payload s)) ∷ []) refl ∙ rw (none_broken, front_is)

    -- all that is prepared from the front of the words is prepared from the payload
    pub prepared : {postorder visit sites : List ℕ} {m i a : ℕ} → m ≡ length (take n new) → VisitPrepared (take n new) postorder visit sites i a → Prepared (payload s) new postorder visit sites m i a
    prepared {postorder} {visit} {sites} {m} {i} {a} e v =
        let f : m ≡ n = e ∙ length-take-le n new words_fit in
        let p : VisitPrepared (take m new) postorder visit sites i a = subst (λ (j : ℕ). VisitPrepared (take j new) postorder visit sites i a) (sym f) v in
        record {
          words_fit = omega (arith, words_fit);
          words_are = ap (λ (j : ℕ). take j new) f ∙ front_is;
          postorder_fit = p.postorder_fit;
          sites_fit = p.sites_fit;
          order_stage = p.order_stage;
          visit_stage = p.visit_stage;
          accepted_stage = p.accepted_stage;
        }

    pub prepared_ok : (postorder visit sites : List ℕ) (r : Result Sizes Refusal)
        → IfOk r (λ m. (m.words ≡ length (take n new)) × VisitPrepared (take n new) postorder visit sites m.finished m.allocations)
        → IfOk r (λ m. Prepared (payload s) new postorder visit sites m.words m.finished m.allocations)
    prepared_ok postorder visit sites (Ok sizes) h = prepared h.0 h.1
    prepared_ok postorder visit sites (Err reason) h = h

-- the blocks of a visit fit an array of 256, and are the order's sequence there
module _ {w seen postorder : List ℕ} {n : ℕ} (good : WellFormed w) (v : VisitedAll w seen postorder n) where
  pub blocks_fit : length (blocks_in (take n postorder)) ≤ 256
  blocks_fit = omega (arith, ap length (blocks_rpo_lem w v.shows), blocks_most w good, good.sized.blocks_most)

  pub rpo_is : {old rpo : List ℕ} {m : ℕ} → Listed (blocks_in (take n postorder)) 0 old rpo m → take m rpo ≡ blocks_rpo w
  rpo_is k = k.list ∙ sym (blocks_rpo_lem w v.shows)

  pub finished_fit : n ≤ length postorder
  finished_fit = let h = v.held in omega (arith, h.room, h.long, good.sized.functions_most, good.sized.blocks_most)

-- the words of the order
pub order_stage : {w seen postorder : List ℕ} {n : ℕ} → WellFormed w → VisitedAll w seen postorder n → OrderStage w (take n postorder)
order_stage {w} {postorder = postorder} {n = n} good v =
    let e : order_in (take n postorder) ≡ order_answer w = sym (order_answer_lem w v.shows) in
    record { order_is = e; order_fits = omega (arith, ap length e, order_most w good, good.sized.functions_most, good.sized.blocks_most) }

pub accepted_stage : {w old sites : List ℕ} {a : ℕ} → WellFormed w → Listed (alloc_sites w) 0 old sites a → rule12 w ≡ false → AcceptedStage w (take a sites)
accepted_stage {w} good found differ = record {
  well_formed = good;
  sites_are = found.list;
  sites_few = omega (arith, ap length found.list, sites_long w, sites_most w good differ);
  bases_differ = differ;
}
