-- What every question starts from: the refusal of the image, or its words, the visit, the order's words and its allocations.
use Rattle.std.specs.Prelude.{◌≡◌, List, ℕ, ◌≤◌, length, take}
use Rattle.sir_analyses.specs.inner.Stages.{OrderStage, VisitStage, AcceptedStage}

-- n words, k keys of the visit and a allocations stand at the front of their arrays
pub record Prepared (w words postorder visit sites : List ℕ) (n k a : ℕ) : Type 0 where
  pub words_fit : n ≤ length words
  pub words_are : take n words ≡ w
  pub postorder_fit : k ≤ length postorder
  pub sites_fit : a ≤ length sites
  pub order_stage : OrderStage (take n words) (take k postorder)
  pub visit_stage : VisitStage (take n words) visit
  pub accepted_stage : AcceptedStage (take n words) (take a sites)

-- k keys of the visit and a allocations of the words w stand at the front of their arrays
pub record VisitPrepared (w postorder visit sites : List ℕ) (k a : ℕ) : Type 0 where
  pub postorder_fit : k ≤ length postorder
  pub sites_fit : a ≤ length sites
  pub order_stage : OrderStage w (take k postorder)
  pub visit_stage : VisitStage w visit
  pub accepted_stage : AcceptedStage w (take a sites)
