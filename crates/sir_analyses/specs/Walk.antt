-- Walks over the blocks of an image and what the locals hold on them (document 01, "Walk"), and the claim on lifetimes.
use Rattle.std.specs.Prelude.{◌≡◌, true, false, ℕ, suc, ◌+◌, ◌≤◌, List, [], ◌∷◌}
use Rattle.std.proofs.Math.Option.{some}
use Rattle.std.proofs.Math.ListN.{get_elem?}
use Rattle.sir_data.specs.Records.{entry_block, ops, ins, outs, code, inputs, outputs, successors, condition}
use Rattle.sir_data.specs.Codes.{derives}
use Rattle.sir_analyses.specs.Order.{functions_rpo}
use Rattle.sir_analyses.specs.Liveness.{Interval}
use Rattle.sir_analyses.specs.Allocation.{allocs, marked, merged}
use Rattle.plank_core.specs.Lists.{◌∈◌, ◌∉◌}

-- at some position ws has w and vs has v
pub record Paired (ws vs : List ℕ) (w v : ℕ) : Type 0 where
  pub position : ℕ
  pub left : get_elem? ws position ≡ some w
  pub right : get_elem? vs position ≡ some v

-- what happened: an operation of a block was carried out, or an edge was taken
pub data Event : Type 0 where
  op : ℕ → ℕ → Event
  edge : ℕ → ℕ → Event

-- a history has its latest event first; the step of an operation is the number of operations before it
abbrev pub steps : List Event → ℕ
steps [] = 0
steps (op b o ∷ τ) = suc (steps τ)
steps (edge b s ∷ τ) = steps τ

-- at step u operation o of block b was carried out
pub data Executed : List Event → ℕ → ℕ → ℕ → Type 0 where
  now : {τ : List Event} {u b o : ℕ} → u ≡ steps τ → Executed (op b o ∷ τ) u b o
  before : {τ : List Event} {e : Event} {u b o : ℕ} → Executed τ u b o → Executed (e ∷ τ) u b o

-- operation o of block b lies in one of these intervals
pub data Lies (b o : ℕ) : List Interval → Type 0 where
  here : {i : Interval} {is : List Interval} → i.block ≡ b → i.from ≤ o + 1 → o + 1 ≤ i.to → Lies b o (i ∷ is)
  there : {i : Interval} {is : List Interval} → Lies b o is → Lies b o (i ∷ is)

module _ (w : List ℕ) where
  -- the walk with history τ stands in block b, before the operations os: the first block is a visited function's entry, each next one a
  -- successor of the one before
  pub data Walk : List Event → ℕ → List ℕ → Type 0 where
    enter : {f : ℕ} → f ∈ functions_rpo w → Walk [] (entry_block w f) (ops w (entry_block w f))
    step : {τ : List Event} {b o : ℕ} {os : List ℕ} → Walk τ b (o ∷ os) → Walk (op b o ∷ τ) b os
    follow : {τ : List Event} {b s : ℕ} → Walk τ b [] → s ∈ successors w b → Walk (edge b s ∷ τ) s (ops w s)

  -- operation o of block b is allocation a
  abbrev pub Gives : ℕ → ℕ → ℕ → Type 0
  Gives a b o = get_elem? (allocs w) a ≡ some (record { block = b; op = o })

  -- after τ local v holds the pointer that allocation a gave at step n; at first nothing is held
  pub data Holds : List Event → ℕ → ℕ → ℕ → Type 0 where
    -- an allocation's output holds just its new pointer, a deriving output all that the inputs held, any other output none
    given : {τ : List Event} {a b o v n : ℕ} → Gives a b o → v ∈ outs w o → n ≡ steps τ → Holds (op b o ∷ τ) v a n
    derived : {τ : List Event} {b o u v a n : ℕ} → derives (code w o) ≡ true → u ∈ ins w o → v ∈ outs w o → Holds τ u a n → Holds (op b o ∷ τ) v a n
    kept : {τ : List Event} {b o v a n : ℕ} → v ∉ outs w o → Holds τ v a n → Holds (op b o ∷ τ) v a n
    -- over an edge all inputs of the next block together take the holdings of the outputs at their positions; other locals keep theirs
    moved : {τ : List Event} {b s u v a n : ℕ} → Paired (outputs w b) (inputs w s) u v → Holds τ u a n → Holds (edge b s ∷ τ) v a n
    stayed : {τ : List Event} {b s v a n : ℕ} → v ∉ inputs w s → Holds τ v a n → Holds (edge b s ∷ τ) v a n

  -- lifetimes: where a pointer of an unmarked allocation is read, its merged intervals have every operation since it was given; and
  -- allocations whose pointers meet in one local are marked
  pub record Lifetimes : Type 0 where
    -- a read by an operation, itself counted
    pub read : {τ : List Event} {b o v a n u c p : ℕ} {os : List ℕ} → Walk τ b (o ∷ os) → v ∈ ins w o → Holds τ v a n → marked w a ≡ false
        → Executed (op b o ∷ τ) u c p → n ≤ u → Lies c p (merged w a)
    -- a read as the condition at the end of a block
    pub tested : {τ : List Event} {b v a n u c p : ℕ} → Walk τ b [] → v ∈ condition w b → Holds τ v a n → marked w a ≡ false
        → Executed τ u c p → n ≤ u → Lies c p (merged w a)
    -- pointers of two allocations in one local: both are marked
    pub mixed : {τ : List Event} {b v a n a' n' : ℕ} {os : List ℕ} → Walk τ b os → Holds τ v a n → Holds τ v a' n' → ¬ (a ≡ a')
        → (marked w a ≡ true) × (marked w a' ≡ true)
