-- The source's tables of lists, filled by `push`, hold the predecessors and the uses of the definitions.
use mathlib.Core.Path.{◌≡◌, refl, sym, ap, ◌∙◌, subst}
use mathlib.Core.Logic.{⊎_elim}
use mathlib.Core.Bool.{Bool, true, false, cond}
use Prim.Native.Nat.{ℕ, suc, ◌≤◌, ◌<◌}
use native.Mathlib.Omega.{arith}
use mathlib.Core.List.Memᴰ
use mathlib.Core.List.{List, [], ◌∷◌, ◌++◌, map, append-nil, append_assoc}
use lib.ListN.{length, get_or, replicate, length-set, length-replicate, get_or-replicate, get_or-eq_default}
use lib.Seq.{get_or-set_same, get_or-set_other}
use lib.Dec.{eqb}
use borrow.Author.Tests.{eqb-true, eqb-false, ne_eqb}
use Rattle.plank_core.specs.Lists.{foldl, bind, keep, upto, ◌∈◌}
use Rattle.plank_core.specs.laws.Lists.{split}
use Rattle.sir_data.specs.Records.{blocks, locals, outputs, ops, successors, condition, ins}
use Rattle.sir_data.specs.inner.WellFormed.{WellFormed}
use Rattle.sir_analyses.specs.Order.{blocks_rpo, is_visited, edges_from, predecessors}
use Rattle.sir_analyses.specs.Liveness.{Use, positions, uses_in, uses}
use Rattle.sir_analyses.specs.SourceUses.{push, push_to_successors, source_predecessors, use_inputs, use_condition, use_outputs, use_block, use_table, source_uses}
use Rattle.sir_analyses.proofs.claims.order.OrderProof.{blocks_below}
use Rattle.sir_analyses.proofs.Accepted.{listed_op}
use Rattle.plank_core.specs.laws.Folds.{bind_kept, bind_none, bind_one}

-- a list for id v of a table
abbrev pub list_of : {A : Type 0} → List (List A) → ℕ → List A
list_of t v = get_or t v []

-- a step over x that only appends g x to the list of v
pub record Appends {A X : Type 0} (v : ℕ) (F : List (List A) → X → List (List A)) (g : X → List A) : Type 0 where
  pub tall : (t : List (List A)) (x : X) → length (F t x) ≡ length t
  pub list : (t : List (List A)) (x : X) → v < length t → list_of (F t x) v ≡ list_of t v ++ g x

module _ {A : Type 0} (v : ℕ) where
  pub push_list : (t : List (List A)) (i : ℕ) (x : A) → v < length t → list_of (push t i x) v ≡ list_of t v ++ cond (eqb i v) (x ∷ []) []
  push_list t i x h = go (eqb i v) refl
    where
      go : (s : Bool) → eqb i v ≡ s → list_of (push t i x) v ≡ list_of t v ++ cond s (x ∷ []) []
      go true e =
          let q : v ≡ i = sym (eqb-true i v e) in
          ap (λ (k : ℕ). list_of (push t i x) k) q ∙ get_or-set_same t i (list_of t i ++ (x ∷ [])) [] (subst (λ (k : ℕ). k < length t) q h) ∙ ap (λ (k : ℕ). list_of t k ++ (x ∷ [])) (sym q)
      go false e = get_or-set_other t i v (list_of t i ++ (x ∷ [])) [] (λ q. eqb-false i v e (sym q)) ∙ sym (append-nil (list_of t v))

  pub push_tall : (t : List (List A)) (i : ℕ) (x : A) → length (push t i x) ≡ length t
  push_tall t i x = length-set t i (list_of t i ++ (x ∷ []))

  pub appends_push : {X : Type 0} (at : X → ℕ) (what : X → A) → Appends v (λ t x. push t (at x) (what x)) (λ x. cond (eqb (at x) v) (what x ∷ []) [])
  appends_push at what = record { tall = λ t x. push_tall t (at x) (what x); list = λ t x h. push_list t (at x) (what x) h }

  module _ {X : Type 0} {F : List (List A) → X → List (List A)} {g : X → List A} where
    pub appends_as : {h : X → List A} → ((x : X) → g x ≡ h x) → Appends v F g → Appends v F h
    appends_as e a = record { tall = a.tall; list = λ t x l. a.list t x l ∙ ap (λ (r : List A). list_of t v ++ r) (e x) }

    -- a loop of such steps
    pub appends_all : Appends v F g → Appends v (foldl F) (λ xs. bind xs g)
    appends_all a = record { tall = tall; list = list }
      where
        tall : (t : List (List A)) (xs : List X) → length (foldl F t xs) ≡ length t
        tall t [] = refl
        tall t (x ∷ xs) = tall (F t x) xs ∙ a.tall t x

        list : (t : List (List A)) (xs : List X) → v < length t → list_of (foldl F t xs) v ≡ list_of t v ++ bind xs g
        list t [] l = sym (append-nil (list_of t v))
        list t (x ∷ xs) l =
            list (F t x) xs (subst (λ (n : ℕ). v < n) (sym (a.tall t x)) l)
            ∙ ap (λ (r : List A). r ++ bind xs g) (a.list t x l) ∙ append_assoc (list_of t v) (g x) (bind xs g)

    -- from empty lists on
    pub appends_empty : Appends v F g → (n : ℕ) (xs : List X) → v < n → list_of (foldl F (replicate n []) xs) v ≡ bind xs g
    appends_empty a n xs l =
        (appends_all a).list (replicate n []) xs (subst (λ (k : ℕ). v < k) (sym (length-replicate n [])) l)
        ∙ ap (λ (r : List A). r ++ bind xs g) (get_or-replicate n v [] [] l)

  -- one step after another
  pub appends_then : {X : Type 0} {F G : List (List A) → X → List (List A)} {g h : X → List A} → Appends v F g → Appends v G h → Appends v (λ t x. G (F t x) x) (λ x. g x ++ h x)
  appends_then {F = F} {g = g} {h = h} a b = record {
    tall = λ t x. b.tall (F t x) x ∙ a.tall t x;
    list = λ t x l.
        b.list (F t x) x (subst (λ (n : ℕ). v < n) (sym (a.tall t x)) l)
        ∙ ap (λ (r : List A). r ++ h x) (a.list t x l) ∙ append_assoc (list_of t v) (g x) (h x);
  }

-- ---- predecessors

-- those of xs that are v, each as x
same_row : {A : Type 0} (x : A) (v : ℕ) (xs : List ℕ) → bind xs (λ s. cond (eqb s v) (x ∷ []) []) ≡ map (λ s. x) (keep (λ s. eqb s v) xs)
same_row x v xs = bind_kept (λ s. eqb s v) (λ s. x ∷ []) xs ∙ bind_one (λ s. x) (keep (λ s. eqb s v) xs)

module _ (w : List ℕ) where
  successors_append : (b : ℕ) → Appends b (push_to_successors w) (λ p. cond (is_visited w p) (edges_from w p b) [])
  successors_append b = record { tall = λ t p. tall t p (is_visited w p); list = λ t p l. list t p l (is_visited w p) }
    where
      one : (p : ℕ) → Appends b (foldl (λ (u : List (List ℕ)) (s : ℕ). push u s p)) (λ xs. bind xs (λ s. cond (eqb s b) (p ∷ []) []))
      one p = appends_all b (appends_push b (λ s. s) (λ s. p))

      tall : (t : List (List ℕ)) (p : ℕ) (on : Bool) → length (cond on (foldl (λ u s. push u s p) t (successors w p)) t) ≡ length t
      tall t p true = (one p).tall t (successors w p)
      tall t p false = refl

      list : (t : List (List ℕ)) (p : ℕ) → b < length t → (on : Bool) → list_of (cond on (foldl (λ u s. push u s p) t (successors w p)) t) b ≡ list_of t b ++ cond on (edges_from w p b) []
      list t p l true = (one p).list t (successors w p) l ∙ ap (λ (r : List ℕ). list_of t b ++ r) (same_row p b (successors w p))
      list t p l false = sym (append-nil (list_of t b))

  pub source_predecessors_row : (b : ℕ) → b < blocks w → source_predecessors w b ≡ predecessors w b
  source_predecessors_row b l =
      appends_empty b (successors_append b) (blocks w) (upto (blocks w)) l
      ∙ bind_kept (is_visited w) (λ p. edges_from w p b) (upto (blocks w))

-- ---- uses

-- those of xs that are v, each as x, counted from k
same_places : {A : Type 0} (x : A) (v : ℕ) (xs : List ℕ) (k : ℕ) → bind xs (λ s. cond (eqb s v) (x ∷ []) []) ≡ map (λ j. x) (positions v xs k)
same_places x v [] k = refl
same_places {A} x v (s ∷ xs) k = go (eqb s v) (same_places x v xs (suc k))
  where
    go : (t : Bool) → bind xs (λ s. cond (eqb s v) (x ∷ []) []) ≡ map (λ j. x) (positions v xs (suc k))
        → cond t (x ∷ []) [] ++ bind xs (λ s. cond (eqb s v) (x ∷ []) []) ≡ map (λ j. x) (cond t (k ∷ positions v xs (suc k)) (positions v xs (suc k)))
    go true e = ap (λ (r : List A). x ∷ r) e
    go false e = e

-- a use in block b: by operation o, by its control, as its output at place k
abbrev input_use : ℕ → ℕ → Use
input_use b o = record { block = b; kind = 0; place = o }

abbrev condition_use : ℕ → Use
condition_use b = record { block = b; kind = 1; place = 0 }

abbrev output_use : ℕ → ℕ → Use
output_use b k = record { block = b; kind = 2; place = k }

module _ (v : ℕ) where
  outputs_tall : (b : ℕ) (t : List (List Use)) (k : ℕ) (xs : List ℕ) → length (use_outputs b t k xs) ≡ length t
  outputs_tall b t k [] = refl
  outputs_tall b t k (x ∷ xs) = outputs_tall b (push t x (output_use b k)) (suc k) xs ∙ push_tall v t x (output_use b k)

  outputs_list : (b : ℕ) (t : List (List Use)) (k : ℕ) (xs : List ℕ) → v < length t → list_of (use_outputs b t k xs) v ≡ list_of t v ++ map (output_use b) (positions v xs k)
  outputs_list b t k [] l = sym (append-nil (list_of t v))
  outputs_list b t k (x ∷ xs) l =
      outputs_list b (push t x (output_use b k)) (suc k) xs (subst (λ (n : ℕ). v < n) (sym (push_tall v t x (output_use b k))) l)
      ∙ ap (λ (r : List Use). r ++ map (output_use b) (positions v xs (suc k))) (push_list v t x (output_use b k) l)
      ∙ append_assoc (list_of t v) (cond (eqb x v) (output_use b k ∷ []) []) (map (output_use b) (positions v xs (suc k)))
      ∙ ap (λ (r : List Use). list_of t v ++ r) (go (eqb x v))
    where
      go : (s : Bool) → cond s (output_use b k ∷ []) [] ++ map (output_use b) (positions v xs (suc k)) ≡ map (output_use b) (cond s (k ∷ positions v xs (suc k)) (positions v xs (suc k)))
      go true = refl
      go false = refl

  module _ (w : List ℕ) where
    inputs_append : (b : ℕ) → Appends v (use_inputs w b) (λ o. map (λ k. input_use b o) (positions v (ins w o) 0))
    inputs_append b = record {
      tall = λ t o. (one o).tall t (ins w o);
      list = λ t o l. (one o).list t (ins w o) l ∙ ap (λ (r : List Use). list_of t v ++ r) (same_places (input_use b o) v (ins w o) 0);
    }
      where
        one : (o : ℕ) → Appends v (foldl (λ (u : List (List Use)) (x : ℕ). push u x (input_use b o))) (λ xs. bind xs (λ s. cond (eqb s v) (input_use b o ∷ []) []))
        one o = appends_all v (appends_push v (λ s. s) (λ s. input_use b o))

    condition_append : Appends v (λ t b. use_condition w b t) (λ b. map (λ k. condition_use b) (positions v (condition w b) 0))
    condition_append = record {
      tall = λ t b. (one b).tall t (condition w b);
      list = λ t b l. (one b).list t (condition w b) l ∙ ap (λ (r : List Use). list_of t v ++ r) (same_places (condition_use b) v (condition w b) 0);
    }
      where
        one : (b : ℕ) → Appends v (foldl (λ (u : List (List Use)) (x : ℕ). push u x (condition_use b))) (λ xs. bind xs (λ s. cond (eqb s v) (condition_use b ∷ []) []))
        one b = appends_all v (appends_push v (λ s. s) (λ s. condition_use b))

    operations_append : Appends v (λ t b. foldl (use_inputs w b) t (ops w b)) (λ b. bind (ops w b) (λ o. map (λ k. input_use b o) (positions v (ins w o) 0)))
    operations_append = record { tall = λ t b. (appends_all v (inputs_append b)).tall t (ops w b); list = λ t b. (appends_all v (inputs_append b)).list t (ops w b) }

    outputs_append : Appends v (λ t b. use_outputs b t 0 (outputs w b)) (λ b. map (output_use b) (positions v (outputs w b) 0))
    outputs_append = record { tall = λ t b. outputs_tall b t 0 (outputs w b); list = λ t b l. outputs_list b t 0 (outputs w b) l }

    block_append : Appends v (use_block w) (uses_in w v)
    block_append = appends_then v (appends_then v operations_append condition_append) outputs_append

-- a local that is none has no uses
positions_none : (v : ℕ) (xs : List ℕ) (k : ℕ) → ¬ (v ∈ xs) → positions v xs k ≡ []
positions_none v [] k n = refl
positions_none v (x ∷ xs) k n = rw (ne_eqb x v (λ e. n (Memᴰ.head (sym e)))) (positions_none v xs (suc k) (λ m. n (Memᴰ.tail m)))

module _ (w : List ℕ) (good : WellFormed w) where
  unused : (v : ℕ) → locals w ≤ v → uses w v ≡ []
  unused v l = bind_none (uses_in w v) (blocks_rpo w) (λ b m. at b m (blocks_below w good b m))
    where
      at : (b : ℕ) → b ∈ blocks_rpo w → b < blocks w → uses_in w v b ≡ []
      at b m k =
          let r = good.in_range in
          let i = bind_none (λ o. map (λ j. input_use b o) (positions v (ins w o) 0)) (ops w b)
          (λ o n. ap (map (λ j. input_use b o)) (positions_none v (ins w o) 0 (λ q. let z = r.read o v (listed_op w good m n) q in omega arith))) in
          let c = positions_none v (condition w b) 0 (λ q. let z = r.tested b v k q in omega arith) in
          let o = positions_none v (outputs w b) 0 (λ q. let z = r.output b v k q in omega arith) in
          rw (i, c, o)

  -- the source's `DefUse`
  pub source_uses_row : (v : ℕ) → source_uses w v ≡ uses w v
  source_uses_row v =
      ⊎_elim
      (λ (l : v < locals w). appends_empty v (block_append v w) (locals w) (blocks_rpo w) l)
      (λ (l : locals w ≤ v). get_or-eq_default (use_table w) [] (subst (λ (n : ℕ). n ≤ v) (sym (tall v)) l) ∙ sym (unused v l))
      (split v (locals w))
    where
      tall : (v : ℕ) → length (use_table w) ≡ locals w
      tall v = (appends_all v (block_append v w)).tall (replicate (locals w) []) (blocks_rpo w) ∙ length-replicate (locals w) []
