-- One block of a pass over tables is one step of the definition, though it sends only what it did not send before.
use mathlib.Core.Path.{◌≡◌, refl, sym, ap, subst, ◌∙◌}
use mathlib.Core.Logic.{⊎_elim}
use mathlib.Core.Bool.{Bool, true, false, not, ◌&&◌, ◌||◌, or-false, and-false}
use mathlib.Core.List.Memᴰ
use mathlib.Core.List.{List, [], ◌∷◌, map}
use Prim.Native.Nat.{ℕ, ◌+◌, ◌*◌, ◌≤◌, ◌<◌}
use native.Mathlib.Omega.{arith}
use native.Mathlib.Nat.{le_refl}
use lib.ListN.{length, set, length-set}
use lib.Dec.{eqb}
use borrow.Author.Tests.{eqb-true, eqb-false}
use Rattle.plank_core.specs.Lists.{upto, foldl, mem, ◌∈◌}
use Rattle.plank_core.specs.laws.Lists.{and_true_left, and_true_right, both_true, or_true_left, or_true_right, or_cases, refuted, same_tests, none, split, mem_upto, keep_out, mem_in, in_mem, foldl_keeps}
use Rattle.plank_core.specs.inner.DenseIndexSet.{contains, row_union, row_difference, is_empty}
use Rattle.plank_core.specs.inner.DenseIndexSet as Words
use Rattle.plank_core.specs.laws.DenseIndexSet.{contains_row, length_difference, set_difference, empty_none}
use Rattle.plank_core.specs.laws.Members.{member_in, member_is}
use Rattle.sir_data.specs.Records.{blocks, locals, inputs, outputs}
use Rattle.sir_data.specs.inner.WellFormed.{WellFormed}
use Rattle.sir_analyses.specs.Order.{predecessors}
use Rattle.sir_analyses.specs.Liveness.{Set, has, add_all, members, entry_from, renamed, row_of, back}
use Rattle.sir_analyses.specs.inner.Tables.{Same, Adds, grew, BlockRows, PredecessorRows, EntryWords, Unsent, TakenInputs, arrives, Sends, SentToPredecessors, Shown, SentOn, Stepped}
use Rattle.sir_analyses.proofs.SetLaws.{has_less, has_add_all, length_add_all, members_in, members_out}
use Rattle.sir_analyses.proofs.claims.liveness.RowLaws.{Shape}
use Rattle.sir_analyses.proofs.claims.liveness.FlowLaws.{row_same, row_other}
use Rattle.sir_analyses.proofs.claims.liveness.GenKill.{beyond, entry_length, gen_kill}
use Rattle.sir_analyses.proofs.Tables.{adds_as, adds_none, adds_union}
use Rattle.sir_analyses.proofs.local_liveness.Growth.{adds_more, same_grew}
use Rattle.sir_analyses.proofs.local_liveness.Sending.{Arrivals, arrivals, predecessor_below, edge_length, rename_below}

-- ---- members added to some rows of a table of sets

module _ (f : ℕ → List ℕ) (B L : ℕ) where
  abbrev put : List Set → ℕ → List Set
  put x p = set x p (add_all (row_of x p) (f p))

  put_shape : (e : List Set) (p : ℕ) → p < B → Shape B L e → Shape B L (put e p)
  put_shape e p h s = record {
    tall = length-set e p (add_all (row_of e p) (f p)) ∙ s.tall;
    wide = λ q l. go q l (eqb q p) refl;
  }
    where
      go : (q : ℕ) → q < length (put e p) → (t : Bool) → eqb q p ≡ t → length (row_of (put e p) q) ≡ L
      go q l true d =
          let k : p < length e = omega (arith, s.tall) in
          ap length (row_same e p q (add_all (row_of e p) (f p)) k (eqb-true q p d)) ∙ length_add_all (row_of e p) (f p) ∙ s.wide p k
      go q l false d =
          let k : q < length e = omega (arith, length-set e p (add_all (row_of e p) (f p))) in
          ap length (row_other e p q (add_all (row_of e p) (f p)) (eqb-false q p d)) ∙ s.wide q k

  puts_shape : (ps : List ℕ) → ((p : ℕ) → p ∈ ps → p < B) → (e : List Set) → Shape B L e → Shape B L (foldl put e ps)
  puts_shape ps h e s = foldl_keeps (Shape B L) put ps (λ x p m k. put_shape x p (h p m) k) e s

  puts_has : (ps : List ℕ) → ((p : ℕ) → p ∈ ps → p < B) → (e : List Set) → Shape B L e → (q i : ℕ) → q < B → i < L
      → has (row_of (foldl put e ps) q) i ≡ (has (row_of e q) i || (mem q ps && mem i (f q)))
  puts_has [] h e s q i l k = sym (or-false (has (row_of e q) i))
  puts_has (p ∷ ps) h e s q i l k =
      let hp : p < B = h p (Memᴰ.head refl) in
      puts_has ps (λ x m. h x (Memᴰ.tail m)) (put e p) (put_shape e p hp s) q i l k
      ∙ ap (λ (t : Bool). t || (mem q ps && mem i (f q))) (here (eqb q p) refl) ∙ go (has (row_of e q) i) (eqb q p) (mem q ps) (mem i (f q))
    where
      low : p < length e
      low = omega (arith, s.tall, h p (Memᴰ.head refl))

      here : (t : Bool) → eqb q p ≡ t → has (row_of (put e p) q) i ≡ (has (row_of e q) i || (t && mem i (f q)))
      here true d =
          let x : q ≡ p = eqb-true q p d in
          ap (λ (r : Set). has r i) (row_same e p q (add_all (row_of e p) (f p)) low x)
          ∙ has_add_all (row_of e p) (f p) i (omega (arith, s.wide p low))
          ∙ ap (λ (y : ℕ). has (row_of e y) i || mem i (f y)) (sym x)
      here false d = ap (λ (r : Set). has r i) (row_other e p q (add_all (row_of e p) (f p)) (eqb-false q p d)) ∙ sym (or-false (has (row_of e q) i))

      go : (a x y z : Bool) → ((a || (x && z)) || (y && z)) ≡ (a || ((x || y) && z))
      go true x y z = refl
      go false true true true = refl
      go false true true false = refl
      go false true false true = refl
      go false true false false = refl
      go false false y z = refl

-- ---- one block

module _ {w : List ℕ} (good : WellFormed w) (b : ℕ) (l : b < blocks w) where
  shape : {exits : List ℕ} {e : List Set} → Shown w exits e → Shape (blocks w) (locals w) e
  shape s = record { tall = s.tall; wide = s.wide }

  -- the words of the entry set show it, where row b of the exits shows x
  pub entry_shows : (ws exits : List ℕ) (x : Set) {uses defs : List ℕ} → BlockRows w uses defs → EntryWords uses defs exits b ws → length x ≡ locals w
      → ((v : ℕ) → v < 512 → contains exits (512 * b + v) ≡ has x v) → Same ws (entry_from w b x)
  entry_shows ws exits x rows words long row v h = words v h ∙ rw (rows.used b v l h, rows.defined b v l h, row v h) (sym (gen_kill w b x long v))

  -- what the definition sends to p
  abbrev names : List Set → ℕ → List ℕ
  names e p = map (renamed w p b) (members (entry_from w b (row_of e b)))

  module _ {uses defs exits sent new exits' : List ℕ} {A : ℕ → ℕ → Bool}
      (long : length exits ≡ 2048) (un : Unsent uses defs exits sent b new) (on : SentOn w exits sent) (arr : Arrivals w b new A)
      (put : Adds exits (λ q i. mem q (predecessors w b) && A q i) exits') where
    below : (p : ℕ) → p ∈ predecessors w b → p < blocks w
    below p m = predecessor_below good p b m

    module _ {e : List Set} (s : Shown w exits e) (same : Same un.entry (entry_from w b (row_of e b))) where
      entry_small : (v : ℕ) → has (entry_from w b (row_of e b)) v ≡ true → v < locals w
      entry_small v t =
          let k : length (row_of e b) ≡ locals w = s.wide b (omega (arith, s.tall)) in
          omega (arith, has_less (entry_from w b (row_of e b)) v t, entry_length w b (row_of e b))

      -- what arrives is in the entry set
      came : (q i : ℕ) → q ∈ predecessors w b → i < 512 → A q i ≡ true → (v : ℕ) × (has (entry_from w b (row_of e b)) v ≡ true) × (renamed w q b v ≡ i)
      came q i m h t =
          let r = arr.only q i m h t in
          let v : ℕ = r.0 in
          (v, sym (same v r.1) ∙ and_true_left (contains un.entry v) (not (contains sent (512 * b + v))) (sym (un.fresh v r.1) ∙ r.2), r.3)

      -- a name that the definition sends is there, or arrives
      goes : (q i : ℕ) → q ∈ predecessors w b → i ∈ names e q → (has (row_of e q) i || (mem q (predecessors w b) && A q i)) ≡ true
      goes q i m k = go (contains sent (512 * b + v)) refl
        where
          r : (v : ℕ) × (v ∈ members (entry_from w b (row_of e b))) × (renamed w q b v ≡ i)
          r = Memᴰ.of_map (renamed w q b) (members (entry_from w b (row_of e b))) k

          v : ℕ
          v = r.0

          t : has (entry_from w b (row_of e b)) v ≡ true
          t = members_out (entry_from w b (row_of e b)) r.1

          small : v < 512
          small = omega (arith, entry_small v t, good.sized.locals_most)

          name : renamed w q b v < 512
          name = rename_below good q b m 512 v l good.sized.locals_most small

          go : (x : Bool) → contains sent (512 * b + v) ≡ x → (has (row_of e q) i || (mem q (predecessors w b) && A q i)) ≡ true
          go true d =
              let y : has (row_of e q) (renamed w q b v) ≡ true = sym (s.rows q (renamed w q b v) (below q m) name) ∙ on b q v l m small d in
              or_true_left (has (row_of e q) i) (mem q (predecessors w b) && A q i) (subst (λ (j : ℕ). has (row_of e q) j ≡ true) r.2 y)
          go false d =
              let y : contains new v ≡ true = un.fresh v small ∙ both_true (contains un.entry v) (not (contains sent (512 * b + v))) (same v small ∙ t) (ap not d) in
              let z : A q i ≡ true = subst (λ (j : ℕ). A q j ≡ true) r.2 (arr.all q v m small y) in
              or_true_right (has (row_of e q) i) (mem q (predecessors w b) && A q i) (both_true (mem q (predecessors w b)) (A q i) (in_mem q m) z)

      step_rows : (q i : ℕ) → q < blocks w → i < 512 → contains exits' (512 * q + i) ≡ has (row_of (back w e b) q) i
      step_rows q i k h =
          put.same q i (omega (arith, good.sized.blocks_most)) h ∙ ap (λ (t : Bool). t || (mem q (predecessors w b) && A q i)) (s.rows q i k h)
          ∙ ⊎_elim inside outside (split i (locals w))
        where
          sent_to : i < locals w → has (row_of (back w e b) q) i ≡ (has (row_of e q) i || (mem q (predecessors w b) && mem i (names e q)))
          sent_to n = puts_has (names e) (blocks w) (locals w) (predecessors w b) below e (shape s) q i k n

          inside : i < locals w → (has (row_of e q) i || (mem q (predecessors w b) && A q i)) ≡ has (row_of (back w e b) q) i
          inside n = same_tests (has (row_of e q) i || (mem q (predecessors w b) && A q i)) (has (row_of (back w e b) q) i)
              (λ y. sent_to n ∙ ⊎_elim
              (λ (x : has (row_of e q) i ≡ true). or_true_left (has (row_of e q) i) (mem q (predecessors w b) && mem i (names e q)) x)
              (λ (x : (mem q (predecessors w b) && A q i) ≡ true).
              let m = and_true_left (mem q (predecessors w b)) (A q i) x in
              let r = came q i (mem_in q (predecessors w b) m) h (and_true_right (mem q (predecessors w b)) (A q i) x) in
              or_true_right (has (row_of e q) i) (mem q (predecessors w b) && mem i (names e q))
              (both_true (mem q (predecessors w b)) (mem i (names e q)) m (in_mem i (Memᴰ.cast (sym r.2) (Memᴰ.map (renamed w q b) (members_in (entry_from w b (row_of e b)) r.0 r.1))))))
              (or_cases (has (row_of e q) i) (mem q (predecessors w b) && A q i) y))
              (λ y. ⊎_elim
              (λ (x : has (row_of e q) i ≡ true). or_true_left (has (row_of e q) i) (mem q (predecessors w b) && A q i) x)
              (λ (x : (mem q (predecessors w b) && mem i (names e q)) ≡ true).
              goes q i (mem_in q (predecessors w b) (and_true_left (mem q (predecessors w b)) (mem i (names e q)) x)) (mem_in i (names e q) (and_true_right (mem q (predecessors w b)) (mem i (names e q)) x)))
              (or_cases (has (row_of e q) i) (mem q (predecessors w b) && mem i (names e q)) (sym (sent_to n) ∙ y)))

          outside : locals w ≤ i → (has (row_of e q) i || (mem q (predecessors w b) && A q i)) ≡ has (row_of (back w e b) q) i
          outside n =
              let none_there : (mem q (predecessors w b) && A q i) ≡ false = refuted (mem q (predecessors w b) && A q i) (λ x.
              let m = mem_in q (predecessors w b) (and_true_left (mem q (predecessors w b)) (A q i) x) in
              let r = came q i m h (and_true_right (mem q (predecessors w b)) (A q i) x) in
              omega (arith, rename_below good q b m (locals w) r.0 l (le_refl (locals w)) (entry_small r.0 r.1), r.2)) in
              let wide = s.wide q (omega (arith, s.tall)) in
              let after = puts_shape (names e) (blocks w) (locals w) (predecessors w b) below e (shape s) in
              let wide' = after.wide q (omega (arith, after.tall)) in
              rw (beyond (row_of e q) i (omega arith), none_there) (sym (beyond (row_of (back w e b) q) i (omega arith)))

      step_shown : Shown w exits' (back w e b)
      step_shown =
          let after = puts_shape (names e) (blocks w) (locals w) (predecessors w b) below e (shape s) in
          record { tall = after.tall; wide = after.wide; rows = step_rows }

    -- all that was sent, and what is sent now, is there
    step_sent : {sent' : List ℕ} → length sent ≡ 2048 → Adds sent (λ r v. eqb r b && contains new v) sent' → SentOn w exits' sent'
    step_sent {sent'} wide add c p v k m h t =
        let name : renamed w p c v < 512 = rename_below good p c m 512 v k good.sized.locals_most h in
        let lp : p < blocks w = predecessor_below good p c m in
        let room : 8 * p + 8 ≤ length exits = omega (arith, good.sized.blocks_most) in
        put.same p (renamed w p c v) room name
        ∙ ⊎_elim
        (λ (x : contains sent (512 * c + v) ≡ true).
        or_true_left (contains exits (512 * p + renamed w p c v)) (mem p (predecessors w b) && A p (renamed w p c v)) (on c p v k m h x))
        (λ (x : (eqb c b && contains new v) ≡ true).
        let e : c ≡ b = eqb-true c b (and_true_left (eqb c b) (contains new v) x) in
        let mb : p ∈ predecessors w b = subst (λ (j : ℕ). p ∈ predecessors w j) e m in
        let y : A p (renamed w p c v) ≡ true = subst (λ (j : ℕ). A p (renamed w p j v) ≡ true) (sym e) (arr.all p v mb h (and_true_right (eqb c b) (contains new v) x)) in
        or_true_right (contains exits (512 * p + renamed w p c v)) (mem p (predecessors w b) && A p (renamed w p c v)) (both_true (mem p (predecessors w b)) (A p (renamed w p c v)) (in_mem p mb) y))
        (or_cases (contains sent (512 * c + v)) (eqb c b && contains new v) (sym (add.same c v (omega (arith, good.sized.blocks_most)) h) ∙ t))

    pub stepped : {sent' : List ℕ} {told : Bool} → BlockRows w uses defs → length sent ≡ 2048
        → Adds sent (λ r v. eqb r b && contains new v) sent' → told ≡ grew (blocks w) exits exits' → Stepped w (λ e. back w e b) exits exits' sent' told
    stepped rows wide add t = record {
      exits_long = put.long ∙ long;
      sent_long = add.long ∙ wide;
      same = λ e s. step_shown s (entry_shows un.entry exits (row_of e b) rows un.entry_words (s.wide b (omega (arith, s.tall))) (λ v h. s.rows b v l h));
      sent_on = step_sent wide add;
      more = adds_more (blocks w) put (omega (arith, good.sized.blocks_most));
      tells = t;
    }

-- ---- the step as the code has it

-- row b is in a table of 256 rows
pub row_fits : {b : ℕ} (t : List ℕ) → b < 256 → length t ≡ 2048 → 8 * b + 8 ≤ length t
row_fits t l h = omega arith

-- a set is a table of one row
pub set_fits : (s : List ℕ) → length s ≡ 8 → 8 * 0 + 8 ≤ length s
set_fits s h = omega arith

pub block_small : {w : List ℕ} → WellFormed w → {b : ℕ} → b < blocks w → b < 256
block_small good l = omega (arith, good.sized.blocks_most)

pub unsent : {uses defs exits sent new : List ℕ} {b : ℕ} (ent : List ℕ) → length ent ≡ 8 → EntryWords uses defs exits b ent → new ≡ row_difference ent 0 (Words.row_of sent b)
    → (length new ≡ 8) × Unsent uses defs exits sent b new
unsent {sent = sent} {b = b} ent l ws e = (
  ap length e ∙ length_difference ent 0 (Words.row_of sent b) ∙ l,
  record {
    entry = ent;
    entry_words = ws;
    fresh = λ v h. ap (λ (ws : List ℕ). contains ws v) e ∙ set_difference ent (Words.row_of sent b) v h (omega arith) ∙ ap (λ (t : Bool). contains ent v && not t) (contains_row sent b v h);
  },
)

-- the members of a row of predecessors are the predecessors
pub preds_listed : {w : List ℕ} → WellFormed w → (b : ℕ) → b < blocks w → {preds : List ℕ} → PredecessorRows w preds → (q : ℕ) → mem q (Words.members (Words.row_of preds b)) ≡ mem q (predecessors w b)
preds_listed {w} good b l {preds} rows q = same_tests (mem q (Words.members (Words.row_of preds b))) (mem q (predecessors w b))
    (λ t.
    let r = member_is (Words.row_of preds b) q (mem_in q (Words.members (Words.row_of preds b)) t) in
    sym (rows.preceded b q l r.0) ∙ sym (contains_row preds b q r.0) ∙ r.1)
    (λ t.
    let h : q < 512 = omega (arith, predecessor_below good q b (mem_in q (predecessors w b) t), good.sized.blocks_most) in
    in_mem q (member_in (Words.row_of preds b) q h (contains_row preds b q h ∙ rows.preceded b q l h ∙ t)))

module _ {w : List ℕ} (good : WellFormed w) (b : ℕ) (l : b < blocks w) {preds : List ℕ} (rows : PredecessorRows w preds) (p : ℕ) (m : p ∈ Words.members (Words.row_of preds b)) where
  listed_in : p ∈ predecessors w b
  listed_in = mem_in p (predecessors w b) (sym (preds_listed good b l rows p) ∙ in_mem p m)

  pub listed_below : p < blocks w
  listed_below = predecessor_below good p b listed_in

  -- a position found among the inputs is one of the outputs of each predecessor
  pub moved_below : {new passing moved : List ℕ} → TakenInputs w b new passing moved → (k : ℕ) → k ∈ moved → k < length (outputs w p)
  moved_below parts k n =
      let i : k ∈ upto (length (inputs w b)) = (keep_out _ (upto (length (inputs w b))) (subst (λ (xs : List ℕ). k ∈ xs) parts.moves n)).0 in
      omega (arith, mem_upto k (length (inputs w b)) i, edge_length good p b listed_in)

-- a set is sent to the listed predecessors
pub sent_to : {w : List ℕ} → WellFormed w → (b : ℕ) → b < blocks w → {preds : List ℕ} → PredecessorRows w preds → {set passing moved ids exits exits' : List ℕ} {told : Bool}
    → ids ≡ Words.members (Words.row_of preds b) → TakenInputs w b set passing moved → Sends (blocks w) exits (λ q i. mem q ids && arrives w passing moved q i) exits' told
    → SentToPredecessors w b set exits exits' told
sent_to {w} good b l rows {passing = passing} {moved = moved} e parts s = record {
  passing = passing;
  moved = moved;
  taken = parts;
  sends = record {
    adds = adds_as (λ q i h. ap (λ (t : Bool). t && arrives w passing moved q i) (ap (mem q) e ∙ preds_listed good b l rows q)) s.adds;
    tells = s.tells;
  };
}

module _ {w : List ℕ} (good : WellFormed w) (b : ℕ) (l : b < blocks w) {uses defs exits sent new : List ℕ}
    (long : length exits ≡ 2048) (wide : length sent ≡ 2048) (on : SentOn w exits sent) (un : Unsent uses defs exits sent b new) (rows : BlockRows w uses defs) where
  -- nothing is new
  pub stepped_empty : is_empty new ≡ true → Stepped w (λ e. back w e b) exits exits sent false
  stepped_empty e =
      let z = empty_none new e in
      let nothing : Arrivals w b new (λ q i. false) = record { all = λ p v m h t. none (contains new v) t (z v h); only = λ p i m h t. none false t refl } in
      stepped good b l long un on nothing
      (adds_none (λ q i h. and-false (mem q (predecessors w b)))) rows wide
      (adds_none (λ r v h. ap (λ (t : Bool). eqb r b && t) (z v h) ∙ and-false (eqb r b)))
      (sym (same_grew (blocks w) exits exits (λ k h. refl)))

  pub stepped_sent : {sent' exits' : List ℕ} {told : Bool} → sent' ≡ row_union sent b new → SentToPredecessors w b new exits exits' told → Stepped w (λ e. back w e b) exits exits' sent' told
  stepped_sent e s = stepped good b l long un on (arrivals good l s.taken) s.sends.adds rows wide (rw e (adds_union sent b new)) s.sends.tells
