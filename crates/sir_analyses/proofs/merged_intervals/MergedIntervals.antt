-- The sweep over words: the live set is kept whole, and met with the reach at each operation.
use mathlib.Core.Path.{◌≡◌, refl, sym, ap, ap₂, ◌∙◌}
use mathlib.Core.Bool.{Bool, true, false, not, ◌&&◌, ◌||◌, cond}
use mathlib.Core.List.{List, [], ◌∷◌, ◌++◌, foldr}
use Rattle.std.specs.Prelude.{Option, Some, None}
use Rattle.std.specs.Option.{option_or}
use borrow.Author.Tests.{ne_eqb}
use Rattle.sir_analyses.specs.inner.Scanning.{end_of, ending}
use Rattle.sir_analyses.proofs.local_intervals.Scanning.{ending_is}
use Prim.Native.Nat.{ℕ, zero, suc, ◌+◌, ◌-◌, ◌*◌, ◌≤◌, ◌<◌}
use native.Mathlib.Omega.{arith}
use native.Mathlib.Numerals.{add-one}
use lib.ListN.{length, take, drop, replicate, length-take, length-drop, drop_of_length-le}
use lib.Dec.{eqb}
use Rattle.plank_core.specs.Lists.{bind, keep, range, upto, mem, any}
use Rattle.plank_core.specs.laws.Lists.{and_true_left, and_true_right, both_true, same_tests, any_some, any_find}
use Rattle.plank_core.specs.laws.Loops.{range_all, bind_bind, lent_end}
use Rattle.plank_core.specs.inner.DenseIndexSet.{contains, meets}
use Rattle.plank_core.specs.inner.DenseIndexSet as Words
use Rattle.plank_core.specs.laws.DenseIndexSet.{contains_row, contains_cleared, set_union, set_difference, length_union, length_difference}
use Rattle.sir_data.specs.Records.{blocks, operations, locals, ops, ins, outs}
use Rattle.sir_data.specs.inner.WellFormed.{WellFormed}
use Rattle.sir_analyses.specs.Order.{is_visited}
use Rattle.sir_analyses.specs.Liveness.{Set, has, remove_all, end_reads, settled, exit_set, Interval, Scan, end_open, closing}
use Rattle.sir_analyses.specs.Answers.{interval_words}
use Rattle.sir_analyses.specs.inner.Writing.{Puts}
use Rattle.sir_analyses.specs.inner.Tables.{Same, SameRows, OperandRows, EndRows}
use Rattle.sir_analyses.specs.inner.Sweep.{meet, nonempty, live_before, shut, note, Sweep, sweep_end, sweep_op, sweep_block, sweep_from}
use Rattle.sir_analyses.proofs.answers.Writing.{Putting, putting_none, putting_as, putting_more, putting_all, puts_as, puts_long}
use Rattle.sir_analyses.proofs.SetLaws.{has_less, has_add_all, has_remove_all, length_remove_all}
use Rattle.sir_analyses.proofs.claims.liveness.GenKill.{length_through}
use Rattle.sir_analyses.proofs.claims.lifetimes.Scans.{live_in}
use Rattle.sir_analyses.proofs.claims.liveness.LivenessProof.{exit_size}
use Rattle.sir_analyses.proofs.merged_intervals.SweepProof.{has_meet, nonempty_has, has_nonempty, sweep_live, sweep_listed}
use Rattle.sir_analyses.proofs.predecessors.Edges.{visited_step, unvisited_step, visited_end}

-- ---- live sets in words

module _ (exits ends : List ℕ) (b : ℕ) (v : ℕ) (h : v < 512) where
  -- two rows joined to an empty set
  pub joined : contains (Words.row_union (Words.row_union (replicate 8 0) 0 (Words.row_of exits b)) 0 (Words.row_of ends b)) v ≡ (contains exits (512 * b + v) || contains ends (512 * b + v))
  joined =
      set_union (Words.row_union (replicate 8 0) 0 (Words.row_of exits b)) (Words.row_of ends b) v h (omega (arith, length_union (replicate 8 0) 0 (Words.row_of exits b)))
      ∙ rw (set_union (replicate 8 0) (Words.row_of exits b) v h (omega arith), contains_cleared 8 v, contains_row exits b v h, contains_row ends b v h)

module _ (reads writes : List ℕ) (o : ℕ) (live : List ℕ) (e : length live ≡ 8) (v : ℕ) (h : v < 512) where
  -- one row taken out of a set, and one joined to it
  pub exchanged : contains (Words.row_union (Words.row_difference live 0 (Words.row_of writes o)) 0 (Words.row_of reads o)) v ≡ ((contains live v && not (contains writes (512 * o + v))) || contains reads (512 * o + v))
  exchanged =
      set_union (Words.row_difference live 0 (Words.row_of writes o)) (Words.row_of reads o) v h (omega (arith, length_difference live 0 (Words.row_of writes o)))
      ∙ rw (set_difference live (Words.row_of writes o) v h (omega arith), contains_row writes o v h, contains_row reads o v h)

-- have the words a member in common exactly where the sets have one?
pub meets_live : (reach live : List ℕ) (s x : Set) → length s ≤ 512 → Same reach s → ((v : ℕ) → v < length s → contains live v ≡ has x v) → meets reach live ≡ nonempty (meet s x)
unfolding meets
meets_live reach live s x l e f = same_tests (any both (upto 512)) (nonempty (meet s x)) there back
  where
    both : ℕ → Bool
    both n = contains reach n && contains live n

    there : any both (upto 512) ≡ true → nonempty (meet s x) ≡ true
    there t =
        let r = any_find both 0 512 t in
        let n = r.0 in
        let a : has s n ≡ true = sym (e n r.2) ∙ and_true_left (contains reach n) (contains live n) r.3 in
        let c : has x n ≡ true = sym (f n (has_less s n a)) ∙ and_true_right (contains reach n) (contains live n) r.3 in
        has_nonempty (meet s x) n (has_meet s x n ∙ both_true (has s n) (has x n) a c)

    back : nonempty (meet s x) ≡ true → any both (upto 512) ≡ true
    back t =
        let r = nonempty_has (meet s x) t in
        let n = r.0 in
        let y : (has s n && has x n) ≡ true = sym (has_meet s x n) ∙ r.1 in
        let a : has s n ≡ true = and_true_left (has s n) (has x n) y in
        let k : n < length s = has_less s n a in
        let q : n < 512 = omega arith in
        any_some both 0 512 n (omega arith) (omega arith) (both_true (contains reach n) (contains live n) (e n q ∙ a) (f n k ∙ and_true_right (has s n) (has x n) y))

-- ---- one step of the definition

module _ (b o : ℕ) (t : Bool) (c : Scan) where
  pub note_till : (note b o t c).open' ≡ cond t (cond (eqb c.open' 0) (o + 1) c.open') 0
  note_till = go t ∙ ap (λ (k : ℕ). cond t (cond (eqb c.open' 0) k c.open') 0) (sym (add-one o))
    where
      go : (t : Bool) → (note b o t c).open' ≡ cond t (cond (eqb c.open' 0) (suc o) c.open') 0
      go true = refl
      go false = refl

-- the open end before an operation, and the end of the interval that it closes, as options
till_passed : (t : Bool) (o k : ℕ) → cond t (option_or (end_of k) (Some (o + 1))) None ≡ end_of (cond t (cond (eqb k 0) (o + 1) k) 0)
till_passed t o k = rw (add-one o) (go t k)
  where
    go : (t : Bool) (k : ℕ) → cond t (option_or (end_of k) (Some (suc o))) None ≡ end_of (cond t (cond (eqb k 0) (suc o) k) 0)
    go true zero = refl
    go true (suc k) = rw (ne_eqb (suc k) 0 (λ z. omega (arith, z)))
    go false k = refl

end_passed : (t : Bool) (k : ℕ) → cond t None (end_of k) ≡ end_of (cond t 0 k)
end_passed true k = refl
end_passed false k = refl

-- an interval that is closed goes in front
pub shut_words : (b from : ℕ) (c : Scan) → interval_words (shut b from c).closed ≡ interval_words (closing b from c.open') ++ interval_words c.closed
shut_words b from c = go (eqb c.open' 0)
  where
    go : (z : Bool) → interval_words (cond z [] (record { block = b; from = from; to = c.open' } ∷ []) ++ c.closed) ≡ interval_words (cond z [] (record { block = b; from = from; to = c.open' } ∷ [])) ++ interval_words c.closed
    go true = refl
    go false = refl

pub note_words : (b o : ℕ) (t : Bool) (c : Scan) → interval_words (note b o t c).closed ≡ interval_words (closing b (o + 1) (cond t 0 c.open')) ++ interval_words c.closed
note_words b o true c = refl
note_words b o false c = shut_words b (suc o) c ∙ ap (λ (k : ℕ). interval_words (closing b k c.open') ++ interval_words c.closed) (sym (add-one o))

-- ---- a block's operations backwards: `os` are done

abbrev swept : List ℕ → Set → ℕ → List ℕ → Sweep
swept w s b os = foldr (sweep_op w s b) (sweep_end w s b []) os

-- live has the locals live before os, till is the open end, and the words of run from n on are those of the intervals closed so far
pub record Sweeping (w reach : List ℕ) (b : ℕ) (os live run : List ℕ) (till : Option ℕ) (n : ℕ) : Type 0 where
  pub lives : (v : ℕ) → v < locals w → contains live v ≡ has (live_in w b os) v
  pub opened : (s : Set) → length s ≡ locals w → Same reach s → till ≡ end_of (swept w s b os).spans.open'
  pub written : (s : Set) → length s ≡ locals w → Same reach s → drop n run ≡ interval_words (swept w s b os).spans.closed

module _ {w : List ℕ} (good : WellFormed w) (b : ℕ) (below : b < blocks w) where
  -- the locals live after the operations, and before one more of them
  pub lives_none : (exits ends live : List ℕ) → SameRows exits (settled w).1 (blocks w) → EndRows w ends
      → ((v : ℕ) → v < 512 → contains live v ≡ (contains exits (512 * b + v) || contains ends (512 * b + v))) → (v : ℕ) → v < locals w → contains live v ≡ has (live_in w b []) v
  lives_none exits ends live x y f v h =
      let q : v < 512 = omega (arith, good.sized.locals_most) in
      f v q ∙ ap₂ (λ (p r : Bool). p || r) (x b v below q) (y.ended b v below q)
      ∙ sym (has_add_all (exit_set w b) (end_reads w b) v (omega (arith, exit_size w good b below)))

  pub lives_more : (os live : List ℕ) → ((v : ℕ) → v < locals w → contains live v ≡ has (live_in w b os) v) → (reads writes : List ℕ) (o : ℕ) → OperandRows w reads writes → o < operations w → (live' : List ℕ)
      → ((v : ℕ) → v < 512 → contains live' v ≡ ((contains live v && not (contains writes (512 * o + v))) || contains reads (512 * o + v))) → (v : ℕ) → v < locals w → contains live' v ≡ has (live_in w b (o ∷ os)) v
  lives_more os live g reads writes o rows l live' f v h =
      let k : v < 512 = omega (arith, good.sized.locals_most) in
      let x = live_in w b os in
      let a : v < length x = omega (arith, length_through w (end_reads w b) os (exit_set w b), exit_size w good b below) in
      let d : v < length (remove_all x (outs w o)) = omega (arith, length_remove_all x (outs w o)) in
      f v k ∙ rw (g v h, rows.written o v l k, rows.read o v l k)
      (sym (has_add_all (remove_all x (outs w o)) (ins w o) v d ∙ ap (λ (m : Bool). m || mem v (ins w o)) (has_remove_all x (outs w o) v a)))

module _ {w : List ℕ} (reach : List ℕ) (good : WellFormed w) (b : ℕ) (below : b < blocks w) where
  -- is a local of the reach live?
  pub live_test : (os live : List ℕ) → ((v : ℕ) → v < locals w → contains live v ≡ has (live_in w b os) v) → (s : Set) → length s ≡ locals w → Same reach s → meets reach live ≡ nonempty (swept w s b os).live
  live_test os live f s e same =
      meets_live reach live s (live_in w b os) (omega (arith, good.sized.locals_most)) same (λ v h. f v (omega arith))
      ∙ ap nonempty (sym (sweep_live w b s (e ∙ sym (exit_size w good b below)) os))

  pub sweeping_starts : (exits ends : List ℕ) {os live run : List ℕ} {till : Option ℕ} {n : ℕ} → SameRows exits (settled w).1 (blocks w) → EndRows w ends
      → ((v : ℕ) → v < 512 → contains live v ≡ (contains exits (512 * b + v) || contains ends (512 * b + v)))
      → till ≡ end_of (end_open (meets reach live)) → length run ≤ n → os ≡ [] → Sweeping w reach b os live run till n
  sweeping_starts exits ends {live = live} {run = run} {n = n} x y f t l e = rw e (record {
    lives = lives';
    opened = λ s k same. t ∙ ap (λ (z : Bool). end_of (end_open z)) (live_test [] live lives' s k same);
    written = λ s k same. drop_of_length-le run {i = n} l;
  })
    where
      lives' : (v : ℕ) → v < locals w → contains live v ≡ has (live_in w b []) v
      lives' = lives_none good b below exits ends live x y f

  module _ {os live run : List ℕ} {till : Option ℕ} {n : ℕ} (g : Sweeping w reach b os live run till n) where
    pub sweeping_more : (reads writes : List ℕ) (o : ℕ) → OperandRows w reads writes → o < operations w → (live' run' : List ℕ) {t : Bool} {next closed : Option ℕ} {r : ℕ}
        → ((v : ℕ) → v < 512 → contains live' v ≡ ((contains live v && not (contains writes (512 * o + v))) || contains reads (512 * o + v)))
        → t ≡ meets reach live' → next ≡ cond t (option_or till (Some (o + 1))) None → closed ≡ cond t None till
        → drop r run' ≡ interval_words (ending b (o + 1) closed) ++ drop n run
        → Sweeping w reach b (o ∷ os) live' run' next r
    sweeping_more reads writes o rows l live' run' {closed = closed} f m p q t = record {
      lives = lives';
      opened = λ s e same.
          let c = swept w s b os in
          p ∙ rw (m ∙ live_test (o ∷ os) live' lives' s e same, g.opened s e same) (till_passed (nonempty (live_before w s o c.live)) o c.spans.open') ∙ ap end_of (sym (note_till b o (nonempty (live_before w s o c.live)) c.spans));
      written = λ s e same.
          let c = swept w s b os in
          let to : ℕ = cond (nonempty (live_before w s o c.live)) 0 c.spans.open' in
          let z : closed ≡ end_of to = q ∙ ap₂ (λ (x : Bool) (u : Option ℕ). cond x None u) (m ∙ live_test (o ∷ os) live' lives' s e same) (g.opened s e same) ∙ end_passed (nonempty (live_before w s o c.live)) c.spans.open' in
          t ∙ ap₂ (λ (is : List Interval) (xs : List ℕ). interval_words is ++ xs) (ap (ending b (o + 1)) z ∙ ending_is b (o + 1) to) (g.written s e same) ∙ sym (note_words b o (nonempty (live_before w s o c.live)) c.spans);
    }
      where
        lives' : (v : ℕ) → v < locals w → contains live' v ≡ has (live_in w b (o ∷ os)) v
        lives' = lives_more good b below os live g.lives reads writes o rows l live' f

    pub sweeping_ends : os ≡ ops w b → (run' : List ℕ) (r : ℕ) → drop r run' ≡ interval_words (ending b 0 till) ++ drop n run
        → (s : Set) → length s ≡ locals w → Same reach s → drop r run' ≡ interval_words (sweep_block w s b [])
    sweeping_ends k run' r t s e same =
        t ∙ ap₂ (λ (is : List Interval) (xs : List ℕ). interval_words is ++ xs) (ap (ending b 0) (g.opened s e same) ∙ ending_is b 0 (swept w s b os).spans.open') (g.written s e same)
        ∙ sym (shut_words b 0 (swept w s b os).spans) ∙ ap (λ (ps : List ℕ). interval_words (shut b 0 (swept w s b ps).spans).closed) k

-- ---- the blocks in turn

module _ (w : List ℕ) (s : Set) where
  abbrev in_block : ℕ → List ℕ
  in_block b = interval_words (sweep_block w s b [])

  -- the words of the blocks from b on
  abbrev pub blocks_left : ℕ → List ℕ
  blocks_left b = bind (keep (is_visited w) (range b (blocks w))) in_block

  pub left_all : interval_words (sweep_from w s (upto (blocks w))) ≡ blocks_left 0
  left_all =
      ap interval_words (sweep_listed w s 0 (blocks w)) ∙ bind_bind (λ b. sweep_block w s b []) (λ i. i.block ∷ i.from ∷ i.to ∷ []) (keep (is_visited w) (upto (blocks w)))
      ∙ ap (λ (bs : List ℕ). bind (keep (is_visited w) bs) in_block) (sym (range_all (blocks w)))

-- what is lent of an array from r on
pub lent_most : (run : List ℕ) (k r : ℕ) → length run ≡ k → length (take (k - r) (drop r run)) ≤ k
lent_most run k r e = omega (arith, length-take (k - r) (drop r run), length-drop r run)

-- the blocks below b are put, the others are to come
pub record Populating (w reach : List ℕ) (n : ℕ) (out₀ : List ℕ) (b : ℕ) (out : List ℕ) (m : ℕ) : Type 0 where
  pub long : length out ≡ length out₀
  pub few : m ≤ n + 3075 * b
  pub puts : (s : Set) → length s ≡ locals w → Same reach s → Putting n (interval_words (sweep_from w s (upto (blocks w)))) out₀ (blocks_left w s b) out m

pub populating_none : {w reach : List ℕ} {n : ℕ} {out : List ℕ} → Populating w reach n out 0 out n
populating_none {w} = record { long = refl; few = omega arith; puts = λ s e same. putting_as (left_all w s) putting_none }

module _ {w reach : List ℕ} {n : ℕ} {out₀ : List ℕ} {b : ℕ} {out : List ℕ} {m : ℕ} (g : Populating w reach n out₀ b out m) where
  pub populating_more : b < blocks w → is_visited w b ≡ true → (run : List ℕ) (r : ℕ) → length run ≡ 3075
      → ((s : Set) → length s ≡ locals w → Same reach s → drop r run ≡ interval_words (sweep_block w s b []))
      → {out' : List ℕ} {m' : ℕ} → Puts m (take (3075 - r) (drop r run)) out out' m' → Populating w reach n out₀ (b + 1) out' m'
  populating_more l t run r k f {out'} p =
      let a : length (take (3075 - r) (drop r run)) ≤ 3075 = lent_most run 3075 r k in
      record {
        long = puts_long p ∙ g.long;
        few = omega (arith, p.next, g.few);
        puts = λ s e same. putting_more (putting_as (visited_step w (in_block w s) b (blocks w) l t) (g.puts s e same)) (puts_as (ap (λ (n : ℕ). take (n - r) (drop r run)) (sym k) ∙ lent_end r run ∙ f s e same) p);
      }

  pub populating_on : b < blocks w → is_visited w b ≡ false → Populating w reach n out₀ (b + 1) out m
  populating_on l t = record { long = g.long; few = omega (arith, g.few); puts = λ s e same. putting_as (unvisited_step w (in_block w s) b (blocks w) l t) (g.puts s e same) }

  pub populating_all : blocks w ≤ b → (s : Set) → length s ≡ locals w → Same reach s → Puts n (interval_words (sweep_from w s (upto (blocks w)))) out₀ out m
  populating_all l s e same = putting_all (visited_end w (in_block w s) b (blocks w) l) (g.puts s e same)
