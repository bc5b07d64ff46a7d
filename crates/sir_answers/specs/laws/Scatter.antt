-- Laws of putting pieces into the segments of their ids: where each cursor comes to stand, and what stands in the slice after all of them.
use Rattle.std.specs.Prelude.{◌≡◌, Bool, true, false, cond, ◌⊎◌, ◌≢◌, List, [], ◌∷◌, ◌++◌, reverse, get_or, take, drop, eqb}
use Rattle.std.proofs.Math.Path.{refl, sym}
use Rattle.std.proofs.Common.{ap, ap₂, ◌∙◌, ⊎_elim, inl, inr, append_assoc, append-nil, add-one, arith, length-drop, length-set, take-append-drop, take_at, drop_at, drop-drop, take-add, take_all, length-take-le, get_or-set_same, get_or-set_other, eq-eqb, eqb-true}
use mathlib.Core.List.Memᴰ
use Rattle.std.proofs.lemmas.List.{reverse-append, take-append-le, drop-append-le}
use Prim.Native.Nat.{ℕ, zero, suc, ◌+◌, ◌-◌, ◌*◌, ◌≤◌, ◌<◌}
use Rattle.std.proofs.Math.ListN.{length, length-append}
use Rattle.std.proofs.lemmas.Bool.{eqb-false}
use Rattle.plank_core.specs.Lists.{bind, upto}
use Rattle.plank_core.specs.laws.Lists.{split}
use Rattle.plank_core.specs.laws.Loops.{bind_append, upto_suc, bind_snoc}
use Rattle.sir_data.specs.Pages.{bytes_of}
use Rattle.sir_analyses.specs.inner.Writing.{words_put}
use Rattle.sir_analyses.specs.laws.Writing.{length_bytes, puts_length, puts_fit}
use Rattle.sir_answers.specs.inner.Scatter.{Pieces, pieces_of, Direction, forward, backward, in_order, moved, place, Inside, Segments, piece_put, scatter, Room, Below, base, origin, Stands, Placed, all_of}

-- ---- words that stand at a place of a slice

module _ (at : ℕ) (xs out : List ℕ) (h : 4 * (at + length xs) ≤ length out) where
  -- words put where there is room
  pub puts_at : words_put (length out) at xs out ≡ take (4 * at) out ++ (bind xs bytes_of ++ drop (4 * (at + length xs)) out)
  puts_at =
      let e : 4 * at + 4 * length xs ≡ 4 * (at + length xs) = omega arith in
      ap (words_put (length out) at xs) (sym (take-append-drop (4 * at) out))
      ∙ puts_fit (length out) at xs (take (4 * at) out) (drop (4 * at) out) (length-take-le (4 * at) out (omega arith)) (omega arith) (rw length-drop (omega arith))
      ∙ ap (λ (l : List ℕ). take (4 * at) out ++ (bind xs bytes_of ++ l)) (drop-drop (4 * length xs) (4 * at) out ∙ ap (λ (i : ℕ). drop i out) e)

  pub stands_put : Stands at xs (words_put (length out) at xs out)
  stands_put = record {
    within = rw (puts_length (length out) at xs out (omega arith)) h;
    bytes =
        ap (λ (l : List ℕ). take (4 * length xs) (drop (4 * at) l)) puts_at
        ∙ ap (take (4 * length xs)) (drop_at (take (4 * at) out) (bind xs bytes_of ++ drop (4 * (at + length xs)) out) (4 * at) (length-take-le (4 * at) out (omega arith)))
        ∙ take_at (bind xs bytes_of) (drop (4 * (at + length xs)) out) (4 * length xs) (length_bytes xs);
  }

  -- words that stand elsewhere
  pub stands_other : {q : ℕ} {ys : List ℕ} → (q + length ys ≤ at) ⊎ (at + length xs ≤ q) → Stands q ys out → Stands q ys (words_put (length out) at xs out)
  stands_other {q} {ys} o k = record {
    within = rw (puts_length (length out) at xs out (omega arith)) k.within;
    bytes = ap (λ (l : List ℕ). take (4 * length ys) (drop (4 * q) l)) puts_at ∙ ⊎_elim before after o ∙ k.bytes;
  }
    where
      front : (l : List ℕ) → q + length ys ≤ at → take (4 * length ys) (drop (4 * q) (take (4 * at) out ++ l)) ≡ take (4 * length ys) (drop (4 * q) (take (4 * at) out))
      front l m =
          let f : length (take (4 * at) out) ≡ 4 * at = length-take-le (4 * at) out (omega arith) in
          ap (take (4 * length ys)) (drop-append-le (4 * q) (take (4 * at) out) l (omega arith))
          ∙ take-append-le (4 * length ys) (drop (4 * q) (take (4 * at) out)) l (rw length-drop (omega arith))

      before : q + length ys ≤ at → take (4 * length ys) (drop (4 * q) (take (4 * at) out ++ (bind xs bytes_of ++ drop (4 * (at + length xs)) out))) ≡ take (4 * length ys) (drop (4 * q) out)
      before m = front (bind xs bytes_of ++ drop (4 * (at + length xs)) out) m ∙ sym (front (drop (4 * at) out) m) ∙ ap (λ (l : List ℕ). take (4 * length ys) (drop (4 * q) l)) (take-append-drop (4 * at) out)

      after : at + length xs ≤ q → take (4 * length ys) (drop (4 * q) (take (4 * at) out ++ (bind xs bytes_of ++ drop (4 * (at + length xs)) out))) ≡ take (4 * length ys) (drop (4 * q) out)
      after m =
          let n : ℕ = 4 * (at + length xs) in
          let r : ℕ = 4 * (q - (at + length xs)) in
          let e : n + r ≡ 4 * q = omega arith in
          let f : length (take (4 * at) out ++ bind xs bytes_of) ≡ n = length-append (take (4 * at) out) (bind xs bytes_of) ∙ omega (arith, length-take-le (4 * at) out (omega arith), length_bytes xs) in
          let g : drop (4 * q) (take (4 * at) out ++ (bind xs bytes_of ++ drop n out)) ≡ drop (4 * q) out =
          ap (λ (i : ℕ). drop i (take (4 * at) out ++ (bind xs bytes_of ++ drop n out))) (sym e)
          ∙ sym (drop-drop r n (take (4 * at) out ++ (bind xs bytes_of ++ drop n out)))
          ∙ ap (λ (l : List ℕ). drop r (drop n l)) (sym (append_assoc (take (4 * at) out) (bind xs bytes_of) (drop n out)))
          ∙ ap (drop r) (drop_at (take (4 * at) out ++ bind xs bytes_of) (drop n out) n f)
          ∙ drop-drop r n out
          ∙ ap (λ (i : ℕ). drop i out) e in
          ap (take (4 * length ys)) g

pub stands_join : {at q : ℕ} {xs ys out : List ℕ} → q ≡ at + length xs → Stands at xs out → Stands q ys out → Stands at (xs ++ ys) out
stands_join {at} {q} {xs} {ys} {out} e a b =
    let l : length (xs ++ ys) ≡ length xs + length ys = length-append xs ys in
    let m : 4 * length (xs ++ ys) ≡ 4 * length xs + 4 * length ys = omega arith in
    let n : 4 * at + 4 * length xs ≡ 4 * q = omega arith in
    record {
      within = omega (arith, b.within);
      bytes =
          ap (λ (i : ℕ). take i (drop (4 * at) out)) m
          ∙ take-add (4 * length xs) (4 * length ys) (drop (4 * at) out)
          ∙ ap₂ (λ a b. a ++ b) a.bytes (ap (take (4 * length ys)) (drop-drop (4 * length xs) (4 * at) out ∙ ap (λ (i : ℕ). drop i out) n) ∙ b.bytes)
          ∙ sym (bind_append bytes_of xs ys);
    }

-- ---- a cursor

-- past no words
pub moved_none : (d : Direction) (c : ℕ) → moved d c 0 ≡ c
moved_none forward c = omega arith
moved_none backward c = omega arith

moved_more : (d : Direction) (c n m : ℕ) → moved d (moved d c n) m ≡ moved d c (n + m)
moved_more forward c n m = omega arith
moved_more backward c n m = omega arith

inside_first : (d : Direction) (lo hi c n m : ℕ) → Inside d lo hi c (n + m) → Inside d lo hi c n
inside_first forward lo hi c n m h = omega arith
inside_first backward lo hi c n m h = omega arith

inside_rest : (d : Direction) (lo hi c n m : ℕ) → Inside d lo hi c (n + m) → Inside d lo hi (moved d c n) m
inside_rest forward lo hi c n m h = omega arith
inside_rest backward lo hi c n m h = omega arith

place_inside : (d : Direction) (lo hi c n : ℕ) → Inside d lo hi c n → (lo ≤ place d c n) × (place d c n + n ≤ hi)
place_inside forward lo hi c n h = omega arith
place_inside backward lo hi c n h = omega arith

-- ---- one piece

-- the words of a piece that are for v
abbrev own : ℕ → ℕ × List ℕ → List ℕ
own v p = cond (eqb p.0 v) p.1 []

module _ (d : Direction) (s : Segments) (p : ℕ × List ℕ) where
  cursor_put : (v : ℕ) → v < length s.cursors → get_or (piece_put d s p).cursors v 0 ≡ moved d (get_or s.cursors v 0) (length (own v p))
  cursor_put v h = go (eqb p.0 v) refl
    where
      go : (t : Bool) → eqb p.0 v ≡ t → get_or (piece_put d s p).cursors v 0 ≡ moved d (get_or s.cursors v 0) (length (cond t p.1 []))
      go true e = let i : p.0 ≡ v = eqb-true p.0 v e in rw (← i) (get_or-set_same s.cursors p.0 (moved d (get_or s.cursors p.0 0) (length p.1)) 0 (rw i h))
      go false e = get_or-set_other s.cursors p.0 v (moved d (get_or s.cursors p.0 0) (length p.1)) 0 (λ i. eqb-false p.0 v e (sym i)) ∙ sym (moved_none d (get_or s.cursors v 0))

  cursors_long : length (piece_put d s p).cursors ≡ length s.cursors
  cursors_long = length-set s.cursors p.0 (moved d (get_or s.cursors p.0 0) (length p.1))

  out_long : length (piece_put d s p).out ≡ length s.out
  out_long = puts_length (length s.out) (place d (get_or s.cursors p.0 0) (length p.1)) p.1 s.out (omega arith)

-- ---- some pieces, and more after them

pub pieces_append : (v : ℕ) (ps qs : Pieces) → pieces_of v (ps ++ qs) ≡ pieces_of v ps ++ pieces_of v qs
pieces_append v ps qs = bind_append (own v) ps qs

module _ (d : Direction) where
  pub scatter_cursors : (ps : Pieces) (s : Segments) → length (scatter d ps s).cursors ≡ length s.cursors
  scatter_cursors [] s = refl
  scatter_cursors (p ∷ ps) s = scatter_cursors ps (piece_put d s p) ∙ cursors_long d s p

  pub scatter_out : (ps : Pieces) (s : Segments) → length (scatter d ps s).out ≡ length s.out
  scatter_out [] s = refl
  scatter_out (p ∷ ps) s = scatter_out ps (piece_put d s p) ∙ out_long d s p

  -- a cursor moves past the words of its id
  pub cursor_after : (v : ℕ) (ps : Pieces) (s : Segments) → v < length s.cursors → get_or (scatter d ps s).cursors v 0 ≡ moved d (get_or s.cursors v 0) (length (pieces_of v ps))
  cursor_after v [] s h = sym (moved_none d (get_or s.cursors v 0))
  cursor_after v (p ∷ ps) s h =
      let c : ℕ = get_or s.cursors v 0 in
      cursor_after v ps (piece_put d s p) (rw (cursors_long d s p) h)
      ∙ ap (λ (i : ℕ). moved d i (length (pieces_of v ps))) (cursor_put d s p v h)
      ∙ moved_more d c (length (own v p)) (length (pieces_of v ps))
      ∙ ap (moved d c) (sym (length-append (own v p) (pieces_of v ps)))

  module _ {lo hi : ℕ → ℕ} where
    pub room_first : (ps qs : Pieces) {cs : List ℕ} → Room d lo hi (ps ++ qs) cs → Room d lo hi ps cs
    room_first ps qs {cs} r = record {
      inside = λ v h. inside_first d (lo v) (hi v) (get_or cs v 0) (length (pieces_of v ps)) (length (pieces_of v qs)) (rw (← length-append (pieces_of v ps) (pieces_of v qs), ← pieces_append v ps qs) (r.inside v h));
    }

    pub room_rest : (ps qs : Pieces) (s : Segments) → Room d lo hi (ps ++ qs) s.cursors → Room d lo hi qs (scatter d ps s).cursors
    room_rest ps qs s r = record {
      inside = λ v h.
          let l : v < length s.cursors = rw (← scatter_cursors ps s) h in
          rw (cursor_after v ps s l)
          (inside_rest d (lo v) (hi v) (get_or s.cursors v 0) (length (pieces_of v ps)) (length (pieces_of v qs)) (rw (← length-append (pieces_of v ps) (pieces_of v qs), ← pieces_append v ps qs) (r.inside v l)));
    }

-- ---- what stands in the slice after all pieces

-- a piece put at an end of what is there
abbrev joined : Direction → List ℕ → List ℕ → List ℕ
joined forward done xs = done ++ xs
joined backward done xs = xs ++ done

-- a cursor at the end of n words that start at a place, or at their start
abbrev Beside : Direction → ℕ → ℕ → ℕ → Type 0
Beside forward at n c = at + n ≡ c
Beside backward at n c = at ≡ c

joined_none : (d : Direction) (done : List ℕ) → joined d done [] ≡ done
joined_none forward done = append-nil done
joined_none backward done = refl

-- words stand at a cursor, between two bounds
record Filled (d : Direction) (lo hi c : ℕ) (done out : List ℕ) : Type 0 where
  at : ℕ
  low : lo ≤ at
  high : at + length done ≤ hi
  beside : Beside d at (length done) c
  stands : Stands at done out

filled_more : (d : Direction) {lo hi c : ℕ} {done out : List ℕ} (xs : List ℕ) → 4 * hi ≤ length out → Inside d lo hi c (length xs) → Filled d lo hi c done out
    → Filled d lo hi (moved d c (length xs)) (joined d done xs) (words_put (length out) (place d c (length xs)) xs out)
filled_more forward {lo} {hi} {c} {done} {out} xs l i k =
    let f : 4 * (c + length xs) ≤ length out = omega arith in
    let n : length (done ++ xs) ≡ length done + length xs = length-append done xs in
    record {
      at = k.at;
      low = k.low;
      high = omega (arith, k.beside);
      beside = omega (arith, k.beside);
      stands = stands_join (sym k.beside) (stands_other c xs out f (inl (omega (arith, k.beside))) k.stands) (stands_put c xs out f);
    }
filled_more backward {lo} {hi} {c} {done} {out} xs l i k =
    let f : 4 * (c - length xs + length xs) ≤ length out = omega arith in
    let n : length (xs ++ done) ≡ length xs + length done = length-append xs done in
    record {
      at = c - length xs;
      low = omega arith;
      high = omega (arith, k.beside, k.high);
      beside = refl;
      stands = stands_join (omega (arith, k.beside)) (stands_put (c - length xs) xs out f) (stands_other (c - length xs) xs out f (inr (omega (arith, k.beside))) k.stands);
    }

-- what is there for v after all pieces
abbrev collect : Direction → ℕ → List ℕ → Pieces → List ℕ
collect d v done [] = done
collect d v done (p ∷ ps) = collect d v (joined d done (own v p)) ps

-- pieces that can be put: for known ids, between the bounds of each, which lie in the slice
pub record Ready (d : Direction) (lo hi : ℕ → ℕ) (ps : Pieces) (s : Segments) : Type 0 where
  pub room : Room d lo hi ps s.cursors
  pub below : Below (length s.cursors) ps
  pub within : (u : ℕ) → u < length s.cursors → 4 * hi u ≤ length s.out

module _ (d : Direction) (lo hi : ℕ → ℕ) where
  module _ (p : ℕ × List ℕ) (ps : Pieces) (s : Segments) (r : Ready d lo hi (p ∷ ps) s) where
    ready_next : Ready d lo hi ps (piece_put d s p)
    ready_next = record {
      room = room_rest d (p ∷ []) ps s r.room;
      below = λ q m. rw (cursors_long d s p) (r.below q (Memᴰ.tail m));
      within = λ u h. rw (out_long d s p) (r.within u (rw (← cursors_long d s p) h));
    }

    known : p.0 < length s.cursors
    known = r.below p (Memᴰ.head refl)

    ready_first : Inside d (lo p.0) (hi p.0) (get_or s.cursors p.0 0) (length p.1)
    ready_first =
        let u : ℕ = p.0 in
        let e : own u p ≡ p.1 = rw (eq-eqb u u refl) in
        inside_first d (lo u) (hi u) (get_or s.cursors u 0) (length p.1) (length (pieces_of u ps)) (rw (← e, ← length-append (own u p) (pieces_of u ps)) (r.room.inside u known))

    -- a piece leaves alone what lies outside the segment of its id
    outside_put : {q : ℕ} {ys : List ℕ} → (q + length ys ≤ lo p.0) ⊎ (hi p.0 ≤ q) → Stands q ys s.out → Stands q ys (piece_put d s p).out
    outside_put {q} {ys} o k =
        let a : ℕ = place d (get_or s.cursors p.0 0) (length p.1) in
        let b = place_inside d (lo p.0) (hi p.0) (get_or s.cursors p.0 0) (length p.1) ready_first in
        stands_other a p.1 s.out (omega (arith, r.within p.0 known)) (⊎_elim (λ h. inl (omega arith)) (λ h. inr (omega arith)) o) k

  pub outside_all : {q : ℕ} {ys : List ℕ} (ps : Pieces) (s : Segments) → Ready d lo hi ps s → ((u : ℕ) → u < length s.cursors → (q + length ys ≤ lo u) ⊎ (hi u ≤ q)) → Stands q ys s.out → Stands q ys (scatter d ps s).out
  outside_all [] s r o k = k
  outside_all (p ∷ ps) s r o k = outside_all ps (piece_put d s p) (ready_next p ps s r) (λ u h. o u (rw (← cursors_long d s p) h)) (outside_put p ps s r (o p.0 (known p ps s r)) k)

  module _ (apart : (u v : ℕ) → u ≢ v → (hi u ≤ lo v) ⊎ (hi v ≤ lo u)) (v : ℕ) where
    filled_next : {done : List ℕ} (p : ℕ × List ℕ) (ps : Pieces) (s : Segments) → v < length s.cursors → Ready d lo hi (p ∷ ps) s → Filled d (lo v) (hi v) (get_or s.cursors v 0) done s.out
        → Filled d (lo v) (hi v) (get_or (piece_put d s p).cursors v 0) (joined d done (own v p)) (piece_put d s p).out
    filled_next {done} p ps s h r k = rw (cursor_put d s p v h) (go (eqb p.0 v) refl)
      where
        go : (t : Bool) → eqb p.0 v ≡ t → Filled d (lo v) (hi v) (moved d (get_or s.cursors v 0) (length (cond t p.1 []))) (joined d done (cond t p.1 [])) (piece_put d s p).out
        go true e =
            let i : p.0 ≡ v = eqb-true p.0 v e in
            let f : Filled d (lo p.0) (hi p.0) (get_or s.cursors p.0 0) done s.out = rw i k in
            rw (← i) (filled_more d p.1 (r.within p.0 (known p ps s r)) (ready_first p ps s r) f)
        go false e =
            let i : p.0 ≢ v = eqb-false p.0 v e in
            rw (moved_none d (get_or s.cursors v 0), joined_none d done)
            (record {
              at = k.at;
              low = k.low;
              high = k.high;
              beside = k.beside;
              stands = outside_put p ps s r (⊎_elim (λ a. inr (omega (arith, k.low))) (λ a. inl (omega (arith, k.high))) (apart p.0 v i)) k.stands;
            })

    filled_all : {done : List ℕ} (ps : Pieces) (s : Segments) → v < length s.cursors → Ready d lo hi ps s → Filled d (lo v) (hi v) (get_or s.cursors v 0) done s.out
        → Filled d (lo v) (hi v) (get_or (scatter d ps s).cursors v 0) (collect d v done ps) (scatter d ps s).out
    filled_all [] s h r k = k
    filled_all {done = done} (p ∷ ps) s h r k = filled_all {done = joined d done (own v p)} ps (piece_put d s p) (rw (cursors_long d s p) h) (ready_next p ps s r) (filled_next p ps s h r k)

-- ---- all segments are filled

pieces_reverse : (v : ℕ) (p : ℕ × List ℕ) (ps : Pieces) → pieces_of v (reverse (p ∷ ps)) ≡ pieces_of v (reverse ps) ++ own v p
pieces_reverse v p ps = ap (pieces_of v) (reverse-append (p ∷ []) ps) ∙ bind_snoc (own v) (reverse ps) p

collect_forward : (v : ℕ) (done : List ℕ) (ps : Pieces) → collect forward v done ps ≡ done ++ pieces_of v ps
collect_forward v done [] = sym (append-nil done)
collect_forward v done (p ∷ ps) = collect_forward v (done ++ own v p) ps ∙ append_assoc done (own v p) (pieces_of v ps)

collect_backward : (v : ℕ) (done : List ℕ) (ps : Pieces) → collect backward v done ps ≡ pieces_of v (reverse ps) ++ done
collect_backward v done [] = refl
collect_backward v done (p ∷ ps) = collect_backward v (own v p ++ done) ps ∙ sym (append_assoc (pieces_of v (reverse ps)) (own v p) done) ∙ ap (λ (l : List ℕ). l ++ done) (sym (pieces_reverse v p ps))

collect_is : (d : Direction) (v : ℕ) (ps : Pieces) → collect d v [] ps ≡ pieces_of v (in_order d ps)
collect_is forward v ps = collect_forward v [] ps
collect_is backward v ps = collect_backward v [] ps ∙ append-nil (pieces_of v (reverse ps))

-- an id has the same number of words, whichever way
pub length_in_order : (d : Direction) (v : ℕ) (ps : Pieces) → length (pieces_of v (in_order d ps)) ≡ length (pieces_of v ps)
length_in_order forward v ps = refl
length_in_order backward v ps = go ps
  where
    go : (qs : Pieces) → length (pieces_of v (reverse qs)) ≡ length (pieces_of v qs)
    go [] = refl
    go (q ∷ qs) = ap length (pieces_reverse v q qs) ∙ length-append (pieces_of v (reverse qs)) (own v q) ∙ omega (arith, go qs, length-append (own v q) (pieces_of v qs))

pub base_most : (f : ℕ → ℕ) (u v : ℕ) → u ≤ v → base f u ≤ base f v
unfolding base
base_most f u zero h = let e : u ≡ 0 = omega arith in rw e (omega arith)
base_most f u (suc v) h = ⊎_elim (λ (l : u < suc v). omega (arith, base_most f u v (omega arith))) (λ (l : suc v ≤ u). let e : u ≡ suc v = omega arith in rw e (omega arith)) (split u (suc v))

pub base_within : (f : ℕ → ℕ) (v n : ℕ) → v < n → base f v + 1 + f v ≤ base f n
unfolding base
base_within f v n h = base_most f (suc v) n h

pub base_next : (f : ℕ → ℕ) (v : ℕ) → base f (v + 1) ≡ base f v + 1 + f v
unfolding base
base_next f v = rw (add-one v)

module _ (f : ℕ → ℕ) (ans : ℕ → List ℕ) (n : ℕ) (h : (v : ℕ) → v < n → f v ≡ length (ans v)) where
  all_next : (k : ℕ) → all_of ans k ++ (length (ans k) ∷ ans k) ≡ all_of ans (suc k)
  all_next k = sym (ap (λ (u : List ℕ). bind u (λ v. length (ans v) ∷ ans v)) (upto_suc k) ∙ bind_snoc (λ v. length (ans v) ∷ ans v) (upto k) k)

  pub all_long : (k : ℕ) → k ≤ n → length (all_of ans k) ≡ base f k
  unfolding base
  all_long zero l = refl
  all_long (suc k) l =
      sym (ap length (all_next k))
      ∙ length-append (all_of ans k) (length (ans k) ∷ ans k)
      ∙ omega (arith, all_long k (omega arith), h k (omega arith))

  all_stand : (out : List ℕ) → ((v : ℕ) → v < n → Stands (base f v) (length (ans v) ∷ ans v) out) → (k : ℕ) → k ≤ n → Stands 0 (all_of ans k) out
  all_stand out s zero l = record { within = omega arith; bytes = refl }
  all_stand out s (suc k) l =
      rw (all_next k) at (stands_join (omega (arith, all_long k (omega arith))) (all_stand out s k (omega arith)) (s k (omega arith)))

-- the bounds of a segment, past its length word
abbrev low : (ℕ → ℕ) → ℕ → ℕ
low f v = base f v + 1

abbrev high : (ℕ → ℕ) → ℕ → ℕ
high f v = base f (suc v)

-- segments lie apart
segments_apart : (f : ℕ → ℕ) (u v : ℕ) → u ≢ v → (high f u ≤ low f v) ⊎ (high f v ≤ low f u)
segments_apart f u v n = ⊎_elim (λ h. inl (omega (arith, base_most f (suc u) v h))) (λ h. inr (omega (arith, base_most f (suc v) u (omega arith)))) (split u v)

origin_inside : (d : Direction) (f : ℕ → ℕ) (v : ℕ) → Inside d (low f v) (high f v) (origin d f v) (f v)
unfolding base
origin_inside forward f v = omega arith
origin_inside backward f v = omega arith

-- where a filled segment starts
filled_start : (d : Direction) (f : ℕ → ℕ) (v at : ℕ) → Beside d at (f v) (moved d (origin d f v) (f v)) → at ≡ low f v
unfolding base
filled_start forward f v at h = omega arith
filled_start backward f v at h = omega arith

origin_filled : (d : Direction) (f : ℕ → ℕ) (v : ℕ) (out : List ℕ) → 4 * high f v ≤ length out → Filled d (low f v) (high f v) (origin d f v) [] out
unfolding base
origin_filled forward f v out l = record { at = low f v; low = omega arith; high = omega arith; beside = omega arith; stands = record { within = omega arith; bytes = refl } }
origin_filled backward f v out l = record { at = high f v; low = omega arith; high = omega arith; beside = refl; stands = record { within = omega arith; bytes = refl } }

module _ (d : Direction) (f : ℕ → ℕ) (ans : ℕ → List ℕ) (ps : Pieces) (s : Segments) where
  module _ (known : Below (length s.cursors) ps) (answers : (v : ℕ) → v < length s.cursors → (f v ≡ length (ans v)) × (pieces_of v (in_order d ps) ≡ ans v))
      (placed : Placed d f (length s.cursors) s.cursors s.out) (long : length s.out ≡ 4 * base f (length s.cursors)) where
    words_many : (v : ℕ) → v < length s.cursors → length (pieces_of v ps) ≡ f v
    words_many v h = sym (length_in_order d v ps) ∙ ap length (answers v h).1 ∙ sym (answers v h).0

    ready : Ready d (low f) (high f) ps s
    ready = record {
      room = record { inside = λ v h. rw (placed.cursor_is v h, words_many v h) (origin_inside d f v) };
      below = known;
      within = λ u h. omega (arith, base_most f (suc u) (length s.cursors) h);
    }

    segment_stands : (v : ℕ) → v < length s.cursors → Stands (base f v) (length (ans v) ∷ ans v) (scatter d ps s).out
    segment_stands v h =
        let after : Segments = scatter d ps s in
        let k = filled_all d (low f) (high f) (segments_apart f) v {done = []} ps s h ready (rw (placed.cursor_is v h) (origin_filled d f v s.out (ready.within v h))) in
        let w : collect d v [] ps ≡ ans v = collect_is d v ps ∙ (answers v h).1 in
        let c : get_or after.cursors v 0 ≡ moved d (origin d f v) (f v) = cursor_after d v ps s h ∙ rw (placed.cursor_is v h, words_many v h) in
        let e : k.at ≡ low f v = filled_start d f v k.at (rw (w, c, ← (answers v h).0) at k.beside) in
        let o : Stands (base f v) (f v ∷ []) after.out =
        outside_all d (low f) (high f) ps s ready
        (λ u l. ⊎_elim (λ m. inr (omega (arith, base_most f (suc u) v m))) (λ m. inl (omega (arith, base_most f v u m))) (split u v))
        (placed.length_stands v h) in
        stands_join e (rw (answers v h).0 at o) (rw w at k.stands)

    -- the slice holds the answers of all ids, each after its length
    pub scattered : (scatter d ps s).out ≡ bind (all_of ans (length s.cursors)) bytes_of
    scattered =
        let n : ℕ = length s.cursors in
        let k = all_stand f ans n (λ v h. (answers v h).0) (scatter d ps s).out segment_stands n (omega arith) in
        let l : 4 * length (all_of ans n) ≡ length (scatter d ps s).out = omega (arith, all_long f ans n (λ v h. (answers v h).0) n (omega arith), scatter_out d ps s) in
        sym (take_all (4 * length (all_of ans n)) (scatter d ps s).out (omega arith)) ∙ k.bytes
