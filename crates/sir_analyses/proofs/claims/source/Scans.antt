-- The source's `compute_intervals`, which scans a block for all locals at once, gives each local the intervals of its own scans.
use mathlib.Core.Path.{◌≡◌, refl, sym, ap, ◌∙◌, subst}
use mathlib.Core.Logic.{◌≢◌}
use mathlib.Core.Bool.{Bool, true, false, ◌&&◌, ◌||◌, cond}
use Prim.Native.Nat.{ℕ, suc, ◌<◌}
use native.Mathlib.Omega.{arith}
use mathlib.Core.List.{List, [], ◌∷◌, ◌++◌, foldr, reverse, append-nil, append_assoc}
use lib.ListN.{length, get_or, set, replicate, length-set, length-replicate, get_or-replicate}
use lib.Seq.{get_or-set_same, get_or-set_other}
use lib.Dec.{eqb}
use borrow.Author.Tests.{eqb-true, eqb-false, eq-eqb, ne_eqb}
use Rattle.plank_core.specs.Lists.{foldl, bind, mem, upto}
use Rattle.plank_core.specs.laws.Lists.{same_tests, upto_mem, in_mem, mem_in}
use Rattle.plank_core.specs.laws.Loops.{bind_same}
use Rattle.sir_data.specs.Records.{locals, ops, ins, outs}
use Rattle.sir_analyses.specs.Order.{blocks_rpo}
use Rattle.sir_analyses.specs.Liveness.{Set, has, members, end_reads, row_of, exit_set, Interval, block_end, Scan, end_open, closing, close, scan_op, block_intervals, intervals}
use Rattle.sir_analyses.specs.SourceUses.{push}
use Rattle.sir_analyses.specs.SourceLiveness.{Ends, end_at_block_end, remove_end, end_at_operation, intervals_at_op, intervals_at_block, source_live, source_local_intervals}
use Rattle.sir_analyses.proofs.SetLaws.{members_in, members_out}
use Rattle.sir_analyses.proofs.claims.source.Tables.{list_of, push_list, push_tall}
use Rattle.plank_core.specs.laws.Folds.{foldl_reverse}
use Rattle.sir_analyses.proofs.local_intervals.Scanning.{end_either}

-- the scan of v alone has come to c, after the intervals `before`
pub record Follows (v : ℕ) (before : List Interval) (c : Scan) (s : Ends) : Type 0 where
  pub wide : v < length s.ends
  pub tall : v < length s.found
  pub end : get_or s.ends v 0 ≡ c.open'
  pub list : list_of s.found v ≡ before ++ c.closed

module _ (v : ℕ) (before : List Interval) where
  abbrev pub Here : Scan → Ends → Type 0
  Here = Follows v before

  -- ---- one end changes

  other_end : (u x : ℕ) (c : Scan) (s : Ends) → v ≢ u → Here c s → Here c (record { ends = set s.ends u x; found = s.found })
  other_end u x c s n h = record {
    wide = subst (λ (k : ℕ). v < k) (sym (length-set s.ends u x)) h.wide;
    tall = h.tall;
    end = get_or-set_other s.ends u v x 0 n ∙ h.end;
    list = h.list;
  }

  this_end : (x : ℕ) (c : Scan) (s : Ends) → Here c s → Here (record { open' = x; closed = c.closed }) (record { ends = set s.ends v x; found = s.found })
  this_end x c s h = record {
    wide = subst (λ (k : ℕ). v < k) (sym (length-set s.ends v x)) h.wide;
    tall = h.tall;
    end = get_or-set_same s.ends v x 0 h.wide;
    list = h.list;
  }

  -- ---- `remove`

  module _ (b from : ℕ) where
    abbrev removed : Ends → ℕ → Ends
    removed s u = record { ends = set s.ends u 0; found = push s.found u (record { block = b; from = from; to = get_or s.ends u 0 }) }

    remove_other : (u : ℕ) (c : Scan) (s : Ends) → v ≢ u → Here c s → Here c (remove_end b from s u)
    remove_other u c s n h = go (eqb (get_or s.ends u 0) 0)
      where
        i : Interval
        i = record { block = b; from = from; to = get_or s.ends u 0 }

        go : (t : Bool) → Here c (cond t s (removed s u))
        go true = h
        go false = record {
          wide = (other_end u 0 c s n h).wide;
          tall = subst (λ (k : ℕ). v < k) (sym (push_tall v s.found u i)) h.tall;
          end = (other_end u 0 c s n h).end;
          list =
              push_list v s.found u i h.tall
              ∙ ap (λ (t : Bool). list_of s.found v ++ cond t (i ∷ []) []) (ne_eqb u v (λ q. n (sym q))) ∙ append-nil (list_of s.found v) ∙ h.list;
        }

    remove_this : (c : Scan) (s : Ends) → Here c s → Here (close b from c) (remove_end b from s v)
    remove_this c s h = go (eqb (get_or s.ends v 0) 0) refl
      where
        i : Interval
        i = record { block = b; from = from; to = get_or s.ends v 0 }

        go : (t : Bool) → eqb (get_or s.ends v 0) 0 ≡ t → Here (close b from c) (cond t s (removed s v))
        go true e =
            let z : c.open' ≡ 0 = sym h.end ∙ eqb-true (get_or s.ends v 0) 0 e in
            record {
              wide = h.wide;
              tall = h.tall;
              end = h.end ∙ z;
              list = h.list ∙ ap (λ (l : List Interval). before ++ l) (sym (append-nil c.closed) ∙ ap (λ (l : List Interval). c.closed ++ l) (sym (rw z)));
            }
        go false e = record {
          wide = (this_end 0 c s h).wide;
          tall = subst (λ (k : ℕ). v < k) (sym (push_tall v s.found v i)) h.tall;
          end = (this_end 0 c s h).end;
          list =
              push_list v s.found v i h.tall
              ∙ ap (λ (t : Bool). list_of s.found v ++ cond t (i ∷ []) []) (eq-eqb v v refl)
              ∙ ap (λ (l : List Interval). l ++ (i ∷ [])) h.list ∙ append_assoc before c.closed (i ∷ [])
              ∙ ap (λ (l : List Interval). before ++ (c.closed ++ l)) (shut c.open' (sym h.end) e);
        }
          where
            shut : (n : ℕ) → n ≡ get_or s.ends v 0 → eqb (get_or s.ends v 0) 0 ≡ false → (i ∷ []) ≡ closing b from n
            shut n q e = rw (q, e)

    close_twice : (c : Scan) → close b from (close b from c) ≡ close b from c
    close_twice c = ap (λ (l : List Interval). record { open' = 0; closed = l }) (append-nil (c.closed ++ closing b from c.open'))

    pub removes : (xs : List ℕ) (c : Scan) (s : Ends) → Here c s → Here (cond (mem v xs) (close b from c) c) (foldl (remove_end b from) s xs)
    removes [] c s h = h
    removes (x ∷ xs) c s h = go (eqb v x) refl (removes xs)
      where
        again : (t : Bool) (s' : Ends) → Here (cond t (close b from (close b from c)) (close b from c)) s' → Here (close b from c) s'
        again true s' k = rw close_twice at k
        again false s' k = k

        go : (t : Bool) → eqb v x ≡ t → ((d : Scan) (r : Ends) → Here d r → Here (cond (mem v xs) (close b from d) d) (foldl (remove_end b from) r xs))
            → Here (cond (t || mem v xs) (close b from c) c) (foldl (remove_end b from) (remove_end b from s x) xs)
        go true e rest =
            again (mem v xs) (foldl (remove_end b from) (remove_end b from s x) xs)
            (rest (close b from c) (remove_end b from s x) (subst (λ (u : ℕ). Here (close b from c) (remove_end b from s u)) (eqb-true v x e) (remove_this c s h)))
        go false e rest = rest c (remove_end b from s x) (remove_other x c s (eqb-false v x e) h)

  -- ---- `or_insert`

  module _ (o : ℕ) where
    abbrev opened : Bool → Scan → Scan
    opened t c = cond (t && eqb c.open' 0) (record { open' = suc o; closed = c.closed }) c

    open_other : (u : ℕ) (c : Scan) (s : Ends) → v ≢ u → Here c s → Here c (end_at_operation o s u)
    open_other u c s n h = go (eqb (get_or s.ends u 0) 0)
      where
        go : (t : Bool) → Here c (cond t (record { ends = set s.ends u (suc o); found = s.found }) s)
        go true = other_end u (suc o) c s n h
        go false = h

    open_this : (c : Scan) (s : Ends) → Here c s → Here (opened true c) (end_at_operation o s v)
    open_this c s h = rw h.end (go (eqb c.open' 0))
      where
        go : (t : Bool) → Here (cond t (record { open' = suc o; closed = c.closed }) c) (cond t (record { ends = set s.ends v (suc o); found = s.found }) s)
        go true = this_end (suc o) c s h
        go false = h

    open_twice : (t : Bool) (c : Scan) → opened t (opened true c) ≡ opened true c
    open_twice true c = go (eqb c.open' 0) refl
      where
        go : (z : Bool) → eqb c.open' 0 ≡ z → opened true (cond z (record { open' = suc o; closed = c.closed }) c) ≡ cond z (record { open' = suc o; closed = c.closed }) c
        go true e = rw (ne_eqb (suc o) 0 (λ q. omega arith))
        go false e = rw e
    open_twice false c = refl

    opens : (xs : List ℕ) (c : Scan) (s : Ends) → Here c s → Here (opened (mem v xs) c) (foldl (end_at_operation o) s xs)
    opens [] c s h = h
    opens (x ∷ xs) c s h = go (eqb v x) refl (opens xs)
      where
        go : (t : Bool) → eqb v x ≡ t → ((d : Scan) (r : Ends) → Here d r → Here (opened (mem v xs) d) (foldl (end_at_operation o) r xs))
            → Here (opened (t || mem v xs) c) (foldl (end_at_operation o) (end_at_operation o s x) xs)
        go true e rest =
            subst (λ (d : Scan). Here d (foldl (end_at_operation o) (end_at_operation o s x) xs)) (open_twice (mem v xs) c)
            (rest (opened true c) (end_at_operation o s x) (subst (λ (u : ℕ). Here (opened true c) (end_at_operation o s u)) (eqb-true v x e) (open_this c s h)))
        go false e rest = rest c (end_at_operation o s x) (open_other x c s (eqb-false v x e) h)

  -- ---- a block

  module _ (w : List ℕ) (b : ℕ) where
    scan_ops : (os : List ℕ) (c : Scan) (s : Ends) → Here c s → Here (foldr (scan_op w b v) c os) (foldr (λ o t. intervals_at_op w b t o) s os)
    scan_ops [] c s h = h
    scan_ops (o ∷ os) c s h =
        let d = foldr (scan_op w b v) c os in
        let t = foldr (λ o t. intervals_at_op w b t o) s os in
        opens o (ins w o) (cond (mem v (outs w o)) (close b (suc o) d) d) (foldl (remove_end b (suc o)) t (outs w o)) (removes b (suc o) (outs w o) d t (scan_ops os c s h))

pub ends_at : (v : ℕ) (xs ends : List ℕ) → v < length ends → (get_or (end_at_block_end ends xs) v 0 ≡ cond (mem v xs) block_end (get_or ends v 0)) × (length (end_at_block_end ends xs) ≡ length ends)
ends_at v [] ends l = (refl, refl)
ends_at v (x ∷ xs) ends l =
    let k : v < length (set ends x block_end) = subst (λ (n : ℕ). v < n) (sym (length-set ends x block_end)) l in
    let r = ends_at v xs (set ends x block_end) k in (r.0 ∙ go (eqb v x) refl (mem v xs), r.1 ∙ length-set ends x block_end)
  where
    go : (t : Bool) → eqb v x ≡ t → (m : Bool) → cond m block_end (get_or (set ends x block_end) v 0) ≡ cond (t || m) block_end (get_or ends v 0)
    go true e true = refl
    go true e false = subst (λ (u : ℕ). get_or (set ends u block_end) v 0 ≡ block_end) (eqb-true v x e) (get_or-set_same ends v block_end 0 l)
    go false e true = refl
    go false e false = get_or-set_other ends x v block_end 0 (eqb-false v x e)

mem_members : (s : Set) (v : ℕ) → mem v (members s) ≡ has s v
mem_members s v = same_tests (mem v (members s)) (has s v) (λ t. members_out s (mem_in v (members s) t)) (λ t. in_mem v (members_in s v t))

module _ (w : List ℕ) (exits : List Set) (v : ℕ) (below : v < locals w) where
  abbrev none_open : Scan
  none_open = record { open' = 0; closed = [] }

  block_scans : (b : ℕ) (before : List Interval) (s : Ends) → Follows v before none_open s
      → Follows v (before ++ block_intervals w (row_of exits b) v b) none_open (intervals_at_block w exits s b)
  block_scans b before s h = record {
    wide = done.wide;
    tall = done.tall;
    end = done.end;
    list = done.list ∙ sym (append-nil (before ++ block_intervals w (row_of exits b) v b));
  }
    where
      live : List ℕ
      live = members (row_of exits b)

      first : (get_or (end_at_block_end s.ends live) v 0 ≡ cond (mem v live) block_end (get_or s.ends v 0)) × (length (end_at_block_end s.ends live) ≡ length s.ends)
      first = ends_at v live s.ends h.wide

      wide : v < length (end_at_block_end s.ends live)
      wide = subst (λ (n : ℕ). v < n) (sym first.1) h.wide

      ends : List ℕ
      ends = end_at_block_end (end_at_block_end s.ends live) (end_reads w b)

      second : (get_or ends v 0 ≡ cond (mem v (end_reads w b)) block_end (get_or (end_at_block_end s.ends live) v 0)) × (length ends ≡ length (end_at_block_end s.ends live))
      second = ends_at v (end_reads w b) (end_at_block_end s.ends live) wide

      behind : Scan
      behind = record { open' = end_open (has (row_of exits b) v || mem v (end_reads w b)); closed = [] }

      opened : Ends
      opened = record { ends = ends; found = s.found }

      begun : Follows v before behind opened
      begun = record {
        wide = subst (λ (n : ℕ). v < n) (sym second.1) wide;
        tall = h.tall;
        end =
            second.0 ∙ ap (λ (n : ℕ). cond (mem v (end_reads w b)) block_end n) (first.0 ∙ ap (λ (n : ℕ). cond (mem v live) block_end n) h.end)
            ∙ end_either (mem v live) (mem v (end_reads w b)) ∙ ap (λ (t : Bool). end_open (t || mem v (end_reads w b))) (mem_members (row_of exits b) v);
        list = h.list;
      }

      through : Ends
      through = foldl (intervals_at_op w b) opened (reverse (ops w b))

      scanned : Follows v before (foldr (scan_op w b v) behind (ops w b)) through
      scanned = subst (Follows v before (foldr (scan_op w b v) behind (ops w b))) (sym (foldl_reverse (intervals_at_op w b) opened (ops w b))) (scan_ops v before w b (ops w b) behind opened begun)

      all : mem v (upto (locals w)) ≡ true
      all = in_mem v (upto_mem v (locals w) below)

      done : Follows v before (close b 0 (foldr (scan_op w b v) behind (ops w b))) (foldl (remove_end b 0) through (upto (locals w)))
      done =
          let c = foldr (scan_op w b v) behind (ops w b) in
          subst (λ (t : Bool). Follows v before (cond t (close b 0 c) c) (foldl (remove_end b 0) through (upto (locals w)))) all
          (removes v before b 0 (upto (locals w)) c through scanned)

  blocks_scan : (bs : List ℕ) (before : List Interval) (s : Ends) → Follows v before none_open s
      → list_of (foldl (intervals_at_block w exits) s bs).found v ≡ before ++ bind bs (λ b. block_intervals w (row_of exits b) v b)
  blocks_scan [] before s h = h.list
  blocks_scan (b ∷ bs) before s h =
      blocks_scan bs (before ++ block_intervals w (row_of exits b) v b) (intervals_at_block w exits s b) (block_scans b before s h)
      ∙ append_assoc before (block_intervals w (row_of exits b) v b) (bind bs (λ c. block_intervals w (row_of exits c) v c))

pub source_local_intervals_lem : (w : List ℕ) → ((b : ℕ) → row_of (source_live w).exits b ≡ exit_set w b) → (v : ℕ) → v < locals w → source_local_intervals w v ≡ intervals w v
source_local_intervals_lem w same v l =
    let start : Ends = record { ends = replicate (locals w) 0; found = replicate (locals w) [] } in
    blocks_scan w (source_live w).exits v l (blocks_rpo w) [] start
    (record {
      wide = subst (λ (n : ℕ). v < n) (sym (length-replicate (locals w) 0)) l;
      tall = subst (λ (n : ℕ). v < n) (sym (length-replicate (locals w) [])) l;
      end = get_or-replicate (locals w) v 0 0 l;
      list = get_or-replicate (locals w) v [] [] l;
    })
    ∙ bind_same (λ b. block_intervals w (row_of (source_live w).exits b) v b) (λ b. block_intervals w (exit_set w b) v b) (blocks_rpo w) (λ b. ap (λ (x : Set). block_intervals w x v b) (same b))
