-- Allocations followed in turn: what the arrays show after each, and at the end.
use mathlib.Core.Path.{◌≡◌, refl, sym, ap, ◌∙◌}
use mathlib.Core.Bool.{true, false, not}
use mathlib.Core.List.{List}
use Prim.Native.Nat.{ℕ, suc, ◌+◌, ◌≤◌, ◌<◌}
use native.Mathlib.Omega.{arith}
use native.Mathlib.Numerals.{add-one}
use lib.ListN.{length, get_or, replicate, length-replicate, get_or-replicate}
use lib.Dec.{eqb}
use Rattle.plank_core.specs.Lists.{mem, ◌∈◌}
use Rattle.plank_core.specs.inner.DenseIndexSet.{row_of}
use Rattle.plank_core.specs.laws.Lists.{same_tests, mem_in, in_mem}
use Rattle.plank_core.specs.laws.DenseIndexSet.{contains_row}
use Rattle.plank_core.specs.laws.Members.{member_in, member_is}
use Rattle.sir_data.specs.Records.{locals}
use Rattle.sir_data.specs.inner.WellFormed.{WellFormed}
use Rattle.sir_analyses.specs.Allocation.{allocs, alloc_at, base, rule12, next, bases}
use Rattle.sir_analyses.specs.Flags.{flag_bits, flags_word}
use Rattle.sir_analyses.specs.inner.Pointers.{used_by, PointerRows}
use Rattle.sir_analyses.specs.inner.Following.{Machine, unflagged, Followed, none as nobody, next as another}
use Rattle.sir_analyses.specs.inner.Discovery.{Room, ShowsState, links_in, used_in, Propagated, Discovered}
use Rattle.sir_analyses.proofs.Tables.{cleared_long}
use Rattle.sir_analyses.proofs.SetLaws.{none_in}
use Rattle.sir_analyses.proofs.claims.marks.Marks.{next_less}
use Rattle.sir_analyses.proofs.claims.source.Steps.{zeros_most, start_length}
use Rattle.sir_analyses.proofs.claims.marks.Propagation.{followed_flags, followed_owners, followed_reach}
use Rattle.sir_analyses.proofs.claims.flags.Flags.{flag_rule}
use Rattle.sir_analyses.proofs.allocation_liveness.Discovery.{sites_most}

-- the arrays show a state after the first i allocations
pub record Turned (w links causes owner flags work : List ℕ) (i : ℕ) : Type 0 where
  pub room : Room owner flags work 0
  pub machine : Machine
  pub followed : Followed w (links_in links) (used_in causes) i machine
  pub shown : ShowsState owner flags work 0 machine
  pub wide : length machine.state.owner ≡ locals w
  pub count : length machine.state.marks ≡ length (allocs w)

module _ (w : List ℕ) (good : WellFormed w) (twelve : rule12 w ≡ false) {links causes : List ℕ} where
  pub turned_starts : {owner flags work : List ℕ} → ((v : ℕ) → v < locals w → get_or owner v 0 ≡ get_or (bases w) v 0) → ((v : ℕ) → get_or owner v 0 ≤ length (allocs w)) → length owner ≡ 512
      → flags ≡ replicate 512 0 → length work ≡ 513 → Turned w links causes owner flags work 0
  turned_starts {owner} {flags} {work} own most long clear wide = record {
    room = record {
      owner_long = long;
      flags_long = cleared_long flags 512 clear;
      work_long = wide;
      owner_small = λ v. omega (arith, most v, sites_most w good twelve);
      work_small = λ k h. absurd (omega arith);
      room = omega (arith, zeros_most owner);
    };
    machine = unflagged w;
    followed = nobody;
    shown = record {
      owner_is = λ v h. own v (omega (arith, start_length w));
      owner_known = λ v. rw length-replicate (most v);
      flags_are = λ x h. ap (λ (ws : List ℕ). get_or ws x 0) clear ∙ get_or-replicate 512 x 0 0 h ∙ sym (ap (flag_bits false false) (none_in (length (allocs w)) x));
      work_is = refl;
    };
    wide = start_length w;
    count = length-replicate (length (allocs w)) false;
  }

  module _ (rows : PointerRows w links causes) where
    used_exact : (cause u : ℕ) → cause < 2 → u < 512 → used_in causes u cause ≡ used_by w cause u
    used_exact cause u h l = rows.used cause u h l

    linked_in : (u x : ℕ) → u < 512 → x ∈ links_in links u → x ∈ next w u
    linked_in u x h m =
        let k = member_is (row_of links u) x m in
        mem_in x (next w u) (sym (rows.linked u x h k.0) ∙ sym (contains_row links u x k.0) ∙ k.1)

    links_exact : (u x : ℕ) → u < 512 → mem x (links_in links u) ≡ mem x (next w u)
    links_exact u x h = same_tests (mem x (links_in links u)) (mem x (next w u)) (λ t. in_mem x (linked_in u x h (mem_in x (links_in links u) t))) back
      where
        back : mem x (next w u) ≡ true → mem x (links_in links u) ≡ true
        back t =
            let l : x < 512 = omega (arith, next_less w good u x (mem_in x (next w u) t), good.sized.locals_most) in
            in_mem x (member_in (row_of links u) x l (contains_row links u x l ∙ rows.linked u x h l ∙ t))

    pub turned_more : {owner flags work owner' flags' work' : List ℕ} {i v : ℕ} → i < length (allocs w) → v ≡ base w (alloc_at w i) → Turned w links causes owner flags work i
        → Propagated links causes i v owner flags work owner' flags' work' → Turned w links causes owner' flags' work' (i + 1)
    turned_more {owner} {flags} {work} {owner'} {flags'} {work'} {i} {v} h e T P =
        let r = P.same T.machine (λ u x l m. rw T.wide (next_less w good u x (linked_in u x l m))) (rw T.count h) T.shown in
        record {
          room = P.room;
          machine = r.machine;
          followed = rw add-one (another T.followed (rw e at r.propagates));
          shown = r.shown;
          wide = r.width.owner_wide ∙ T.wide;
          count = r.width.marks_wide ∙ T.count;
        }

    pub turned_ends : {owner flags work : List ℕ} {i : ℕ} → i ≡ length (allocs w) → Turned w links causes owner flags work i → Discovered w owner flags
    turned_ends {owner} {flags} {work} {i} e T =
        let F : Followed w (links_in links) (used_in causes) (length (allocs w)) T.machine = rw e at T.followed in
        record {
          owner_is = λ v h. T.shown.owner_is v (rw T.wide h) ∙ ap (λ (o : List ℕ). get_or o v 0) (followed_owners w good twelve (links_in links) (used_in causes) links_exact used_exact F);
          owner_known = λ v. omega (arith, T.shown.owner_known v, T.count);
          flags_are = λ a h.
              let f : get_or flags a 0 ≡ flags_word w a = T.shown.flags_are a (omega (arith, sites_most w good twelve)) ∙ followed_flags w good twelve (links_in links) (used_in causes) links_exact used_exact F a h in
              record { word = f; mark = (flag_rule w good twelve).mark_flags a h ∙ ap (λ (k : ℕ). not (eqb k 0)) (sym f) };
          reach_is = λ a v h free l.
              followed_reach w good twelve (links_in links) (used_in causes) links_exact used_exact F a v h free
              ∙ ap (λ (k : ℕ). eqb k (suc a)) (sym (T.shown.owner_is v (rw T.wide l)));
        }
