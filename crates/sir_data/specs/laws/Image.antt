-- Facts on an image that is accepted, by its pages or whole.
use Rattle.std.specs.Prelude.{◌≡◌, ℕ, ◌*◌, ◌%◌, ◌≤◌, not, List, [], ◌∷◌, ◌++◌, length, ◌==◌, nat_lt, refl}
use Rattle.std.proofs.Common.{arith, ltb-false, eqb-true}
use Rattle.std.proofs.lemmas.Bool.{eqb-false, not-false}
use Rattle.plank_core.specs.laws.Loops.{length_map_upto}
use Rattle.sir_data.specs.Pages.{pages, payload}
use Rattle.sir_data.specs.Rules.{first, page_rules, record_rules}
use Rattle.sir_data.specs.inner.WellFormed.{WellFormed}
use Rattle.sir_data.specs.laws.Rules.{by_later, by_earlier, first_left, first_right, kept}
use Rattle.sir_data.specs.laws.WellFormed.{ors_each, well_formed}

pub length_payload : (s : List ℕ) → length (payload s) ≡ 126 * pages s
unfolding payload
length_payload s = length_map_upto _ (126 * pages s)

-- ---- pages

module _ (s : List ℕ) where
  -- a page, and no more than 117
  pub pages_range : first (page_rules s) ≡ 0 → (1 ≤ pages s) × (pages s ≤ 117)
  pages_range h =
      let k = ors_each (length s == 0) (not (length s % 512 == 0) ∷ nat_lt 59904 (length s) ∷ []) (kept 1 (page_rules s) refl h) in
      let some = eqb-false (length s) 0 k.0 in
      let whole = eqb-true (length s % 512) 0 (not-false _ k.1.0) in
      let most = ltb-false 59904 (length s) k.1.1.0 in
      omega arith

  -- where the pages are in order the records decide
  pub by_records : first (page_rules s) ≡ 0 → first (page_rules s ++ record_rules (payload s)) ≡ first (record_rules (payload s))
  by_records = by_later (page_rules s) (record_rules (payload s)) refl

  -- and where they are not, the pages do
  pub by_pages : ¬ (first (page_rules s) ≡ 0) → first (page_rules s ++ record_rules (payload s)) ≡ first (page_rules s)
  by_pages = by_earlier (page_rules s) (record_rules (payload s)) refl

  -- an image that no rule of 1 to 11 refuses
  pub accepted : first (page_rules s ++ record_rules (payload s)) ≡ 0 → (first (page_rules s) ≡ 0) × WellFormed (payload s)
  accepted h =
      (first_left (page_rules s) (record_rules (payload s)) h, well_formed (payload s) (first_right (page_rules s) (record_rules (payload s)) refl h))
