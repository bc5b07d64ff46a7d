-- The rule of a table, proved at all of its entries by one test that antt computes: that two
-- lists of values are the same. A table that is written out computes to such a list.
use Rattle.std.specs.Prelude.{◌≡◌, List, map, ℕ, ◌<◌, get_or}
use Rattle.std.proofs.Common.{sym, ap, ◌∙◌}
use Rattle.plank_core.specs.Lists.{upto}
use Rattle.plank_core.specs.laws.Loops.{get_or_map_upto}

module _ {A : Type 0} where
  -- two functions whose first n values are one list
  pub agree : (f g : ℕ → A) (n : ℕ) → map f (upto n) ≡ map g (upto n) → (k : ℕ) → k < n → f k ≡ g k
  agree f g n test k h = sym (get_or_map_upto f n k (f 0) h) ∙ ap (λ (xs : List A). get_or xs k (f 0)) test ∙ get_or_map_upto g n k (f 0) h

-- what `read` gives of entry k is right for k, if it is so all over the table
pub table_rule :
    {A B : Type 0} (entry : ℕ → B) (read : B → A) (right : ℕ → A) (n : ℕ) → map (λ k. read (entry k)) (upto n) ≡ map right (upto n)
    → (k : ℕ) (d : B) → k < n → read (get_or (map entry (upto n)) k d) ≡ right k
table_rule entry read right n test k d h = ap read (get_or_map_upto entry n k d h) ∙ agree (λ k. read (entry k)) right n test k h
