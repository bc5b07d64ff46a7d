-- The kind of an allocation (document 01, "What can be put to an image"): what the code's enum stands for, as the three words of a
-- record.
use Rattle.std.specs.Prelude.{cond, List, [], ◌∷◌, ℕ, get_or}
use Rattle.sir_data.specs.Records.{code, ins, extra}
use Rattle.sir_data.specs.Codes.{is_dynamic_alloc}
use Rattle.sir_analyses.specs.declared.allocation_words.AllocKind.{AllocKind}

-- kind (0 static, 1 dynamic), size or size local, static id (0 if dynamic)
abbrev pub kind_words : AllocKind → List ℕ
kind_words (AllocKind.Static size id) = 0 ∷ size ∷ id ∷ []
kind_words (AllocKind.Dynamic local) = 1 ∷ local.0 ∷ 0 ∷ []

-- the kind of allocation operation o: dynamic with its size local, or static with its size and id
abbrev pub kind_of : List ℕ → ℕ → AllocKind
kind_of w o = cond (is_dynamic_alloc (code w o)) (AllocKind.Dynamic (record { 0 = get_or (ins w o) 0 0 })) (AllocKind.Static (extra w o 0) (extra w o 1))
