-- No refusal has the number 0, so a result that gives 0 is `Ok`.
use Rattle.std.specs.Prelude.{◌≡◌, ◌<◌}
use Rattle.std.proofs.Common.{arith}
use Rattle.sir_data.specs.declared.refusals.Refusal.{Refusal}
use Rattle.sir_data.specs.declared.refusals.Refusal.TheVariants.{Length, PageNumber, PageCheck, Edition, Count, PageCount, Unknown, Range, OperandCount, OutputCount, RepeatedInput, SharedBase, UnknownId, ShortResult, NotInBlock}
use Rattle.sir_data.specs.Refusals.{number}

numbered : (r : Refusal) → 0 < number r
numbered Length = omega arith
numbered PageNumber = omega arith
numbered PageCheck = omega arith
numbered Edition = omega arith
numbered Count = omega arith
numbered PageCount = omega arith
numbered Unknown = omega arith
numbered Range = omega arith
numbered OperandCount = omega arith
numbered OutputCount = omega arith
numbered RepeatedInput = omega arith
numbered SharedBase = omega arith
numbered UnknownId = omega arith
numbered ShortResult = omega arith
numbered NotInBlock = omega arith

pub not_0 : (r : Refusal) → number r ≡ 0 → ⊥
not_0 r e = omega (arith, numbered r, e)
