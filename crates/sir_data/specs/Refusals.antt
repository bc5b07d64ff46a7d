-- The numbers of refusals (docs/FORMAT.md), and what a result says of them.
use Rattle.std.specs.Prelude.{ℕ, Result, Ok, Err}
use Rattle.sir_data.specs.declared.refusals.Refusal.{Refusal}
use Rattle.sir_data.specs.declared.refusals.Refusal.TheVariants.{Length, PageNumber, PageCheck, Edition, Count, PageCount, Unknown, Range, OperandCount, OutputCount, RepeatedInput, SharedBase, UnknownId, ShortResult, NotInBlock}

-- the number of a refusal
abbrev pub number : Refusal → ℕ
number Length = 1
number PageNumber = 2
number PageCheck = 3
number Edition = 4
number Count = 5
number PageCount = 6
number Unknown = 7
number Range = 8
number OperandCount = 9
number OutputCount = 10
number RepeatedInput = 11
number SharedBase = 12
number UnknownId = 13
number ShortResult = 14
number NotInBlock = 15

-- the number of the refusal that a result gives, or 0
abbrev pub refused : {A : Type 0} → Result A Refusal → ℕ
refused (Ok _) = 0
refused (Err refusal) = number refusal
