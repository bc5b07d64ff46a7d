-- What a program is given: an image, and its arguments.
use Rattle.std.specs.Prelude.{◌<◌, ◌≤◌, ℕ, List, length, Option}
use Rattle.std.specs.Io.KnownBytes.{Consumes, IsAtEnd}
use denote.Ref.{Bor, MutBor}

-- a reader that had the bytes of old and has those of new gave the image: at most `most` bytes, and with fewer all that it had
abbrev pub ReadsUpTo : ℕ → Option (List ℕ) → Option (List ℕ) → List ℕ → Type 0
ReadsUpTo most old new image = Consumes old new image × (length image ≤ most) × (length image < most → IsAtEnd new)

-- a call at a name and a file that may give r, where `post` says what such a call may give and leave of the file
pub record Visit {N F R : Type 0} (post : Bor N → MutBor F → R → MutBor F → Type 0) (r : R) : Type 0 where
  pub name : Bor N
  pub file : MutBor F
  pub left : MutBor F
  pub met : post name file r left
