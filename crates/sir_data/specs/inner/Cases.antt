-- What the options and enums of `records` and `control` stand for.
use Rattle.std.specs.Prelude.{◌≡◌, ℕ, ◌<◌, List, [], ◌∷◌, Option, Some, None, Result, MatchResult}
use Rattle.plank_core.specs.declared.index.LocalId.{LocalId}
use Rattle.plank_core.specs.declared.index.FunctionId.{FunctionId}
use Rattle.plank_core.specs.declared.index.BlockId.{BlockId}
use Rattle.sir_data.specs.declared.control.Control.{Control}
use Rattle.sir_data.specs.declared.control.Control.TheVariants.{LastOpTerminates, InternalReturn, ContinuesTo, Branches, Switch}
use Rattle.sir_data.specs.declared.control.UnknownControl.{UnknownControl}

-- the condition that a block's control tests, as `condition` gives it: one local or none
abbrev pub tested_locals : Option LocalId → List ℕ
tested_locals (Some v) = v.0 ∷ []
tested_locals None = []

-- one function or none
abbrev pub function_ids : Option FunctionId → List ℕ
function_ids (Some f) = f.0 ∷ []
function_ids None = []

-- one block or none
abbrev pub block_ids : Option BlockId → List ℕ
block_ids (Some b) = b.0 ∷ []
block_ids None = []

-- the control kind of a block's record
abbrev pub kind_of : Control → ℕ
kind_of LastOpTerminates = 0
kind_of InternalReturn = 1
kind_of ContinuesTo = 2
kind_of Branches = 3
kind_of Switch = 4

-- the control of this kind, or an error with a kind that no control has
abbrev pub Decodes : ℕ → Result Control UnknownControl → Type 0
Decodes kind r = MatchResult r (λ control. kind_of control ≡ kind) (λ e. (e.0 ≡ kind) × (4 < kind))
