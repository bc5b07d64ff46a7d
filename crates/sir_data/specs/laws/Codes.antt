-- Laws of what operation codes say.
use Rattle.std.specs.Prelude.{◌≡◌, ℕ, ◌≤◌}
use Rattle.std.proofs.Common.{arith, ne_eqb}
use Rattle.sir_data.specs.Codes.{escaping}

-- bit 7 stands for every position from 7 up: past it a code's positions are all alike
pub escaping_far : (c k : ℕ) → 7 ≤ k → escaping c k ≡ escaping c 7
escaping_far c k h =
    simp (
      ne_eqb k 0 (λ e. omega arith),
      ne_eqb k 1 (λ e. omega arith),
      ne_eqb k 2 (λ e. omega arith),
      ne_eqb k 3 (λ e. omega arith),
      ne_eqb k 4 (λ e. omega arith),
      ne_eqb k 5 (λ e. omega arith),
      ne_eqb k 6 (λ e. omega arith),
    )
