-- Where a pointer goes from a local in one step, and which locals flag who is first to reach them, as tables.
use Rattle.std.specs.Prelude.{◌≡◌, Bool, ◌&&◌, cond, List, ℕ, length, get_or, eqb}
use Rattle.plank_core.specs.Lists.{upto, any, mem}
use Rattle.sir_data.specs.Records.{ops, code, ins, outs, inputs, outputs}
use Rattle.sir_data.specs.Codes.{derives}
use Rattle.sir_analyses.specs.Order.{blocks_rpo}
use Rattle.sir_analyses.specs.Allocation.{next, escapes, is_returned}
use Rattle.sir_analyses.specs.inner.Tables.{Rows}

-- is operation o one of a visited block?
abbrev pub is_visited_op : List ℕ → ℕ → Bool
is_visited_op w o = any (λ b. mem o (ops w b)) (blocks_rpo w)

-- does operation o derive local u from local v?
abbrev pub derives_by : List ℕ → ℕ → ℕ → ℕ → Bool
derives_by w o v u = derives (code w o) && (mem v (ins w o) && mem u (outs w o))

-- does the edge from block b to block s pass local v on as local u?
abbrev pub passes_by : List ℕ → ℕ → ℕ → ℕ → ℕ → Bool
passes_by w b s v u = any (λ k. eqb v (get_or (outputs w b) k 0) && eqb u (get_or (inputs w s) k 0)) (upto (length (outputs w b)))

-- is local v used for that cause? 0: in an escaping operand; 1: it is returned
abbrev pub used_by : List ℕ → ℕ → ℕ → Bool
used_by w cause v = cond (eqb cause 0) (escapes w v) (is_returned w v)

-- a row for each local: what its uses carry on; and a row for each cause: the locals that are so used
pub record PointerRows (w links causes : List ℕ) : Type 0 where
  pub links_long : length links ≡ 4096
  pub causes_long : length causes ≡ 16
  pub linked : Rows links 512 (λ v u. mem u (next w v))
  pub used : Rows causes 2 (used_by w)
