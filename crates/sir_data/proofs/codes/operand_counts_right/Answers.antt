-- `operand_counts_right`: the lent table, which is that of `row`, and the two calls apart.
use Rattle.std.proofs.Common.{◌≡◌, ℕ, ◌≤◌, List, map, get_or, ap, ◌∙◌, arith, eq-eqb, ne_eqb}
use Rattle.plank_core.specs.Lists.{upto}
use Rattle.plank_core.specs.laws.Loops.{get_or_map_upto}
use Rattle.sir_data.specs.declared.codes.Operation.{Operation}
use Rattle.sir_data.specs.inner.CodeRows.{row}
use Rattle.sir_data.proofs.codes.operand_counts_right.Goals as goal

-- what stands at a code in the table
row_at : {table : List Operation} → table ≡ map row (upto 93) → (code : ℕ) (d : Operation) → code ≤ 92 → get_or table code d ≡ row code
row_at e code d h = ap (λ (t : List Operation). get_or t code d) e ∙ get_or_map_upto row 93 code d (omega arith)

pub returns-then-inputs : goal.returns-then-inputs
returns-then-inputs c =
    let r = row_at c.requires.table_value c.args.code _ c.requires.code_bound in
    let ins = c.inputs.ensures ∙ ap (λ o. o.0) r in
    let outs = c.outputs.ensures ∙ ap (λ o. o.1) r in
    rw (ne_eqb _ 25 c.if-code-eq25.false, ne_eqb _ 26 c.if-code-eq26.false, outs, eq-eqb _ _ (c.if-inputs.true ∙ ins))

pub returns-else-inputs : goal.returns-else-inputs
returns-else-inputs c =
    let r = row_at c.requires.table_value c.args.code _ c.requires.code_bound in
    let ins = c.inputs.ensures ∙ ap (λ o. o.0) r in
    rw (ne_eqb _ 25 c.if-code-eq25.false, ne_eqb _ 26 c.if-code-eq26.false, ins, ne_eqb _ _ (rw ins at c.if-inputs.false))
