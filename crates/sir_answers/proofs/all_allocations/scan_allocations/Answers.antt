-- `scan_allocations` meets its contract.
use mathlib.Core.Path.{◌≡◌, sym, ap, ◌∙◌}
use native.Mathlib.Omega.{arith}
use mathlib.Core.List.{List}
use Prim.Native.Nat.{ℕ}
use lib.ListN.{length, get_or, length-append, get_or-append}
use lib.Seq.{length-take-le}
use Rattle.sir_answers.specs.inner.AllocationPieces.{visited_pieces, head_pieces}
use Rattle.sir_analyses.proofs.allocation_liveness.PointerTables.{allocations_few}
use Rattle.sir_answers.proofs.scatter.Scattering.{fits_first, fits_rest, scatters_then}
use Rattle.sir_answers.proofs.all_allocations.AllocationPieces.{tops_are}
use Rattle.sir_answers.proofs.all_allocations.scan_allocations.Goals as goal

pub slice_bounds-tops-end : goal.slice_bounds-tops-end
slice_bounds-tops-end c =
    omega (arith, c.requires.cursors_len.0, allocations_few c.args.tables.pointer_stage)

pub slice_bounds-copy_from_slice-end : goal.slice_bounds-copy_from_slice-end
slice_bounds-copy_from_slice-end c =
    sym (length-take-le _ _ (omega (arith, c.requires.cursors_len.0, allocations_few c.args.tables.pointer_stage)))

pub copy_from_slice-requires : goal.copy_from_slice-requires
copy_from_slice-requires c =
    length-take-le _ _ (omega (arith, c.requires.cursors_len.0, allocations_few c.args.tables.pointer_stage))

pub sweep_blocks-requires : goal.sweep_blocks-requires
sweep_blocks-requires c =
    let w = c.args.tables.image.words.now in
    let wide = c.requires.cursors_len.0 in
    let fits = fits_first (visited_pieces w) (head_pieces w) c.requires.cursors_len.1 in
    record { owned_tables = c.owned_tables.ensures; cursors_len = (wide, fits) }

pub put_heads-requires : goal.put_heads-requires
put_heads-requires c =
    let w = c.args.tables.image.words.now in
    let wide = c.requires.cursors_len.0 in
    let fits = fits_first (visited_pieces w) (head_pieces w) c.requires.cursors_len.1 in
    let s = c.sweep_blocks in
    let kept : length s.new.cursors ≡ length c.args.cursors.now = omega (arith, s.auto) in
    let copied : length c.copy_from_slice.new.self ≡ length c.args.cursors.now = ap length c.copy_from_slice.ensures.after in
    record { cursors_len = (kept ∙ wide, fits_rest (head_pieces w) c.requires.cursors_len.1 s.ensures); cursors_in_bounds = (omega (arith, kept, c.copy_from_slice.ensures.after, copied, length-append {A = ℕ}), λ a h. get_or-append c.copy_from_slice.new.self _ 0 a (omega (arith, copied, kept)) ∙ ap (λ (l : List ℕ). get_or l a 0) c.copy_from_slice.ensures.after ∙ tops_are c.args.tables.pointer_stage a wide fits s.ensures (omega (arith, kept))) }

pub returns : goal.returns
returns c =
    scatters_then c.sweep_blocks.ensures c.put_heads.ensures
