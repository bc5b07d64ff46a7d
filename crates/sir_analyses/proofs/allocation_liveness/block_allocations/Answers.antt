-- `block_allocations` meets its contract. The invariant: the sites of the operations left are to be written.
use mathlib.Core.Path.{◌≡◌, sym, ap, ◌∙◌}
use mathlib.Core.Bool.{true}
use Prim.Native.Nat.{◌+◌, ◌*◌, ◌<◌}
use native.Mathlib.Omega.{arith}
use lib.ListN.{length, length-set}
use Rattle.sir_data.specs.Records.{code}
use Rattle.sir_data.specs.Codes.{is_alloc}
use Rattle.sir_analyses.proofs.Listing.{listing_none, listing_as, listing_put, capped_stop}
use Rattle.sir_analyses.proofs.allocation_liveness.Discovery.{site_next, site_skip, block_sites_lem}
use Rattle.sir_analyses.proofs.allocation_liveness.block_allocations.Goals as goal
use Rattle.sir_analyses.proofs.allocation_liveness.block_allocations.Goals.{else-is_alloc, then-is_alloc+else-m-sites}

pub loop-o-init : goal.loop-o-init
loop-o-init c = (c.requires.at_bound, listing_as (block_sites_lem c.args.b.image.words.now c.args.b.id.0 _ _ c.operations-span.ensures.0 c.operations-span.ensures.1) listing_none)

pub returns-then-m-sites : goal.returns-then-m-sites
returns-then-m-sites c =
    let L = c.loop-o in
    let w = c.args.b.image.words.now in
    let t : is_alloc (code w L.o) ≡ true = ap is_alloc (sym c.op_word.ensures) ∙ sym c.is_alloc.ensures ∙ c.if-is_alloc.true in
    let e = site_next w c.args.b.id.0 L.o c.operations-span.result.end c.loop-o-test.true t in
    capped_stop (omega (arith, c.if-m-sites.true)) (listing_as e L.invariant.1)

pub loop-o-preserved : goal.loop-o-preserved
loop-o-preserved c =
    let L = c.loop-o in
    let w = c.args.b.image.words.now in
    let told : c.is_alloc.result ≡ is_alloc (code w L.o) = c.is_alloc.ensures ∙ ap is_alloc c.op_word.ensures in
    elim c.if-is_alloc.branch [
      | then-is_alloc+else-m-sites x ↦
          let e = site_next w c.args.b.id.0 L.o c.operations-span.result.end c.loop-o-test.true (sym told ∙ x.if-is_alloc.true) in
          let r : L.m < length L.sites = omega (arith, L.invariant.0, x.if-m-sites.false) in
          rw (x.sites-is, x.m-is) (omega (arith, length-set L.sites L.m (1024 * c.args.b.id.0 + L.o)), listing_put r (listing_as e L.invariant.1))
      | else-is_alloc x ↦
          rw (x.sites-is, x.m-is) (L.invariant.0, listing_as (site_skip w c.args.b.id.0 L.o c.operations-span.result.end c.loop-o-test.true (sym told ∙ x.if-is_alloc.false)) L.invariant.1)
    ]
