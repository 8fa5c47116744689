-- `tables::namings::fill_waits` meets its contract: the steps before are 0 or 1 each, so that the tally fits.
use Prim.Native.Nat.{ℕ}
use mathlib.Core.Path.{sym, subst}
use native.Mathlib.Omega.{arith}
use lib.Seq.{length-take-le}
use lib.ListN.{length, take}
use Rattle.graph.specs.Counting.{Below}
use Rattle.tables.proofs.PartLaws.{befores_small, waits_filled}
use Rattle.tables.proofs.namings.fill_waits.Goals as goal

pub slice_bounds-tally_by-end : goal.slice_bounds-tally_by-end
slice_bounds-tally_by-end c = sym (length-take-le c.args.count c.args.acts.now c.requires.1)

pub tally_by-requires : goal.tally_by-requires
tally_by-requires c = let acts = take c.args.count c.args.acts.now in
    let few = length-take-le c.args.count c.args.acts.now c.requires.1 in (
      subst (λ (k : ℕ). Below k acts) (sym c.fill_befores.auto.befores) c.requires.3,
      λ x. omega (arith, befores_small (length c.args.waits.now) c.args.owners.now c.fill_befores.new.befores c.fill_befores.auto.befores c.fill_befores.ensures x),
    )

pub returns : goal.returns
returns c = let acts = take c.args.count c.args.acts.now in
    waits_filled (length c.args.waits.now) c.args.owners.now acts c.fill_befores.new.befores c.tally_by.new.tally c.fill_befores.auto.befores
    (subst (λ (k : ℕ). Below k acts) (sym c.fill_befores.auto.befores) c.requires.3) c.fill_befores.ensures c.tally_by.ensures
