-- `tables::namings::file_pairs` meets its contract: three parts, lent one after the other.
use Prim.Native.Nat.{ℕ, ◌-◌}
use mathlib.Core.Path.{◌≡◌, sym, ◌∙◌, subst}
use native.Mathlib.Omega.{arith}
use lib.ListN.{length, take}
use Rattle.graph.specs.Counting.{Below}
use Rattle.graph.proofs.CountingLaws.{below_more}
use Rattle.tables.proofs.RegionLaws.{laid, lent, region-length}
use Rattle.tables.proofs.PartLaws.{pairings_laid}
use Rattle.tables.proofs.namings.file_pairs.Goals as goal

pub fill_waits-requires : goal.fill_waits-requires
fill_waits-requires c = let e : length (take (c.args.n - 0) c.args.part.now) ≡ c.args.n = region-length c.args.part.now 0 (c.args.n - 0) (omega arith) ∙ omega arith in
    (omega (arith, c.requires.n_bound.1), c.requires.n_bound.3, c.requires.n_bound.2, subst (λ (k : ℕ). Below k (take c.args.count c.args.acts.now)) (sym e) c.requires.below.0)

pub file_into-requires : goal.file_into-requires
file_into-requires c = let one = laid 0 (c.args.n - 0) c.args.part.now c.fill_waits.new.waits in
    let l = lent 0 (c.args.n - 0) c.args.part.now c.fill_waits.new.waits (omega arith) c.fill_waits.auto.waits in
    let room = region-length one 128 385 (omega (arith, l.whole)) in
    (c.requires.n_bound.4, c.requires.n_bound.3, omega (arith, room), below_more c.args.n 128 _ c.requires.n_bound.0 c.requires.below.0)

pub file_into-requires-2 : goal.file_into-requires-2
file_into-requires-2 c = let one = laid 0 (c.args.n - 0) c.args.part.now c.fill_waits.new.waits in
    let two = laid 128 385 one c.file_into.new.part in
    let l = lent 0 (c.args.n - 0) c.args.part.now c.fill_waits.new.waits (omega arith) c.fill_waits.auto.waits in
    let m = lent 128 385 one c.file_into.new.part (omega (arith, l.whole)) c.file_into.auto.part in
    let room = region-length two 513 385 (omega (arith, l.whole, m.whole)) in
    (c.requires.n_bound.3, c.requires.n_bound.4, omega (arith, room), below_more c.args.n 128 _ c.requires.n_bound.0 c.requires.below.1)

pub returns : goal.returns
returns c = pairings_laid c.args.n (c.args.n - 0) _ _ _ c.args.part.now c.fill_waits.new.waits c.file_into.new.part c.file_into-2.new.part c.requires.n_bound.0 (omega arith) c.requires.n_bound.5
    c.fill_waits.auto.waits c.file_into.auto.part c.file_into-2.auto.part c.fill_waits.ensures c.file_into.ensures c.file_into-2.ensures
