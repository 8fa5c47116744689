-- `tables::fill_activities` meets its contract: four parts, lent one after the other.
use Prim.Native.Nat.{ℕ}
use mathlib.Core.Path.{sym, subst}
use mathlib.Core.List.{List}
use native.Mathlib.Omega.{arith}
use Rattle.words.specs.Words.{words}
use Rattle.plan.specs.Input.{problem_of, task_of}
use Rattle.tables.specs.Columns.{Filled, next_in}
use Rattle.tables.proofs.RegionLaws.{laid, lent, region-length}
use Rattle.tables.proofs.PartLaws.{activities_laid}
use Rattle.tables.proofs.fill_activities.Goals as goal

pub fill_categories-requires : goal.fill_categories-requires
fill_categories-requires c = let one = laid 0 128 c.args.part.now c.copy_from_slice.new.self in
    let two = laid 128 128 one c.fill_nexts.new.nexts in
    let three = laid 256 128 two c.fill_releases.new.releases in
    let k = lent 0 128 c.args.part.now c.copy_from_slice.new.self (omega arith) c.copy_from_slice.auto.self in
    let l = lent 128 128 one c.fill_nexts.new.nexts (omega (arith, k.whole)) c.fill_nexts.auto.nexts in
    let m = lent 256 128 two c.fill_releases.new.releases (omega (arith, k.whole, l.whole)) c.fill_releases.auto.releases in
    let room = region-length three 384 128 (omega (arith, k.whole, l.whole, m.whole)) in
    (c.requires.0, omega arith, omega (arith, room), c.requires.2)

pub returns : goal.returns
returns c = let ws = words c.args.s.now in
    activities_laid (problem_of ws c.args.z) c.args.part.now c.copy_from_slice.new.self c.fill_nexts.new.nexts c.fill_releases.new.releases c.fill_categories.new.categories c.requires.3 c.copy_from_slice.auto.self
    c.fill_nexts.auto.nexts c.fill_releases.auto.releases c.fill_categories.auto.categories
    (subst (λ (l : List ℕ). Filled c.args.z.activities (task_of ws c.args.z) l) (sym c.copy_from_slice.ensures.after) c.requires.2)
    (subst (λ (l : List ℕ). Filled c.args.z.activities (next_in l c.args.z.activities) c.fill_nexts.new.nexts) (sym c.copy_from_slice.ensures.after) c.fill_nexts.ensures)
    c.fill_releases.ensures c.fill_categories.ensures
