-- `tables::fill_steps` meets its contract: two parts, lent one after the other.
use native.Mathlib.Omega.{arith}
use Rattle.words.specs.Words.{words}
use Rattle.plan.specs.Input.{problem_of}
use Rattle.tables.proofs.TableLaws.{steps_laid}
use Rattle.tables.proofs.RegionLaws.{laid, lent, region-length}
use Rattle.tables.proofs.fill_steps.Goals as goal

pub fill_namings-requires : goal.fill_namings-requires
fill_namings-requires c = let one = laid 0 512 c.args.part.now c.fill_activities.new.part in
    let l = lent 0 512 c.args.part.now c.fill_activities.new.part (omega arith) c.fill_activities.auto.part in
    (c.requires.0, c.requires.1, omega arith, c.fill_owners.ensures, region-length one 512 898 (omega (arith, l.whole)))

pub returns : goal.returns
returns c = steps_laid (problem_of (words c.args.s.now) c.args.z) c.args.part.now c.fill_activities.new.part c.fill_namings.new.part c.requires.2 c.fill_activities.auto.part
    c.fill_namings.auto.part c.fill_activities.ensures c.fill_namings.ensures
