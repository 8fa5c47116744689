-- `checking::check` meets its contract.
use Rattle.checking.proofs.CallLaws.{checked-plan, taken_asks}
use Rattle.checking.proofs.check.Goals as goal

pub check_sheet-requires : goal.check_sheet-requires
check_sheet-requires c = taken_asks c.args.s.now c.in_ok-z.ensures.answer c.in_ok-z.ensures.tabled

pub returns : goal.returns
returns c = checked-plan c.args.s.now c.in_ok-z.ensures.answer c.args.rows.now c.check_sheet.ensures
