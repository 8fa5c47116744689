-- `looking::listing::put_move` meets its contract.
use mathlib.Core.Path.{sym, ap}
use Rattle.looking.specs.Rows.{row_of}
use Rattle.looking.proofs.RowLaws.{put_as}
use Rattle.looking.proofs.listing.put_move.Goals as goal

pub returns-in-Swap : goal.returns-in-Swap
returns-in-Swap c = put_as (sym (ap row_of c.in-Swap.is)) c.put_row.ensures

pub returns-in-Shift : goal.returns-in-Shift
returns-in-Shift c = put_as (sym (ap row_of c.in-Shift.is)) c.put_row-in-Shift.ensures

pub returns-in-Reassign : goal.returns-in-Reassign
returns-in-Reassign c = put_as (sym (ap row_of c.in-Reassign.is)) c.put_row-in-Reassign.ensures
