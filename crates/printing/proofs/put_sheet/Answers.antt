use native.Mathlib.Omega.{arith}
use Rattle.writing.proofs.WritingLaws.{put_then}
use Rattle.printing.specs.Printing.{sheet_text}
use Rattle.printing.proofs.put_sheet.Goals as goal

pub returns : goal.returns
unfolding sheet_text
returns c = record { text = put_then (omega (arith, c.requires.activities_in_bounds, c.put_head-next.ensures.short, c.put_rows.ensures.short)) c.put_head-next.ensures.text c.put_rows.ensures.text; short = omega (arith, c.put_head-next.ensures.short, c.put_rows.ensures.short) }
