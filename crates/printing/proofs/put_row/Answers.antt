use native.Mathlib.Omega.{arith}
use Rattle.writing.proofs.WritingLaws.{put_then}
use Rattle.printing.specs.Printing.{row_text}
use Rattle.printing.proofs.put_row.Goals as goal

pub returns : goal.returns
unfolding row_text
returns c = record { text = put_then (omega (arith, c.requires, c.put_seat-next.ensures.short, c.put_times.ensures.short)) c.put_seat-next.ensures.text c.put_times.ensures.text; short = omega (arith, c.put_seat-next.ensures.short, c.put_times.ensures.short) }
