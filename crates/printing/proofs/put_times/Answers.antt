use native.Mathlib.Omega.{arith}
use Rattle.writing.proofs.WritingLaws.{put_then}
use Rattle.printing.proofs.put_times.Goals as goal

pub returns : goal.returns
returns c = record { text = put_then (omega (arith, c.requires, c.put_number-second.ensures.short, c.put_number-third.ensures.short, c.put_number.ensures.short)) (put_then (omega (arith, c.requires, c.put_number-second.ensures.short, c.put_number-third.ensures.short)) c.put_number-second.ensures.text c.put_number-third.ensures.text) c.put_number.ensures.text; short = omega (arith, c.put_number-second.ensures.short, c.put_number-third.ensures.short, c.put_number.ensures.short) }
