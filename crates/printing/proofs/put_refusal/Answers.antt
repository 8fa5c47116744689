use native.Mathlib.Omega.{arith}
use Rattle.writing.proofs.WritingLaws.{put_then}
use Rattle.printing.specs.Printing.{refusal_text}
use Rattle.printing.proofs.put_refusal.Goals as goal

pub returns : goal.returns
unfolding refusal_text
returns c =
    let o = c.put_text-first.ensures in
    let p = c.put_number-second.ensures in
    let q = c.put_number.ensures in
    record {
      text =
          put_then
          (omega (arith, c.requires, o.ends, p.short, q.short))
          (put_then (omega (arith, c.requires, o.ends, p.short)) o p.text)
          q.text;
      short = omega (arith, o.ends, p.short, q.short);
    }
