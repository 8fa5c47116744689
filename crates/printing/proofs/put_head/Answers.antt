use Rattle.printing.proofs.PrintingLaws.{head_put}
use Rattle.printing.proofs.put_head.Goals as goal

pub returns : goal.returns
returns c =
    let put =
    head_put c.args.line.now c.args.outcome c.args.bits c.requires c.put_text-first.ensures
    c.put_number-second.ensures.text c.put_number-second.ensures.short
    c.put_text-third.ensures
    c.put_hex-fourth.ensures.line c.put_hex-fourth.ensures.place
    c.put_byte.ensures.line c.put_byte.ensures.place in
    record { text = put.0; short = put.1 }
