use Rattle.printing.proofs.PrintingLaws.{number_put}
use Rattle.printing.proofs.put_number.Goals as goal

pub returns : goal.returns
returns c = record { text = (number_put c.args.line.now c.args.at c.args.v c.args.after c.ranges.v.fits c.requires c.put_decimal-digits.ensures.line c.put_decimal-digits.ensures.place c.put_byte.ensures.line c.put_byte.ensures.place).0; short = (number_put c.args.line.now c.args.at c.args.v c.args.after c.ranges.v.fits c.requires c.put_decimal-digits.ensures.line c.put_decimal-digits.ensures.place c.put_byte.ensures.line c.put_byte.ensures.place).1 }
