use mathlib.Core.Path.{refl, sym}
use Rattle.renewed.proofs.RenewedLaws.{renewed_put, length_renewed}
use Rattle.renewed.proofs.renew.Goals as goal

pub returns : goal.returns
returns c = record { bytes = renewed_put c.args.k c.args.before.now c.args.tasks.now c.args.machines.now c.requires.0 c.args.buf.now c.requires.1 c.put_text.ensures c.put_section.ensures refl c.put_section-2.ensures; length = sym (length_renewed c.args.k c.args.before.now c.args.tasks.now c.args.machines.now c.requires.0) }
