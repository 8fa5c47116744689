use mathlib.Core.Path.{refl}
use Rattle.writing.proofs.WritingLaws.{put_over}
use Rattle.writing.proofs.put_text.Goals as goal

pub returns : goal.returns
returns c = put_over c.args.line.now c.args.at c.args.text.now c.requires refl c.copy_from_slice.ensures.after
