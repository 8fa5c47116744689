use Rattle.sheet.proofs.NumberLaws.{none_below, seen_negative, cast_number as number-cast, not_negative, size_below}
use mir.Facts.{to_z-of_z}
use Rattle.sheet.proofs.rows.is_below.Goals as goal

pub returns-then-x-lt0 : goal.returns-then-x-lt0
returns-then-x-lt0 c = none_below c.args.n c.args.x (seen_negative c.ranges.x c.if-x-lt0.true)

pub overflow_cast-number : goal.overflow_cast-number
overflow_cast-number c = number-cast c.ranges.x (not_negative c.args.x (seen_negative c.ranges.x c.if-x-lt0.false))

pub returns : goal.returns
returns c = rw (to_z-of_z c.ranges.x) (size_below c.args.n c.args.x (not_negative c.args.x (seen_negative c.ranges.x c.if-x-lt0.false)))
