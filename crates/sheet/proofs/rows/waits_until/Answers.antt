use Rattle.sheet.proofs.NumberLaws.{none_waits, size_waits, seen_negative, cast_number, not_negative}
use Rattle.sheet.specs.Rows.{start_in}
use borrow.Author.Rules.{sfits_of}
use mir.Facts.{to_z-of_z}
use mir.Syntax.{w64}
use Rattle.sheet.proofs.rows.waits_until.Goals as goal

pub returns-then-start-lt0 : goal.returns-then-start-lt0
returns-then-start-lt0 c = let x = start_in c.args.rows.now c.args.i in let f = sfits_of {w = w64} {z = x} c.start-1.given in
    none_waits c.args.release x (seen_negative f c.if-start-lt0.true)

pub overflow_cast-moment : goal.overflow_cast-moment
overflow_cast-moment c = let x = start_in c.args.rows.now c.args.i in let f = sfits_of {w = w64} {z = x} c.start-1.given in
    cast_number f (not_negative x (seen_negative f c.if-start-lt0.false))

pub returns : goal.returns
returns c = let x = start_in c.args.rows.now c.args.i in let f = sfits_of {w = w64} {z = x} c.start-1.given in
    rw (to_z-of_z f) (size_waits c.args.release x (not_negative x (seen_negative f c.if-start-lt0.false)))
