use Rattle.sheet.proofs.NumberLaws.{seen, cast_number, late_start, none_lasts, end_positive, end_after, size_lasts}
use Rattle.sheet.specs.Rows.{start_in, end_in}
use borrow.Author.Rules.{sfits_of}
use mir.Facts.{to_z-of_z}
use mir.Syntax.{w64}
use lib.Signed.{lt_z}
use Rattle.sheet.proofs.rows.lasts_for.Goals as goal

pub returns-then-end-start : goal.returns-then-end-start
returns-then-end-start c = let s = start_in c.args.rows.now c.args.i in let e = end_in c.args.rows.now c.args.i in
    let f = sfits_of {w = w64} {z = s} c.start-1.given in let g = sfits_of {w = w64} {z = e} c.end-1.given in
    none_lasts c.args.span e s (late_start s c.requires.1) (seen lt_z g f c.if-end-start.true)

pub overflow_cast-lasting : goal.overflow_cast-lasting
overflow_cast-lasting c = let s = start_in c.args.rows.now c.args.i in let e = end_in c.args.rows.now c.args.i in
    let f = sfits_of {w = w64} {z = s} c.start-1.given in let g = sfits_of {w = w64} {z = e} c.end-1.given in
    cast_number g (end_positive e s (late_start s c.requires.1) (seen lt_z g f c.if-end-start.false))

pub overflow_cast-lasting-2 : goal.overflow_cast-lasting-2
overflow_cast-lasting-2 c = let s = start_in c.args.rows.now c.args.i in
    let f = sfits_of {w = w64} {z = s} c.start-1.given in
    cast_number f (late_start s c.requires.1)

pub overflow_sub-lasting : goal.overflow_sub-lasting
overflow_sub-lasting c = let s = start_in c.args.rows.now c.args.i in let e = end_in c.args.rows.now c.args.i in
    let f = sfits_of {w = w64} {z = s} c.start-1.given in let g = sfits_of {w = w64} {z = e} c.end-1.given in
    rw (to_z-of_z f, to_z-of_z g) (end_after e s (late_start s c.requires.1) (seen lt_z g f c.if-end-start.false))

pub returns : goal.returns
returns c = let s = start_in c.args.rows.now c.args.i in let e = end_in c.args.rows.now c.args.i in
    let f = sfits_of {w = w64} {z = s} c.start-1.given in let g = sfits_of {w = w64} {z = e} c.end-1.given in
    rw (to_z-of_z f, to_z-of_z g) (size_lasts c.args.span e s (late_start s c.requires.1) (seen lt_z g f c.if-end-start.false))
