-- `looking::call::look_known` meets its contract.
use mathlib.Core.Path.{sym, ap, ◌∙◌}
use Rattle.words.specs.Words.{words}
use Rattle.plan.specs.Input.{problem_of}
use Rattle.lines.specs.Lines.{lines_in, well_formed}
use Rattle.lines.proofs.TestLaws.{test_sound}
use Rattle.looking.specs.Looking.{answer_of}
use Rattle.looking.proofs.CallLaws.{seven, not_seven, leaves_as, refused}
use Rattle.looking.proofs.call.look_known.Goals as goal

pub returns-then-not-well_formed : goal.returns-then-not-well_formed
returns-then-not-well_formed c = let e = seven (problem_of (words c.args.s.now) c.args.z) (lines_in c.args.cells.now c.args.lens) (well_formed (problem_of (words c.args.s.now) c.args.z).n (problem_of (words c.args.s.now) c.args.z).machines (lines_in c.args.cells.now c.args.lens)) (sym c.well_formed-2.ensures ∙ c.if-not-well_formed.true) in
    record { answer = ap answer_of e; left = refused e }

pub look_lines-requires : goal.look_lines-requires
look_lines-requires c = record { taken = (c.requires.taken.0, c.requires.taken.1, test_sound (problem_of (words c.args.s.now) c.args.z).n (problem_of (words c.args.s.now) c.args.z).machines (lines_in c.args.cells.now c.args.lens) (sym c.well_formed-2.ensures ∙ c.if-not-well_formed.false)); in_bounds = c.requires.in_bounds }

pub returns : goal.returns
returns c = let e = not_seven (problem_of (words c.args.s.now) c.args.z) (lines_in c.args.cells.now c.args.lens) (well_formed (problem_of (words c.args.s.now) c.args.z).n (problem_of (words c.args.s.now) c.args.z).machines (lines_in c.args.cells.now c.args.lens)) (sym c.well_formed-2.ensures ∙ c.if-not-well_formed.false) in
    record { answer = c.look_lines.ensures.answer ∙ ap answer_of e; left = leaves_as e c.look_lines.ensures.left }
