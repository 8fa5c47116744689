-- `looking::sight::see` meets its contract.
use mathlib.Core.Path.{ap, ◌∙◌}
use lib.Ieee.{to_bits, binary64}
use Rattle.words.specs.Words.{words}
use Rattle.plan.specs.Input.{problem_of, genes_of}
use Rattle.lines.specs.Lines.{lines_in}
use Rattle.calls.proofs.SheetLaws.{ended, fitness_is}
use Rattle.looking.proofs.SightLaws.{seen-answer}
use Rattle.looking.proofs.sight.see.Goals as goal

pub see_path-walked-requires : goal.see_path-walked-requires
see_path-walked-requires c = record { ready = c.requires.ready; lines_held = (c.requires.lines_held.0, c.requires.lines_held.1.length_before, c.requires.lines_held.1.length-after, c.requires.lines_held.1.length-machines, c.requires.lines_held.1.length-places, c.requires.lines_held.1.length_path, c.requires.lines_held.1.length_tail, c.requires.lines_held.2, c.requires.lines_held.3) }

pub see_kept-held-requires : goal.see_kept-held-requires
see_kept-held-requires c = record { ready = c.requires.ready; lines_held = (c.requires.lines_held.0, record { length_before = c.requires.lines_held.1.length_before; length-after = c.requires.lines_held.1.length-after; length-machines = c.requires.lines_held.1.length-machines; length-places = c.requires.lines_held.1.length-places; length_path = c.see_path-walked.auto.trail ∙ c.requires.lines_held.1.length_path; length_tail = c.see_path-walked.auto.tail ∙ c.requires.lines_held.1.length_tail; length_heads = c.requires.lines_held.1.length_heads }, c.requires.lines_held.4, c.requires.lines_held.5) }

pub fitness_bits-bits-requires : goal.fitness_bits-bits-requires
fitness_bits-bits-requires c = record { placed = (c.requires.ready.0.placed, c.requires.ready.0.accepted, c.requires.ready.0.weighed); ended = ended (problem_of (words c.args.s.now) c.args.z) (genes_of (words c.args.s.now) c.args.z) c.requires.ready.0.accepted (lines_in c.args.cells.now c.args.lens) c.requires.ready.1.well c.requires.ready.2 }

pub shape_of-trail : goal.shape_of-trail
shape_of-trail c = c.see_kept-held.auto.trail ∙ c.see_path-walked.auto.trail

pub shape_of-tail : goal.shape_of-tail
shape_of-tail c = c.see_kept-held.auto.tail ∙ c.see_path-walked.auto.tail

pub returns : goal.returns
returns c = record { answer = seen-answer (problem_of (words c.args.s.now) c.args.z) (lines_in c.args.cells.now c.args.lens) c.see_path-walked.ensures.counts.0 c.see_path-walked.ensures.counts.1 c.see_kept-held.ensures.counts.0 c.see_kept-held.ensures.counts.1 (c.fitness_bits-bits.ensures ∙ ap (to_bits binary64) (fitness_is (problem_of (words c.args.s.now) c.args.z) (lines_in c.args.cells.now c.args.lens) c.requires.ready.2)); left = record { path = c.see_path-walked.ensures.path; moves = c.see_path-walked.ensures.moves; kept = c.see_kept-held.ensures.kept; ranks = c.see_kept-held.ensures.ranks } }
