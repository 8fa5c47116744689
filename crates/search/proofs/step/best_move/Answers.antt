use mathlib.Core.Path.{sym, ap, ◌∙◌}
use native.Mathlib.Omega.{arith}
use Rattle.words.specs.Words.{words}
use Rattle.plan.specs.Input.{problem_of}
use Rattle.lines.specs.Lines.{lines_in}
use Rattle.lines.proofs.LinkingLoops.{more_machines}
use Rattle.trial.specs.Trial.{tried_all, moves_of}
use Rattle.trial.specs.Taboo.{forbidden}
use Rattle.ranking.specs.Ranking.{ranked}
use Rattle.trial.proofs.WeighLaws.{nothing_held}
use Rattle.search.proofs.StepLaws.{all-tried}
use Rattle.search.proofs.step.best_move.Goals as goal

pub link_lines-requires : goal.link_lines-requires
link_lines-requires c = (c.requires.ready.1.roomy, more_machines 16 c.requires.ready.0.accepted.machines.1 c.requires.ready.1.well, record { before = omega (arith, c.requires.space.0.length_before); after = omega (arith, c.requires.space.0.length-after); machines = omega (arith, c.requires.space.0.length-machines); places = omega (arith, c.requires.space.0.length-places) })

pub find_moves-moves-requires : goal.find_moves-moves-requires
find_moves-moves-requires c = record { ready = c.requires.ready; lines_held = (c.link_lines.ensures, record { length_before = c.link_lines.auto.before ∙ c.requires.space.0.length_before; length-after = c.link_lines.auto.after ∙ c.requires.space.0.length-after; length-machines = c.link_lines.auto.machines ∙ c.requires.space.0.length-machines; length-places = c.link_lines.auto.places ∙ c.requires.space.0.length-places; length_path = c.requires.space.0.length_path; length_tail = c.requires.space.0.length_tail; length_heads = c.requires.space.0.length_heads }) }

pub try_three-first-requires : goal.try_three-first-requires
try_three-first-requires c = record { ready = (c.requires.ready.0, c.requires.ready.1.roomy, c.requires.ready.1.well, c.find_moves-moves.ensures.allowed.0); rooms = (record { length_before = c.link_lines.auto.before ∙ c.requires.space.0.length_before; length-after = c.link_lines.auto.after ∙ c.requires.space.0.length-after; length-machines = c.link_lines.auto.machines ∙ c.requires.space.0.length-machines; length-places = c.link_lines.auto.places ∙ c.requires.space.0.length-places; length_order = c.requires.kept.0.length_order; length_starts = c.requires.kept.0.length_starts; length-ends = c.requires.kept.0.length-ends }, c.link_lines.ensures, c.find_moves-moves.auto.path ∙ c.requires.space.0.length_path, c.requires.space.1); kept = (c.requires.kept.1, rw c.nothing.ensures nothing_held) }

pub try_three-requires : goal.try_three-requires
try_three-requires c = record { ready = (c.requires.ready.0, c.try_three-first.auto.cells ∙ c.requires.ready.1.roomy, rw c.try_three-first.ensures.lines c.requires.ready.1.well, rw c.try_three-first.ensures.lines c.find_moves-moves.ensures.allowed.1); rooms = (record { length_before = c.try_three-first.auto.before ∙ c.link_lines.auto.before ∙ c.requires.space.0.length_before; length-after = c.try_three-first.auto.after ∙ c.link_lines.auto.after ∙ c.requires.space.0.length-after; length-machines = c.try_three-first.auto.machines ∙ c.link_lines.auto.machines ∙ c.requires.space.0.length-machines; length-places = c.try_three-first.auto.places ∙ c.link_lines.auto.places ∙ c.requires.space.0.length-places; length_order = c.try_three-first.auto.order ∙ c.requires.kept.0.length_order; length_starts = c.try_three-first.auto.starts ∙ c.requires.kept.0.length_starts; length-ends = c.try_three-first.auto.ends ∙ c.requires.kept.0.length-ends }, rw c.try_three-first.ensures.lines c.try_three-first.ensures.linked, c.try_three-first.auto.counts ∙ c.find_moves-moves.auto.path ∙ c.requires.space.0.length_path, c.try_three-first.auto.stack ∙ c.requires.space.1); kept = (record { length_order = c.try_three-first.auto.taken ∙ c.requires.kept.1.length_order; length_starts = c.try_three-first.auto.begun ∙ c.requires.kept.1.length_starts; length-ends = c.try_three-first.auto.done ∙ c.requires.kept.1.length-ends }, rw c.try_three-first.ensures.lines c.try_three-first.ensures.holding) }

pub shape_of-cells : goal.shape_of-cells
shape_of-cells c = c.try_three.auto.cells ∙ c.try_three-first.auto.cells

pub shape_of-before : goal.shape_of-before
shape_of-before c = c.try_three.auto.before ∙ c.try_three-first.auto.before ∙ c.link_lines.auto.before

pub shape_of-after : goal.shape_of-after
shape_of-after c = c.try_three.auto.after ∙ c.try_three-first.auto.after ∙ c.link_lines.auto.after

pub shape_of-machines : goal.shape_of-machines
shape_of-machines c = c.try_three.auto.machines ∙ c.try_three-first.auto.machines ∙ c.link_lines.auto.machines

pub shape_of-places : goal.shape_of-places
shape_of-places c = c.try_three.auto.places ∙ c.try_three-first.auto.places ∙ c.link_lines.auto.places

pub shape_of-path : goal.shape_of-path
shape_of-path c = c.try_three.auto.counts ∙ c.try_three-first.auto.counts ∙ c.find_moves-moves.auto.path

pub shape_of-stack : goal.shape_of-stack
shape_of-stack c = c.try_three.auto.stack ∙ c.try_three-first.auto.stack

pub shape_of-tail : goal.shape_of-tail
shape_of-tail c = c.find_moves-moves.auto.tail

pub shape_of-heads : goal.shape_of-heads
shape_of-heads c = c.find_moves-moves.auto.heads

pub shape_of-tried : goal.shape_of-tried
shape_of-tried c = c.try_three.auto.order ∙ c.try_three-first.auto.order

pub shape_of-begins : goal.shape_of-begins
shape_of-begins c = c.try_three.auto.starts ∙ c.try_three-first.auto.starts

pub shape_of-finishes : goal.shape_of-finishes
shape_of-finishes c = c.try_three.auto.ends ∙ c.try_three-first.auto.ends

pub shape_of-taken : goal.shape_of-taken
shape_of-taken c = c.try_three.auto.taken ∙ c.try_three-first.auto.taken

pub shape_of-begun : goal.shape_of-begun
shape_of-begun c = c.try_three.auto.begun ∙ c.try_three-first.auto.begun

pub shape_of-done : goal.shape_of-done
shape_of-done c = c.try_three.auto.done ∙ c.try_three-first.auto.done

pub returns : goal.returns
returns c = record { answer = all-tried (problem_of (words c.args.s.now) c.args.z) (lines_in c.args.cells.now c.args.lens) (lines_in c.try_three-first.new.cells c.args.lens) c.try_three-first.ensures.lines (λ l. forbidden c.args.step c.args.pairs c.args.left l) c.args.best c.find_moves-moves.ensures.blocks c.find_moves-moves.ensures.others (c.try_three-first.ensures.answer ∙ ap (λ b. tried_all (problem_of (words c.args.s.now) c.args.z) (lines_in c.args.cells.now c.args.lens) (forbidden c.args.step c.args.pairs c.args.left (lines_in c.args.cells.now c.args.lens)) c.args.best (moves_of (ranked c.find_moves-moves.result.blocks)) b) c.nothing.ensures) c.try_three.ensures.answer; holding = rw (sym c.try_three-first.ensures.lines) c.try_three.ensures.holding; lines = c.try_three.ensures.lines ∙ c.try_three-first.ensures.lines }
