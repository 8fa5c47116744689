-- `moves::relinking::relink` meets its contract: each move by the lines that it changes. Assumes nothing.
use mathlib.Core.Path.{ap, sym, subst, ◌∙◌}
use Rattle.lines.specs.Lines.{lines_in}
use Rattle.lines.specs.Linking.{Links, line_relinked, Roomy}
use Rattle.lines.proofs.RelinkLaws.{relinked-roomy}
use Rattle.moves.specs.Moves.{line_of}
use Rattle.moves.proofs.RelinkLaws.{roomy_for, told-relinked}
use Rattle.moves.proofs.relinking.relink.Goals as goal

pub relink_on-requires : goal.relink_on-requires
relink_on-requires c = (c.requires.0, c.requires.1, roomy_for _ _ _ _ c.requires.2 c.requires.3 c.requires.4 c.requires.5, rw c.in-Swap.is at c.requires.6)

pub relink_on-requires-in-Shift : goal.relink_on-requires-in-Shift
relink_on-requires-in-Shift c = (c.requires.0, c.requires.1, roomy_for _ _ _ _ c.requires.2 c.requires.3 c.requires.4 c.requires.5, rw c.in-Shift.is at c.requires.6)

pub relink_on-requires-in-Reassign : goal.relink_on-requires-in-Reassign
relink_on-requires-in-Reassign c = let q = rw c.in-Reassign.is at c.requires.6 in
    (c.requires.0, c.requires.1, roomy_for _ _ _ _ c.requires.2 c.requires.3 c.requires.4 c.requires.5, q.0)

pub relink_on-requires-in-Reassign-2 : goal.relink_on-requires-in-Reassign-2
relink_on-requires-in-Reassign-2 c = let q = rw c.in-Reassign.is at c.requires.6 in
    (c.requires.0, c.requires.1, subst (Roomy c.args.n) (sym c.relink_on-in-Reassign.ensures) (relinked-roomy _ _ _ _ (roomy_for _ _ _ _ c.requires.2 c.requires.3 c.requires.4 c.requires.5)), q.1)

pub returns-in-Swap : goal.returns-in-Swap
returns-in-Swap c = λ lines w f e h. told-relinked w c.requires.1 (roomy_for _ _ _ _ c.requires.2 c.requires.3 c.requires.4 c.requires.5) h c.in-Swap.is c.relink_on.ensures e

pub returns-in-Shift : goal.returns-in-Shift
returns-in-Shift c = λ lines w f e h. told-relinked w c.requires.1 (roomy_for _ _ _ _ c.requires.2 c.requires.3 c.requires.4 c.requires.5) h c.in-Shift.is c.relink_on-in-Shift.ensures e

pub returns-in-Reassign : goal.returns-in-Reassign
returns-in-Reassign c = λ lines w f e h.
    told-relinked w c.requires.1 (roomy_for _ _ _ _ c.requires.2 c.requires.3 c.requires.4 c.requires.5) h c.in-Reassign.is
    (c.relink_on-in-Reassign-2.ensures ∙ ap (λ (k : Links). line_relinked c.args.n c.in-Reassign.new (line_of (lines_in c.args.cells.now c.args.lens.now) c.in-Reassign.new) k) c.relink_on-in-Reassign.ensures)
    e
