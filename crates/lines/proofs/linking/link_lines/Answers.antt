-- `lines::linking::link_lines` meets its contract. The links are filled with n, which is no activity, before the lines are written. Assumes nothing.
use Rattle.lines.proofs.LineLaws.{lines_below}
use Rattle.lines.proofs.LinkingLoops.{fit_well, filled_roomy, filled_held}
use Rattle.lines.proofs.linking.link_lines.Goals as goal

pub link_each-requires : goal.link_each-requires
link_each-requires c = (c.requires.0, fit_well c.args.cells.now c.args.lens c.requires.1, lines_below c.requires.1, filled_roomy c.requires.2 (c.fill.ensures.after (λ y e. e)) (c.fill-2.ensures.after (λ y e. e)))

pub returns : goal.returns
returns c = filled_held c.requires.2 (c.fill.ensures.after (λ y e. e)) (c.fill-2.ensures.after (λ y e. e)) c.requires.1 c.link_each.ensures
