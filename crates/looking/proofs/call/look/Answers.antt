-- `looking::call::look` meets its contract.
use mathlib.Core.Path.{sym, ap, ◌∙◌}
use lib.ListN.{take}
use lib.Seq.{length-take-le}
use Rattle.std.proofs.lemmas.Result.{err_from_is_err_and}
use Rattle.lines.specs.Lines.{lines_in}
use Rattle.calls.proofs.SheetLaws.{laid_asks}
use Rattle.looking.specs.Looking.{answer_of, seen_plan, roomy}
use Rattle.looking.proofs.CallLaws.{six, not_six, roomy_means, laid_seen, refused_seen, leaves_as, refused}
use Rattle.looking.proofs.call.look.Goals as goal

pub returns-then-not-is_roomy : goal.returns-then-not-is_roomy
returns-then-not-is_roomy c = let e = six (seen_plan c.args.s.now (lines_in (take 2048 c.args.cells.now) c.args.lens)) (roomy c.args.cells.now c.args.path.now c.args.moves.now c.args.kept.now c.args.ranks.now) (sym c.is_roomy.ensures ∙ c.if-not-is_roomy.true) in
    record { answer = ap answer_of e; left = refused e }

pub returns-in_err-z : goal.returns-in_err-z
returns-in_err-z c = let p = err_from_is_err_and c.from_residual.result c.from_residual.ensures.1 in
    let e = refused_seen c.args.s.now (lines_in (take 2048 c.args.cells.now) c.args.lens) c.in_err-z.ensures.answer ∙ not_six (seen_plan c.args.s.now (lines_in (take 2048 c.args.cells.now) c.args.lens)) (roomy c.args.cells.now c.args.path.now c.args.moves.now c.args.kept.now c.args.ranks.now) (sym c.is_roomy.ensures ∙ c.if-not-is_roomy.false) in
    record { answer = rw (p.1, p.2) (ap answer_of e); left = refused e }

pub slice_bounds-look_known-end-2 : goal.slice_bounds-look_known-end-2
slice_bounds-look_known-end-2 c = sym (length-take-le 2048 c.args.cells.now (roomy_means c.args.cells.now c.args.path.now c.args.moves.now c.args.kept.now c.args.ranks.now (sym c.is_roomy.ensures ∙ c.if-not-is_roomy.false)).cells)

pub look_known-requires : goal.look_known-requires
look_known-requires c = record { taken = (laid_asks c.args.s.now c.in_ok-z.ensures.answer c.in_ok-z.ensures.tabled, length-take-le 2048 c.args.cells.now (roomy_means c.args.cells.now c.args.path.now c.args.moves.now c.args.kept.now c.args.ranks.now (sym c.is_roomy.ensures ∙ c.if-not-is_roomy.false)).cells); in_bounds = ((roomy_means c.args.cells.now c.args.path.now c.args.moves.now c.args.kept.now c.args.ranks.now (sym c.is_roomy.ensures ∙ c.if-not-is_roomy.false)).path, (roomy_means c.args.cells.now c.args.path.now c.args.moves.now c.args.kept.now c.args.ranks.now (sym c.is_roomy.ensures ∙ c.if-not-is_roomy.false)).moves, (roomy_means c.args.cells.now c.args.path.now c.args.moves.now c.args.kept.now c.args.ranks.now (sym c.is_roomy.ensures ∙ c.if-not-is_roomy.false)).kept, (roomy_means c.args.cells.now c.args.path.now c.args.moves.now c.args.kept.now c.args.ranks.now (sym c.is_roomy.ensures ∙ c.if-not-is_roomy.false)).ranks) }

pub returns : goal.returns
returns c = let e = laid_seen c.args.s.now (lines_in (take 2048 c.args.cells.now) c.args.lens) c.in_ok-z.ensures.answer ∙ not_six (seen_plan c.args.s.now (lines_in (take 2048 c.args.cells.now) c.args.lens)) (roomy c.args.cells.now c.args.path.now c.args.moves.now c.args.kept.now c.args.ranks.now) (sym c.is_roomy.ensures ∙ c.if-not-is_roomy.false) in
    record { answer = c.look_known.ensures.answer ∙ ap answer_of e; left = leaves_as e c.look_known.ensures.left }
