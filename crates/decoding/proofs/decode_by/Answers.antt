-- `decoding::decode_by` meets its contract.
use mathlib.Core.Path.{sym, ap, ◌∙◌}
use Rattle.calls.specs.Outcome.{answer_of}
use Rattle.calls.specs.Timing.{roomy}
use Rattle.calls.proofs.SheetLaws.{roomy_on, rows_room, laid_asks, leaves_as}
use Rattle.decoding.specs.Decoding.{decoded_plan}
use Rattle.decoding.specs.Rule.{rule_of}
use Rattle.decoding.proofs.CallLaws.{laid_decoded}
use Rattle.decoding.proofs.decode_by.Goals as goal

pub write_placed-requires : goal.write_placed-requires
write_placed-requires c = record { taken = laid_asks c.args.s.now c.in_ok-z.ensures.answer c.in_ok-z.ensures.tabled; roomy = rows_room c.args.activities.now c.args.machines.now c.args.starts.now c.args.ends.now c.args.setups.now (sym c.rows_fit.ensures ∙ c.if-not-rows_fit.false) }

pub returns : goal.returns
returns c = let rule = rule_of c.args.which in
    let room = roomy c.args.activities.now c.args.machines.now c.args.starts.now c.args.ends.now c.args.setups.now in
    let e = laid_decoded rule c.args.s.now c.in_ok-z.ensures.answer ∙ roomy_on (decoded_plan rule c.args.s.now) room (sym c.rows_fit.ensures ∙ c.if-not-rows_fit.false) in
    record { answer = c.write_placed.ensures.answer ∙ ap answer_of e; rows = leaves_as e c.write_placed.ensures.rows }
