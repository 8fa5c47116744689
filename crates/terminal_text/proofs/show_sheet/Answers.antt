use mathlib.Core.Path.{sym, ◌∙◌}
use Rattle.decode.specs.Decode.{better_placement}
use Rattle.decoding.specs.Decoding.{decoded_plan}
use Rattle.terminal_text.proofs.ShownLaws.{sheet_shown, decoded_columned, short_as}
use Rattle.terminal_text.proofs.show_sheet.Goals as goal

pub returns-in-Ok : goal.returns-in-Ok
returns-in-Ok c =
    let told = sym c.in-Ok.is ∙ c.decode-answer.ensures.answer in
    short_as (sheet_shown c.args.outcome (decoded_plan better_placement c.args.s.now) _ _ _ _ _ told (decoded_columned better_placement c.args.s.now) c.decode-answer.ensures.rows) c.put_first.ensures
