-- `looking::sight::see_kept` meets its contract.
use mathlib.Core.Path.{refl}
use Rattle.words.specs.Words.{words}
use Rattle.plan.specs.Input.{problem_of}
use Rattle.looking.proofs.SightLaws.{kept_as, ranks_as, held_count}
use Rattle.looking.proofs.sight.see_kept.Goals as goal

pub find_moves-moves-requires : goal.find_moves-moves-requires
find_moves-moves-requires c = record { ready = (c.requires.ready.0, c.requires.ready.1, c.requires.ready.2, c.is_flexible-choices.ensures (problem_of (words c.args.s.now) c.args.z) c.requires.ready.0.tabled refl c.requires.ready.0.accepted.activities.1); lines_held = (c.requires.lines_held.0, c.requires.lines_held.1) }

pub write_kept-requires : goal.write_kept-requires
write_kept-requires c = (c.requires.lines_held.2, c.requires.lines_held.3)

pub returns : goal.returns
returns c = record { counts = (held_count c.find_moves-moves.result.blocks c.find_moves-moves.ensures.blocks, held_count c.find_moves-moves.result.others c.find_moves-moves.ensures.others); kept = kept_as c.find_moves-moves.ensures.blocks c.find_moves-moves.ensures.others c.args.kept.now c.write_kept.ensures.kept; ranks = ranks_as c.find_moves-moves.ensures.blocks c.find_moves-moves.ensures.others c.args.ranks.now c.write_kept.ensures.ranks }
