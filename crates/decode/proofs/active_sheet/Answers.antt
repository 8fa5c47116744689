-- `decode::active_sheet` meets its contract.
use Prim.Native.Nat.{ℕ}
use mathlib.Core.Path.{ap, ◌∙◌}
use mathlib.Core.List.{List}
use lib.ListN.{get_or}
use Rattle.words.specs.Words.{words}
use Rattle.plan.specs.Input.{problem_of, genes_of}
use Rattle.fitness.specs.Fitness.{fitness_of}
use Rattle.active.proofs.Theorem.{active-placed}
use Rattle.decode.proofs.EndLaws.{sheet_ended}
use Rattle.decode.proofs.active_sheet.Goals as goal

pub fitness_of-fitness-requires : goal.fitness_of-fitness-requires
fitness_of-fitness-requires c = record { placed = (c.requires.placed.0, c.requires.placed.1, c.requires.weighed.0); ended = sheet_ended c.requires.placed.1.activities.1 (active-placed (problem_of (words c.args.s.now) c.args.z) (genes_of (words c.args.s.now) c.args.z) c.requires.placed.1).sound c.place_active-rows.ensures.times.ended }

pub returns : goal.returns
returns c = record { fitness = c.fitness_of-fitness.ensures ∙ ap (λ (x : List ℕ). fitness_of (problem_of (words c.args.s.now) c.args.z) (λ a. get_or x a 0)) c.place_active-rows.ensures.times.ended; order = c.place_active-rows.ensures.order; times = c.place_active-rows.ensures.times }
