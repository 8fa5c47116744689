-- Small lines worked out by the rules themselves: those of P7, what number 7 says of them, and the lines of Plan S's order.
-- Assumes nothing.
use Rattle.std.specs.Prelude.{None, Some}
use mathlib.Core.Path.{◌≡◌, refl}
use mathlib.Core.Bool.{true, false}
use mathlib.Core.List.{[], ◌∷◌}
use lib.ListN.{get_or, take}
use Rattle.graph.specs.Counting.{count_of, hit}
use Rattle.graph.specs.Filing.{naming}
use Rattle.lines.specs.Lines.{Lines, standing, standings, all, all_known, well_formed, befores, afters, line_pred, line_succ, holder, machine_of, place_on, position_of}
use Rattle.lines.specs.Dealing.{at_end, dealt, lines_of}

-- m0 a3 a0, m1 a1 a2
abbrev seventh : Lines
seventh = (3 ∷ 0 ∷ []) ∷ (1 ∷ 2 ∷ []) ∷ []

-- two machines and four activities; one machine too few; one activity missing; one too many
seven : (well_formed 4 2 seventh ≡ true) × (well_formed 4 1 seventh ≡ false) × (well_formed 5 2 seventh ≡ false) × (well_formed 3 2 seventh ≡ false)
unfolding well_formed standing standings all all_known count_of hit
seven = (refl, refl, refl, refl)

-- a0 stands twice, and a1 not at all
twice : well_formed 3 2 ((0 ∷ 2 ∷ []) ∷ (0 ∷ []) ∷ []) ≡ false
unfolding well_formed standing standings all all_known count_of hit
twice = refl

-- a1 is the first of its line: the last of the machine before does not stand before it
neighbours : (line_pred seventh 0 ≡ Some 3) × (line_pred seventh 1 ≡ None) × (line_succ seventh 0 ≡ None) × (line_succ seventh 3 ≡ Some 0)
unfolding befores afters naming
neighbours = (refl, refl, refl, refl)

where_it_stands : (machine_of seventh 2 ≡ 1) × (position_of seventh 2 ≡ 1) × (machine_of seventh 3 ≡ 0) × (position_of seventh 3 ≡ 0)
unfolding holder position_of place_on count_of hit
where_it_stands = (refl, refl, refl, refl)

-- Plan S: a0 and a2 on m0, a1 and a3 on m1
plan_s_lem : take 2 (lines_of (λ a. get_or (0 ∷ 1 ∷ 0 ∷ 1 ∷ []) a 0) (0 ∷ 1 ∷ 2 ∷ 3 ∷ [])) ≡ (0 ∷ 2 ∷ []) ∷ (1 ∷ 3 ∷ []) ∷ []
unfolding lines_of dealt at_end
plan_s_lem = refl
