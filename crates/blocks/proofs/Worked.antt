-- Blocks, moves and an estimate worked out by the rules themselves: P5, a block of two, neighbours on the path that are none on the line, and
-- Plan S's lines as given.
use mathlib.Core.Path.{◌≡◌, refl}
use mathlib.Core.List.{[], ◌∷◌}
use Rattle.graph.specs.Counting as counting
use Rattle.graph.specs.Shop as shop
use Rattle.plan.specs.Problem.{Problem}
use Rattle.plan.specs.Input.{problem_of}
use Rattle.plan.specs.Input as input
use Rattle.plan.specs.Found.{layout_of}
use Rattle.intake.proofs.Worked.{plan_words, reading_of_s}
use Rattle.lines.specs.Lines.{Lines}
use Rattle.lines.specs.Lines as lines
use Rattle.moves.specs.Moves as moves
use Rattle.moves.specs.declared.Move.TheVariants.{Swap, Shift}
use Rattle.path.specs.Placing.{Placing, placed}
use Rattle.blocks.specs.BlockMoves.{block_moves}
use Rattle.blocks.specs.BlockMoves as blocks
use Rattle.blocks.specs.Estimates.{estimate}
use Rattle.blocks.specs.Estimates as estimates
use Rattle.blocks.specs.Keeping.{as_given, keep_best_estimated}

-- m0 a7 a8 a9, m1 a4 a5 a6
abbrev three : Lines
three = (7 ∷ 8 ∷ 9 ∷ []) ∷ (4 ∷ 5 ∷ 6 ∷ []) ∷ []

-- P5: positions 0..2
pub four_moves : block_moves three (7 ∷ 8 ∷ 9 ∷ []) ≡ Swap 0 0 ∷ Swap 0 1 ∷ Shift 0 2 0 ∷ Shift 0 0 2 ∷ []
unfolding blocks.blocks_from blocks.moves_of_all blocks.shifts blocks.once blocks.is_among lines.holder lines.position_of lines.place_on counting.count_of counting.hit
four_moves = refl

-- a5 a6, then a7 a8: two blocks of two, a move each
pub two_blocks : block_moves three (5 ∷ 6 ∷ 7 ∷ 8 ∷ []) ≡ Swap 1 1 ∷ Swap 0 0 ∷ []
unfolding blocks.blocks_from blocks.moves_of_all blocks.shifts blocks.once blocks.is_among lines.holder lines.position_of lines.place_on counting.count_of counting.hit
two_blocks = refl

-- a7 and a9 stand on one machine, but a8 stands between them
pub no_block : block_moves three (7 ∷ 9 ∷ []) ≡ []
unfolding blocks.blocks_from blocks.moves_of_all blocks.shifts blocks.once blocks.is_among lines.holder lines.position_of lines.place_on counting.count_of counting.hit
no_block = refl

-- ---- Plan S

abbrev plan : Problem
plan = problem_of (plan_words 3 4 1 5) (layout_of reading_of_s)

abbrev taken_as_given : Lines
taken_as_given = (0 ∷ 2 ∷ []) ∷ (1 ∷ 3 ∷ []) ∷ []

abbrev timed : Placing
timed = placed (0 ∷ 1 ∷ 2 ∷ 3 ∷ []) (0 ∷ 3 ∷ 3 ∷ 7 ∷ []) (3 ∷ 7 ∷ 4 ∷ 12 ∷ [])

pub plan_s_moves : block_moves taken_as_given (0 ∷ 1 ∷ 3 ∷ []) ≡ Swap 1 0 ∷ []
unfolding blocks.blocks_from blocks.moves_of_all blocks.shifts blocks.once blocks.is_among lines.holder lines.position_of lines.place_on counting.count_of counting.hit
plan_s_moves = refl

-- a3 from a2's end at 4 to 9, then a1 to 13; that is the makespan of P2's move
pub plan_s-estimate : estimate plan taken_as_given timed (9 ∷ 5 ∷ 5 ∷ 0 ∷ []) (Swap 1 0) ≡ 13
unfolding estimates.through shop.greatest moves.swap_at input.owner input.seconds input.firsts
plan_s-estimate = refl

-- a single move is not sorted
pub plan_s_kept : keep_best_estimated plan taken_as_given timed (9 ∷ 5 ∷ 5 ∷ 0 ∷ []) (Swap 1 0 ∷ []) ≡ as_given (Swap 1 0) ∷ []
plan_s_kept = refl
