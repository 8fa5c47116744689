-- Document 01, "Two decoders": active is used only if its fitness is strictly less.
use Rattle.std.specs.Prelude.{Bool, true, false, Float}
use Rattle.std.specs.Float.Ieee.{lt}
use Rattle.plan.specs.Problem.{Problem, Genes}
use Rattle.fitness.specs.Fitness.{fitness_of}
use Rattle.board.specs.Board.{Board, end_of}
use Rattle.in_order.specs.InOrder.{place_in_order}
use Rattle.active.specs.Active.{place_active}

-- the fitness of a sheet; an activity that is not placed has the end 0
abbrev pub sheet_fitness : Problem → Board → Float
sheet_fitness p b = fitness_of p (end_of b)

abbrev pub pick_board : Bool → Board → Board → Board
pick_board true x y = x
pick_board false x y = y

abbrev pub better_placement : Problem → Genes → Board
better_placement p g =
    pick_board (lt (sheet_fitness p (place_active p g)) (sheet_fitness p (place_in_order p g))) (place_active p g) (place_in_order p g)
