-- Document 01, "One search step": of more than three block moves keep the three smallest estimates, ties as given; three or fewer stay unsorted.
use Rattle.std.specs.Prelude.{ℕ, cond, List, map, leb, length}
use Rattle.plan.specs.Problem.{Problem}
use Rattle.lines.specs.Lines.{Lines}
use Rattle.moves.specs.declared.Move.{Move}
use Rattle.ranking.specs.declared.held.Rated.{Rated}
use Rattle.ranking.specs.Ranking.{best_three}
use Rattle.path.specs.Placing.{Placing}
use Rattle.blocks.specs.Estimates.{estimate}

-- A move that is not sorted, and one that goes by its estimate.
abbrev pub as_given : Move → Rated
as_given move = record { length = 0; time = 0; made = move }

abbrev pub estimated : Problem → Lines → Placing → (tail : List ℕ) → Move → Rated
estimated p lines s tail move = record { length = estimate p lines s tail move; time = 0; made = move }

abbrev pub keep_best_estimated : Problem → Lines → Placing → (tail : List ℕ) → List Move → List Rated
keep_best_estimated p lines s tail moves =
    cond (leb (length moves) 3) (map as_given moves) (best_three (map (estimated p lines s tail) moves))
