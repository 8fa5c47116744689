-- Document 01, "One search step": what a step looks at and which moves it tries: block moves, then reassignments.
use Rattle.std.specs.Prelude.{List, ◌++◌}
use Rattle.plan.specs.Problem.{Problem}
use Rattle.lines.specs.Lines.{Lines}
use Rattle.moves.specs.declared.Move.{Move}
use Rattle.ranking.specs.declared.held.Rated.{Rated}
use Rattle.timing.specs.Timing.{timing_order, starts_of, ends_of}
use Rattle.path.specs.Placing.{Placing, placed}
use Rattle.path.specs.Path.{critical_path}
use Rattle.path.specs.Tails.{tails}
use Rattle.blocks.specs.BlockMoves.{block_moves}
use Rattle.blocks.specs.Keeping.{keep_best_estimated}
use Rattle.reassign.specs.Reassignments.{best_reassignments}
use Rattle.trial.specs.Trial.{moves_of}

-- The lines as they are timed.
abbrev pub placing_of : Problem → Lines → Placing
placing_of p lines = placed (timing_order p lines) (starts_of p lines) (ends_of p lines)

-- The block moves that are tried, and the reassignments, by a placing.
abbrev pub blocks_by : Problem → Lines → Placing → List Rated
blocks_by p lines s = keep_best_estimated p lines s (tails p lines s) (block_moves lines (critical_path p lines s))

abbrev pub others_by : Problem → Lines → Placing → List Rated
others_by p lines s = best_reassignments p lines s (tails p lines s) (critical_path p lines s)

abbrev pub moves_by : Problem → Lines → Placing → List Move
moves_by p lines s = moves_of (blocks_by p lines s) ++ moves_of (others_by p lines s)

-- All that a step tries, in order.
abbrev pub moves_from : Problem → Lines → List Move
moves_from p lines = moves_by p lines (placing_of p lines)
