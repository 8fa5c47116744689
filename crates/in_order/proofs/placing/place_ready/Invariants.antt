-- `in_order::placing::place_ready` meets its contract. The loop's invariant: placing the rest upon the board so far gives what placing all does.
use Rattle.words.specs.Words.{words}
use Rattle.plan.specs.Input.{problem_of, genes_of}
use Rattle.board.specs.Board.{board_of}
use Rattle.in_order.proofs.SeatingLaws.{Seating}
use Rattle.in_order.proofs.placing.place_ready.Given as goal

abbrev pub invariant-loop-a : goal.invariant-loop-a
invariant-loop-a l = Seating (problem_of (words l.s) l.z) (genes_of (words l.s) l.z) l.ready l.initial.order l.order (board_of l.count l.order l.starts l.ends l.setups l.lines l.steps l.settled) l.count l.a-index
