-- `active::placing::place_chosen` meets its contract. The loop's invariant: placing the rest upon the board so far gives what placing all does.
use Prim.Native.Nat.{◌-◌}
use Rattle.words.specs.Words.{words}
use Rattle.plan.specs.Input.{problem_of, genes_of}
use Rattle.board.specs.Board.{board_of}
use Rattle.active.proofs.PlacingLaws.{Placing}
use Rattle.active.proofs.placing.place_chosen.Given as goal

abbrev pub invariant-loop-seat : goal.invariant-loop-seat
invariant-loop-seat l = Placing (problem_of (words l.s) l.z) (genes_of (words l.s) l.z) l.ranks l.initial.order l.order l.kept (board_of l.count l.order l.starts l.ends l.setups l.lines l.steps l.settled) l.count

abbrev pub decreases-loop-seat : goal.decreases-loop-seat
decreases-loop-seat l = l.z.activities - l.count
