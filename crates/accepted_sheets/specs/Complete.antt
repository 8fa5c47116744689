-- A sheet that leaves nobody out, by either decoder or the better of the two, is accepted by the sheet check; and nobody is left out where neither
-- number 4 nor outcome 11 is given.
use Rattle.std.specs.Prelude.{◌≡◌, length}
use Rattle.plan.specs.Problem.{Problem, Genes}
use Rattle.board.specs.Board.{Board}
use Rattle.in_order.specs.InOrder.{place_in_order}
use Rattle.active.specs.Active.{place_active}
use Rattle.decode.specs.Decode.{better_placement}
use Rattle.sheet.specs.Sheet.{check_sheet}
use Rattle.sheet.specs.declared.Verdict.TheVariants.{Accepted}
use Rattle.accepted_sheets.specs.SheetRows.{rows_of}

-- every activity is placed: there are as many rows as activities, and none stands there twice (WellPlaced, ActivePlaced, WellDecoded)
abbrev pub Complete : Problem → Board → Type 0
Complete p b = length b.order ≡ p.n

abbrev pub Passes : Problem → Genes → Board → Type 0
Passes p g b = Complete p b → check_sheet p (rows_of g b) ≡ Accepted

pub record CompleteAccepted (p : Problem) (g : Genes) : Type 0 where
  pub in_order : Passes p g (place_in_order p g)
  pub active : Passes p g (place_active p g)
  pub shown : Passes p g (better_placement p g)

-- what holds where task order and predecessors close no circle, each activity has a machine and the order gives them all
pub record NobodyLeftOut (p : Problem) (g : Genes) : Type 0 where
  pub in_order : Complete p (place_in_order p g)
  pub active : Complete p (place_active p g)
  pub shown : Complete p (better_placement p g)
  pub accepted : check_sheet p (rows_of g (better_placement p g)) ≡ Accepted
