-- The rule that a decoder places by, and cells that hold what it placed.
use Rattle.std.specs.Prelude.{ℕ, ◌≡◌, List}
use Rattle.plan.specs.Problem.{Problem, Genes}
use Rattle.board.specs.Board.{Board}
use Rattle.board.specs.Sound.{Sound}
use Rattle.in_order.specs.InOrder.{place_in_order}
use Rattle.in_order.specs.Waiting.{Timed}
use Rattle.active.specs.Active.{place_active}
use Rattle.decode.specs.Decode.{better_placement}
use Rattle.decoding.specs.declared.Decoder.{Decoder}
use Rattle.decoding.specs.declared.Decoder.TheVariants.{InOrder, Active, Better}

abbrev pub rule_of : Decoder → Problem → Genes → Board
rule_of InOrder = place_in_order
rule_of Active = place_active
rule_of Better = better_placement

-- The cells hold the order and the times of some sound board of n activities.
pub record Laid (n : ℕ) (order starts ends setups : List ℕ) : Type 0 where
  pub board : Board
  pub sound : Sound n board
  pub ordered : order ≡ board.order
  pub timed : Timed board starts ends setups
