-- What holds of every board that a decoder makes: each activity stands on it once at most, one that is not settled has no end, and no end
-- is later than document 01 says.
use Rattle.std.specs.Prelude.{ℕ, ◌+◌, ◌*◌, ◌≤◌, ◌<◌, ◌≡◌, List, length, get_or}
use Rattle.graph.specs.Counting.{count_of, Below}
use Rattle.board.specs.Board.{Board}
use Rattle.board.specs.declared.Seat.{Seat}

-- the latest that any can end after so many placings: each adds a way and a span of three, each no longer than 2147483647
abbrev pub latest : ℕ → ℕ
latest k = (4 * k + 1) * 2147483647

-- a cell for each of n activities, sixteen machines and thirty-two tasks
pub record Sized (n : ℕ) (b : Board) : Type 0 where
  pub starts : length b.starts ≡ n
  pub ends : length b.ends ≡ n
  pub setups : length b.setups ≡ n
  pub lines : length b.lines ≡ 16
  pub steps : length b.steps ≡ 32
  pub settled : length b.settled ≡ n

pub record Sound (n : ℕ) (b : Board) : Type 0 where
  pub sized : Sized n b
  pub known : Below n b.order
  pub once : (a : ℕ) → count_of a b.order ≤ get_or b.settled a 0
  pub flags : (a : ℕ) → get_or b.settled a 0 ≤ 1
  pub unsettled : (a : ℕ) → get_or b.settled a 0 ≡ 0 → get_or b.ends a 0 ≡ 0
  pub within : (a : ℕ) → get_or b.ends a 0 ≤ latest (length b.order)

-- there is a cell for everything that a seat is written into
pub record Room (s : Seat) (task count : ℕ) (order starts ends setups lines steps settled : List ℕ) : Type 0 where
  pub ordered : count < length order
  pub begun : s.activity < length starts
  pub ended : s.activity < length ends
  pub prepared : s.activity < length setups
  pub lined : s.machine < length lines
  pub tasked : task < length steps
  pub flagged : s.activity < length settled
