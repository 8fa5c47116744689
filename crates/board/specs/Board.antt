-- Document 01, "Two decoders": both use the bounds of timing, with the last placed on the machine and of the task as line and task
-- predecessor; unsettled predecessors bind nothing. An activity without a machine is settled, its end is 0, and it is not placed.
use Rattle.std.specs.Prelude.{ℕ, ◌+◌, Bool, List, [], ◌∷◌, ◌++◌, eqb, ltb, get_or, set, take, replicate, Option}
use Rattle.graph.specs.Filing.{cons_if}
use Rattle.graph.specs.Links.{linked, to_if}
use Rattle.graph.specs.Shop.{greatest}
use Rattle.plan.specs.Problem.{Problem}
use Rattle.bounds.specs.Bounds.{setup_of, span_of}
use Rattle.timing.specs.Placing.{start_after}
use Rattle.board.specs.declared.Seat.{Seat}

pub record Board : Type 0 where
  -- the activities placed, in placing order
  pub order : List ℕ
  -- by activity, 0 where it is not placed
  pub starts : List ℕ
  pub ends : List ℕ
  pub setups : List ℕ
  -- the last placed on each machine, and of each task; a number that is no activity stands for none
  pub lines : List ℕ
  pub steps : List ℕ
  -- by activity: 1 where it is placed, or passed over for want of a machine
  pub settled : List ℕ

-- how lent cells hold a board on which `count` are placed
abbrev pub board_of : (count : ℕ) → (order starts ends setups lines steps settled : List ℕ) → Board
board_of count order starts ends setups lines steps settled =
    record {
      order = take count order;
      starts = starts;
      ends = ends;
      setups = setups;
      lines = lines;
      steps = steps;
      settled = settled;
    }

abbrev pub empty_board : (n : ℕ) → Board
empty_board n =
    record {
      order = [];
      starts = replicate n 0;
      ends = replicate n 0;
      setups = replicate n 0;
      lines = replicate 16 n;
      steps = replicate 32 n;
      settled = replicate n 0;
    }

abbrev pub is_settled : Board → ℕ → Bool
is_settled b a = eqb (get_or b.settled a 0) 1

abbrev pub end_of : Board → ℕ → ℕ
end_of b a = get_or b.ends a 0

-- the last placed that a cell tells of, of n activities
abbrev pub last_placed : (n : ℕ) → (cells : List ℕ) → ℕ → Option ℕ
last_placed n cells k = to_if (ltb (get_or cells k 0) n) (get_or cells k 0)

abbrev pub last_on : Problem → Board → (machine : ℕ) → Option ℕ
last_on p b m = last_placed p.n b.lines m

abbrev pub last_of : Problem → Board → (task : ℕ) → Option ℕ
last_of p b t = last_placed p.n b.steps t

unfoldable pub those : (ℕ → Bool) → List ℕ → List ℕ
those test [] = []
those test (a ∷ l) = cons_if (test a) a (those test l)

-- the start that the board allows an activity on a machine; `on` has the machine of each that is placed
abbrev pub start_on : Problem → (on : ℕ → ℕ) → Board → (activity machine : ℕ) → ℕ
start_on p on b a m =
    greatest (end_of b) (those (is_settled b) (p.predecessors a))
    (greatest (λ q. end_of b q + p.transport (on q) m) (linked (last_of p b (p.task_of a))) (greatest (end_of b) (linked (last_on p b m)) (p.release a)))

-- an activity's place on its machine, from its start and the one before it there
abbrev pub seat_from : Problem → (activity machine : ℕ) → (line : Option ℕ) → (start : ℕ) → Seat
seat_from p a m line start =
    record {
      activity = a;
      machine = m;
      start = start;
      finish = start + span_of p a m (setup_of p a m line);
      setup = setup_of p a m line;
    }

abbrev pub seat : Problem → (on : ℕ → ℕ) → Board → (activity machine : ℕ) → Seat
seat p on b a m = seat_from p a m (last_on p b m) (start_on p on b a m)

-- .. after `line` on its machine and `step` in its task, with the way from that one's machine
abbrev pub seat_after : Problem → (activity machine : ℕ) → (line step : Option ℕ) → (way : ℕ) → (ends : ℕ → ℕ) → Seat
seat_after p a m line step way ends = seat_from p a m line (start_after p a line step way ends)

-- settled, unplaced
abbrev pub settle : ℕ → Board → Board
settle a b =
    record {
      order = b.order;
      starts = b.starts;
      ends = b.ends;
      setups = b.setups;
      lines = b.lines;
      steps = b.steps;
      settled = set b.settled a 1;
    }

-- placed, as the last on its machine and of its task
abbrev pub sit : Problem → Seat → Board → Board
sit p s b =
    record {
      order = b.order ++ s.activity ∷ [];
      starts = set b.starts s.activity s.start;
      ends = set b.ends s.activity s.finish;
      setups = set b.setups s.activity s.setup;
      lines = set b.lines s.machine s.activity;
      steps = set b.steps (p.task_of s.activity) s.activity;
      settled = set b.settled s.activity 1;
    }
