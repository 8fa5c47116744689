-- Document 01, "Plans to hold on the card board": P1 to P8 as one table, each said of the rules themselves.
-- Its "frauds to try": refusing everything fails at P3, and at demand 3 for timing; one fixed answer at P2 with P3, which are told apart by their
-- steps alone; never moving at P3; one true step and idle ones after at P2 with P3, since the first step finds nothing better and the second does.
use Rattle.std.specs.Prelude.{ℕ, ◌≡◌, ◌⊎◌, true, false, List, [], ◌∷◌, map, ltb, Float, pos, negsuc, replicate, Some, None}
use Rattle.std.specs.Float.{fin, binary64}
use Rattle.std.specs.Float.Ieee.{lt, to_bits}
use Rattle.reader.specs.Answer.{Accepted}
use Rattle.reader.specs.Refusals.{number_of}
use Rattle.reader.specs.declared.refusal.Reason.TheVariants.{Contradiction}
use Rattle.intake.specs.Intake.{taken_in, problem_in}
use Rattle.bounds.specs.Bounds.{tardiness_of}
use Rattle.lines.specs.Lines.{Lines}
use Rattle.moves.specs.Moves.{pair_of, two}
use Rattle.moves.specs.declared.Move.{Move}
use Rattle.moves.specs.declared.Move.TheVariants.{Swap, Shift, Reassign}
use Rattle.moves.specs.declared.Pairing.{Pairing}
use Rattle.genes.specs.Indexed.{lines_of_genes}
use Rattle.timing.specs.Exactly.{Meeting}
use Rattle.calls.specs.Outcome.{no}
use Rattle.calls.specs.Timing.{timed_plan}
use Rattle.path.specs.Placing.{Placing, start_at, end_at}
use Rattle.reassign.specs.declared.Leaving.{Leaving}
use Rattle.reassign.specs.Reassignments.{first_place, last_place, on_line}
use Rattle.blocks.specs.BlockMoves.{block, blocks, block_moves}
use Rattle.trial.specs.declared.Taboo.{Taboo}
use Rattle.trial.specs.Taboo.{fresh, forbidden, pairs_after, left_after}
use Rattle.trial.specs.declared.Best.TheVariants.{Found}
use Rattle.search.specs.Search.{Improved, no_steps, nothing_better, improved, improve, number, State, begun, best_from, made}
use Rattle.plans.specs.PlanS.{bytes_of_s, plan_s, genes_of_s, bytes_of_zeros}

-- ---- Plan S improved

-- Plan S with so many steps is accepted as it is stored, and Improve gives this answer, which has this number on the screen.
pub record Answers (steps no : ℕ) (answer : Improved) : Type 0 where
  pub accepted : (taken_in (bytes_of_s steps)).answer ≡ Accepted
  pub answers : improve (plan_s steps) (genes_of_s steps) ≡ answer
  pub numbered : number answer ≡ no

-- A float is a whole number times a power of two: 6.0 is 3 · 2, 6.5 is 13 / 2.
abbrev pub six : Float
six = fin false 3 (pos 1)

abbrev pub six_and_a_half : Float
six_and_a_half = fin false 13 (negsuc 0)

abbrev pub five : Float
five = fin false 5 (pos 0)

-- What the search starts from, and what its second step starts from, after the swap with a fitness of 6.5.
abbrev pub first_state : (steps : ℕ) → State
first_state steps = begun (plan_s steps) (lines_of_genes (plan_s steps) (genes_of_s steps))

abbrev pub second_state : (steps : ℕ) → State
second_state steps = made (plan_s steps) 0 (first_state steps) six_and_a_half (Swap 1 0)

-- P1 steps 0: 10.
abbrev pub P1 : Type 0
P1 = Answers 0 10 no_steps

-- P2 steps 1: 13, since 6.5 is worse than 6.0.
pub record P2 : Type 0 where
  pub answers : Answers 1 13 (nothing_better six)
  pub start : (first_state 1).best ≡ six
  pub move : best_from (plan_s 1) 0 (first_state 1) ≡ Found six_and_a_half (Swap 1 0)
  pub worse : lt six six_and_a_half ≡ true

-- P3 steps 2 or 60: 14, order 1 1 0 0, fitness 5.0, the bits that document 01 prints. The machines stay. The gain is in the second step.
pub record P3 : Type 0 where
  pub two : Answers 2 14 (improved five (1 ∷ 1 ∷ 0 ∷ 0 ∷ []) (0 ∷ 1 ∷ 0 ∷ 1 ∷ []))
  pub sixty : Answers 60 14 (improved five (1 ∷ 1 ∷ 0 ∷ 0 ∷ []) (0 ∷ 1 ∷ 0 ∷ 1 ∷ []))
  pub gain : best_from (plan_s 2) 1 (second_state 2) ≡ Found five (Swap 0 0)
  pub bits : to_bits binary64 five ≡ 0x4014_0000_0000_0000

-- ---- moves

pub record Runs (s : Placing) (a from to : ℕ) : Type 0 where
  pub starts : start_at s a ≡ from
  pub ends : end_at s a ≡ to

-- Activity a finds no position on a line that holds b alone, the first one being behind the last; so there is no move, whatever else is known.
pub record NoPosition (s : Placing) (a b : ℕ) : Type 0 where
  pub first : first_place s (b ∷ []) a ≡ 1
  pub last : last_place s (b ∷ []) a ≡ 0
  pub move : (tail : List ℕ) (l : Leaving) (to time : ℕ) → l.activity ≡ a → on_line s tail (b ∷ []) l to time ≡ []

-- P4 own 5..5, target holds 5..5: no position.
abbrev pub P4 : Type 0
P4 = (s : Placing) (a b : ℕ) → Runs s a 5 5 → Runs s b 5 5 → NoPosition s a b

-- P5 positions 0..2: Swap 0, Swap 1, Shift 2 to 0, Shift 0 to 2. On any machine; and there is such a block.
pub record P5 : Type 0 where
  pub moves : (lines : Lines) (path : List ℕ) (m : ℕ) → blocks lines path ≡ block m 0 2 ∷ []
      → block_moves lines path ≡ Swap m 0 ∷ Swap m 1 ∷ Shift m 2 0 ∷ Shift m 0 2 ∷ []
  pub found : blocks ((0 ∷ 1 ∷ 2 ∷ []) ∷ []) (0 ∷ 1 ∷ 2 ∷ []) ≡ block 0 0 2 ∷ []

-- A move within a line.
abbrev pub InLine : Move → Type 0
InLine (Swap m i) = Unit {0}
InLine (Shift m i j) = Unit {0}
InLine (Reassign a r i q j) = ⊥

-- The same pair, either way round.
abbrev pub SamePair : Pairing → Pairing → Type 0
SamePair x y = (x ≡ y) ⊎ (x ≡ two y.second y.first)

-- P6 made at step 0: forbidden at 1..5, free at 6. After a block move that is any move of its pair, after a reassignment any way back to the machine
-- left; each is forbidden exactly before step 6.
pub record P6 : Type 0 where
  pub pair : (lines later : Lines) (left : List Taboo) (first second : Move) → InLine first → InLine second
      → SamePair (pair_of later second) (pair_of lines first)
      → (step : ℕ) → forbidden step (pairs_after 0 fresh lines first) left later second ≡ ltb step 6
  pub back : (later : Lines) (pairs : List Taboo) (a m i q j r k l : ℕ)
      → (step : ℕ) → forbidden step pairs (left_after 0 fresh (Reassign a m i q j)) later (Reassign a r k m l) ≡ ltb step 6

-- ---- timing

-- m0 a3 a0, m1 a1 a2
abbrev pub crossed : Lines
crossed = (3 ∷ 0 ∷ []) ∷ (1 ∷ 2 ∷ []) ∷ replicate 14 []

-- P7 all times 0, lines m0 a3 a0, m1 a1 a2: refused 8, though starts of 0 meet every bound.
pub record P7 : Type 0 where
  pub refused : timed_plan bytes_of_zeros crossed ≡ no Contradiction 0
  pub shown : number_of Contradiction ≡ 8
  pub feasible : Meeting (problem_in bytes_of_zeros (taken_in bytes_of_zeros)) crossed (λ a. 0)

-- P8 completion 10: deadlines 12, 10, -5, none give 0, 0, 15, 0.
abbrev pub P8 : Type 0
P8 = map (tardiness_of 10) (Some (pos 12) ∷ Some (pos 10) ∷ Some (negsuc 4) ∷ None ∷ []) ≡ 0 ∷ 0 ∷ 15 ∷ 0 ∷ []

-- ---- the table

pub record Table : Type 0 where
  pub p1 : P1
  pub p2 : P2
  pub p3 : P3
  pub p4 : P4
  pub p5 : P5
  pub p6 : P6
  pub p7 : P7
  pub p8 : P8
