-- P4, P5 and P6: positions, the moves of a block, and how long a move is forbidden. Assumes nothing.
use Prim.Native.Nat.{ℕ}
use mathlib.Core.Path.{◌≡◌, refl, ap, ◌∙◌}
use mathlib.Core.Logic.{⊎_elim}
use mathlib.Core.Bool.{Bool, true, false, ◌&&◌, ◌||◌}
use mathlib.Core.List.{List, [], ◌∷◌, ◌++◌}
use native.Mathlib.Omega.{arith}
use borrow.Author.Tests.{le-ltb, eq-eqb}
use lib.Dec.{eqb, ltb, leb}
use Rattle.graph.specs.Counting.{count_of, hit}
use Rattle.lines.specs.Lines.{Lines, holder, position_of, place_on}
use Rattle.moves.specs.Moves.{pair_of, two}
use Rattle.moves.specs.declared.Move.{Move}
use Rattle.moves.specs.declared.Move.TheVariants.{Swap, Shift, Reassign}
use Rattle.moves.specs.declared.Pairing.{Pairing}
use Rattle.ranking.specs.declared.held.Rated.{Rated}
use Rattle.path.specs.Placing.{Placing}
use Rattle.reassign.specs.Reassignments.{leading, first_place, last_place, one_if}
use Rattle.blocks.specs.BlockMoves.{block, blocks, blocks_from, block_moves, shifts, moves_of_all, is_among, once}
use Rattle.trial.specs.declared.Taboo.{Taboo}
use Rattle.trial.specs.Taboo.{fresh, listed, listing, listing_pair, either_way, forbidden, pairs_after}
use Rattle.plans.specs.Table.{Runs, NoPosition, P4, P5, InLine, SamePair, P6}

-- ---- P4

first-behind : (s : Placing) (a b : ℕ) → Runs s a 5 5 → Runs s b 5 5 → first_place s (b ∷ []) a ≡ 1
unfolding leading
first-behind s a b own held = rw (held.ends, own.starts) refl

last_before_lem : (s : Placing) (a b : ℕ) → Runs s a 5 5 → Runs s b 5 5 → last_place s (b ∷ []) a ≡ 0
unfolding leading
last_before_lem s a b own held = rw (held.starts, own.ends) refl

none_kept : (first last : ℕ) (x : Rated) → first ≡ 1 → last ≡ 0 → one_if (leb first last) x ≡ []
none_kept first last x f l = rw (f, l) refl

pub no_position : P4
no_position s a b own held =
    record {
      first = first-behind s a b own held;
      last = last_before_lem s a b own held;
      move = λ tail l to time h.
          none_kept (first_place s (b ∷ []) l.activity) (last_place s (b ∷ []) l.activity) _
          (ap (first_place s (b ∷ [])) h ∙ first-behind s a b own held)
          (ap (last_place s (b ∷ [])) h ∙ last_before_lem s a b own held);
    }

-- ---- P5

-- a move that is not among the earlier ones counts
counted : (earlier l : List Move) (x : Move) → is_among x earlier ≡ false → once earlier (x ∷ l) ≡ once (earlier ++ (x ∷ [])) l
unfolding once
counted earlier l x h = rw h refl

-- the two swaps differ, and so do the two shifts
swaps_apart : (m : ℕ) → is_among (Swap m 1) (Swap m 0 ∷ []) ≡ false
unfolding is_among
swaps_apart m = rw (eq-eqb m m refl) refl

shift_apart : (m : ℕ) → is_among (Shift m 2 0) (Swap m 0 ∷ Swap m 1 ∷ []) ≡ false
unfolding is_among
shift_apart m = refl

shifts_apart : (m : ℕ) → is_among (Shift m 0 2) (Swap m 0 ∷ Swap m 1 ∷ Shift m 2 0 ∷ []) ≡ false
unfolding is_among
shifts_apart m = rw (eq-eqb m m refl) refl

four_moves : (m : ℕ) → once [] (moves_of_all (block m 0 2 ∷ [])) ≡ Swap m 0 ∷ Swap m 1 ∷ Shift m 2 0 ∷ Shift m 0 2 ∷ []
unfolding once moves_of_all shifts is_among
four_moves m =
    counted (Swap m 0 ∷ []) (Shift m 2 0 ∷ Shift m 0 2 ∷ []) (Swap m 1) (swaps_apart m)
    ∙ counted (Swap m 0 ∷ Swap m 1 ∷ []) (Shift m 0 2 ∷ []) (Shift m 2 0) (shift_apart m)
    ∙ counted (Swap m 0 ∷ Swap m 1 ∷ Shift m 2 0 ∷ []) [] (Shift m 0 2) (shifts_apart m)

four_of_block : (lines : Lines) (path : List ℕ) (m : ℕ) → blocks lines path ≡ block m 0 2 ∷ []
    → block_moves lines path ≡ Swap m 0 ∷ Swap m 1 ∷ Shift m 2 0 ∷ Shift m 0 2 ∷ []
four_of_block lines path m h = ap (λ b. once [] (moves_of_all b)) h ∙ four_moves m

-- a line of three, all on the path
three_in_a_row : blocks ((0 ∷ 1 ∷ 2 ∷ []) ∷ []) (0 ∷ 1 ∷ 2 ∷ []) ≡ block 0 0 2 ∷ []
unfolding blocks_from holder position_of place_on count_of hit
three_in_a_row = refl

pub block_of_three : P5
block_of_three = record { moves = four_of_block; found = three_in_a_row }

-- ---- P6

-- only what was listed at step 0 can be live
listed_one : (u v x y step : ℕ) → listed step (listing 0 fresh u v) x y ≡ (ltb step 6 && (eqb u x && eqb v y))
unfolding listed
listed_one u v x y step = rw (le-ltb step 0 (omega arith)) (closed (ltb step 6 && (eqb u x && eqb v y)))
  where
    closed : (b : Bool) → (b || (false || (false || (false || (false || (false || false)))))) ≡ b
    closed true = refl
    closed false = refl

listed_itself : (x y step : ℕ) → listed step (listing 0 fresh x y) x y ≡ ltb step 6
listed_itself x y step = listed_one x y x y step ∙ rw (eq-eqb x x refl, eq-eqb y y refl) (whole (ltb step 6))
  where
    whole : (b : Bool) → (b && (true && true)) ≡ b
    whole true = refl
    whole false = refl

-- a pair looked for both ways: the second look adds nothing
either : (t w : Bool) → ((t || (t && w)) ≡ t) × (((t && w) || t) ≡ t)
either true true = (refl, refl)
either true false = (refl, refl)
either false w = (refl, refl)

module _ (x y step : ℕ) where
  same_way : either_way step (listing 0 fresh x y) (two x y) ≡ ltb step 6
  same_way = rw (listed_itself x y step, listed_one x y y x step) (either (ltb step 6) (eqb x y && eqb y x)).0

  other_way : either_way step (listing 0 fresh x y) (two y x) ≡ ltb step 6
  other_way = rw (listed_itself x y step, listed_one x y y x step) (either (ltb step 6) (eqb x y && eqb y x)).1

pair_live : (made back : Pairing) → SamePair back made → (step : ℕ) → either_way step (listing_pair 0 fresh made) back ≡ ltb step 6
pair_live made back h step =
    ⊎_elim (λ e. ap (either_way step (listing_pair 0 fresh made)) e ∙ same_way made.first made.second step)
    (λ e. ap (either_way step (listing_pair 0 fresh made)) e ∙ other_way made.first made.second step) h

pair_forbidden : (lines later : Lines) (left : List Taboo) (made back : Move) → InLine made → InLine back → SamePair (pair_of later back) (pair_of lines made)
    → (step : ℕ) → forbidden step (pairs_after 0 fresh lines made) left later back ≡ ltb step 6
pair_forbidden lines later left (Swap m i) (Swap r j) v w h step = pair_live (pair_of lines (Swap m i)) (pair_of later (Swap r j)) h step
pair_forbidden lines later left (Swap m i) (Shift r j k) v w h step = pair_live (pair_of lines (Swap m i)) (pair_of later (Shift r j k)) h step
pair_forbidden lines later left (Shift m i l) (Swap r j) v w h step = pair_live (pair_of lines (Shift m i l)) (pair_of later (Swap r j)) h step
pair_forbidden lines later left (Shift m i l) (Shift r j k) v w h step = pair_live (pair_of lines (Shift m i l)) (pair_of later (Shift r j k)) h step
pair_forbidden lines later left (Swap m i) (Reassign a r j q k) v w h step = absurd w
pair_forbidden lines later left (Shift m i l) (Reassign a r j q k) v w h step = absurd w
pair_forbidden lines later left (Reassign a m i q l) back v w h step = absurd v

pub forbidden_to_six : P6
forbidden_to_six = record { pair = pair_forbidden; back = λ later pairs a m i q j r k l step. listed_itself a m step }
