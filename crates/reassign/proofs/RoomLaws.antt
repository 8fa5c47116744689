-- Where an activity may go on another machine's line, and the move that this offers. Assumes nothing.
use Rattle.std.specs.Prelude.{None, Some}
use mathlib.Core.Path.{◌≡◌, refl, sym, ap, ◌∙◌}
use mathlib.Core.Bool.{Bool, true, false}
use mathlib.Core.List.{List, [], ◌∷◌}
use Prim.Native.Nat.{ℕ, ◌+◌, ◌*◌, ◌-◌, ◌≤◌, ◌<◌}
use native.Mathlib.Omega.{arith}
use borrow.Author.Tests.{le-leb, lt-leb, eq-eqb, ne_eqb}
use lib.ListN.{get_or, take, drop}
use Rattle.plan.specs.Problem.{Problem}
use Rattle.lines.specs.Lines.{Lines, lines_in}
use Rattle.lines.proofs.StretchLaws.{line_in}
use Rattle.moves.specs.Moves.{line_of, Holds}
use Rattle.ranking.specs.declared.held.Rated.{Rated}
use Rattle.path.specs.Placing.{Placing}
use Rattle.reassign.specs.declared.Spot.{Spot}
use Rattle.reassign.specs.declared.Leaving.{Leaving}
use Rattle.reassign.specs.Reassignments.{first_place, last_place, any_place, best_spot, length_at, way_of, spot_of, time_on, room_if, room_in, rated_at, one_if, to_machine}

-- machine m's line, as the code lends it
pub line_lent : {cells lens : List ℕ} (m : ℕ) → Holds cells lens → m < 16 → take (128 * m + get_or lens m 0 - 128 * m) (drop (128 * m) cells) ≡ line_of (lines_in cells lens) m
line_lent {cells} {lens} m held h =
    let q : 128 * m + get_or lens m 0 - 128 * m ≡ get_or lens m 0 = omega arith in
    rw q (sym (line_in cells lens m (omega (arith, held.sixteen)) (omega (arith, held.roomy, held.fit m))))

-- ---- room on a line

module _ (s : Placing) (tail line : List ℕ) (l : Leaving) (time : ℕ) {first last : ℕ} (e : first ≡ first_place s line l.activity) (f : last ≡ last_place s line l.activity) where
  pub no_room : last < first → None ≡ room_in s tail line l time
  no_room h = let t : any_place s line l.activity ≡ false = lt-leb (first_place s line l.activity) (last_place s line l.activity) (omega arith) in rw t

  pub some_room : first ≤ last → {spot : Spot} → spot ≡ spot_of (length_at s tail line (way_of l time)) first last → Some spot ≡ room_in s tail line l time
  some_room h q =
      let t : any_place s line l.activity ≡ true = le-leb (first_place s line l.activity) (last_place s line l.activity) (omega arith) in
      ap Some q ∙ rw (t, e, f)

-- ---- the move that it offers

nowhere_none : (t : Bool) (spot : Spot) (x : Rated) → room_if t spot ≡ None → one_if t x ≡ []
nowhere_none false spot x e = refl
nowhere_none true spot x e = let z : ◌≡◌ {A = ℕ} 0 1 = cc in absurd (omega arith)

at_one : (t : Bool) (best spot : Spot) (l : Leaving) (to time : ℕ) → room_if t best ≡ Some spot → one_if t (rated_at l to time best) ≡ rated_at l to time spot ∷ []
at_one false best spot l to time e = let z : ◌≡◌ {A = ℕ} 0 1 = cc in absurd (omega arith)
at_one true best spot l to time e = let q : best ≡ spot = cc in ap (λ (x : Spot). rated_at l to time x ∷ []) q

module _ (p : Problem) (lines : Lines) (s : Placing) (tail : List ℕ) (l : Leaving) (m : ℕ) where
  pub none_to_own : m ≡ l.machine → to_machine p lines s tail l m ≡ []
  none_to_own e = rw (eq-eqb m l.machine e)

  module _ (other : m ≡ l.machine → ⊥) {time : ℕ} (is : time ≡ time_on p l.activity m) where
    pub none_there : room_in s tail (line_of lines m) l time ≡ None → to_machine p lines s tail l m ≡ []
    none_there e =
        rw (ne_eqb m l.machine other, ← is) (nowhere_none (any_place s (line_of lines m) l.activity) (best_spot s tail (line_of lines m) l time) _ e)

    pub one_there : (spot : Spot) → room_in s tail (line_of lines m) l time ≡ Some spot → to_machine p lines s tail l m ≡ rated_at l m time spot ∷ []
    one_there spot e =
        rw (ne_eqb m l.machine other, ← is) (at_one (any_place s (line_of lines m) l.activity) (best_spot s tail (line_of lines m) l time) spot l m time e)
