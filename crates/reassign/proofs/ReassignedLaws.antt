-- Each of the best reassignments moves an activity of the path from where it stands to a position on another machine's line; in
-- well-formed lines such a move fits. Assumes nothing.
use mathlib.Core.Path.{◌≡◌, refl, sym, subst}
use mathlib.Core.Bool.{Bool, true, false, cond}
use mathlib.Core.List.{List, [], ◌∷◌}
use Prim.Native.Nat.{ℕ, zero, suc, ◌+◌, ◌-◌, ◌≤◌, ◌<◌}
use native.Mathlib.Omega.{arith}
use borrow.Author.Tests.{leb-true, eqb-false}
use lib.Dec.{leb, eqb, ltb}
use lib.ListN.{length, get_or}
use Rattle.graph.specs.Counting.{count_of, Below}
use Rattle.graph.proofs.CountingLaws.{below_of, hit-eq}
use Rattle.plan.specs.Problem.{Problem}
use Rattle.lines.specs.Lines.{Lines, machine_of, position_of, WellFormed}
use Rattle.lines.proofs.LineLaws.{machine_below, stands_at}
use Rattle.moves.specs.Moves.{line_of, Fits, Within}
use Rattle.moves.specs.declared.Move.{Move}
use Rattle.moves.specs.declared.Move.TheVariants.{Reassign}
use Rattle.moves.proofs.StandingLaws.{reassign_fits}
use Rattle.ranking.specs.Ranking.{ranked}
use Rattle.ranking.specs.declared.held.Rated.{Rated}
use Rattle.ranking.specs.declared.held.Three.{Three}
use Rattle.ranking.proofs.EveryLaws.{Every, every_append, every_best, every_held}
use Rattle.path.specs.Placing.{Placing, start_at, end_at}
use Rattle.reassign.specs.declared.Leaving.{Leaving}
use Rattle.reassign.specs.Reassignments.{flexible, least, least_of, spot_of, length_at, leaving_of, way_of, rated_at, one_if, on_line, first_place, last_place, time_on, to_machine, gathered, of_activity, reassignments, best_reassignments}
use Rattle.reassign.proofs.PositionLaws.{leading_few}

-- a path activity from where it stands to another of its candidates
pub record Reassigns (p : Problem) (lines : Lines) (path : List ℕ) (x : Rated) : Type 0 where
  pub activity : ℕ
  pub machine : ℕ
  pub place : ℕ
  pub made : x.made ≡ Reassign activity (machine_of lines activity) (position_of lines activity) machine place
  pub on_path : 0 < count_of activity path
  pub able : 0 < count_of machine (p.candidates activity)
  pub other : machine_of lines activity ≡ machine → ⊥
  pub within : place ≤ length (line_of lines machine)

-- the least of some positions is one of them
least_within : (f : ℕ → ℕ) (best at count last : ℕ) → best ≤ last → at + count ≤ suc last → least f best at count ≤ last
unfolding least
least_within f best at zero last h k = h
least_within f best at (suc count) last h k = least_within f (cond (ltb (f at) (f best)) at best) (suc at) count last (by_test (ltb (f at) (f best))) (omega arith)
  where
    by_test : (t : Bool) → cond t at best ≤ last
    by_test true = omega arith
    by_test false = h

-- what is so of each part is so of all
pub every_gathered : (P : Rated → Type 0) (f : ℕ → List Rated) (l : List ℕ) → ((x : ℕ) → 0 < count_of x l → Every P (f x)) → Every P (gathered f l)
unfolding Every gathered count_of
every_gathered P f [] h = tt
every_gathered P f (x ∷ l) h =
    every_append P (f x) (gathered f l) (h x (omega (arith, hit-eq x x refl))) (every_gathered P f l (λ y k. h y (omega arith)))

module _ (p : Problem) (lines : Lines) (s : Placing) (tail path : List ℕ) where
  module _ (a : ℕ) (here : 0 < count_of a path) (m : ℕ) (able : 0 < count_of m (p.candidates a)) where
    abbrev leaving : Leaving
    leaving = leaving_of p lines s tail a

    abbrev first : ℕ
    first = first_place s (line_of lines m) a

    abbrev last : ℕ
    last = last_place s (line_of lines m) a

    abbrev lengths : ℕ → ℕ
    lengths = length_at s tail (line_of lines m) (way_of leaving (time_on p a m))

    one : (t : Bool) → leb first last ≡ t → (eqb m (machine_of lines a) ≡ false) → Every (Reassigns p lines path) (one_if t (rated_at leaving m (time_on p a m) (spot_of lengths first last)))
    unfolding Every
    one true e ne =
        let l : last ≤ length (line_of lines m) = leading_few (λ x. ltb (start_at s x) (end_at s a)) (line_of lines m) in
        let k : first ≤ last = leb-true first last e in
        let w : least_of lengths first last ≤ last = least_within lengths first (suc first) (last - first) last k (omega arith) in
        (record { activity = a; machine = m; place = least_of lengths first last; made = refl; on_path = here; able = able; other = λ q. eqb-false m (machine_of lines a) ne (sym q); within = omega arith }, tt)
    one false e ne = tt

    other_than : (t : Bool) → eqb m (machine_of lines a) ≡ t → Every (Reassigns p lines path) (cond t [] (on_line s tail (line_of lines m) leaving m (time_on p a m)))
    unfolding Every
    other_than true e = tt
    other_than false e = one (leb first last) refl e

    to_machine' : Every (Reassigns p lines path) (to_machine p lines s tail leaving m)
    to_machine' = other_than (eqb m (machine_of lines a)) refl

  pub all_reassign : Every (Reassigns p lines path) (reassignments p lines s tail path)
  all_reassign =
      every_gathered (Reassigns p lines path) (of_activity p lines s tail) path
      (λ a h. every_gathered (Reassigns p lines path) (to_machine p lines s tail (leaving_of p lines s tail a)) (p.candidates a) (λ m k. to_machine' a h m k))

  by_choice : (t : Bool) (l : List Rated) → Every (Reassigns p lines path) l → Every (Reassigns p lines path) (cond t l [])
  unfolding Every
  by_choice true l e = e
  by_choice false l e = tt

  -- for the search: each of those kept
  pub best_reassign : Every (Reassigns p lines path) (best_reassignments p lines s tail path)
  best_reassign = by_choice (flexible p) _ (every_best (Reassigns p lines path) (reassignments p lines s tail path) all_reassign)

-- such a move fits, and its new machine is one of the problem's
module _ {p : Problem} {lines : Lines} {path : List ℕ} (sixteen : length lines ≡ 16) (w : WellFormed p.n p.machines lines) (few : p.n ≤ 128) (machines : p.machines ≤ 16) (on_path : Below p.n path)
    (candidates : (a : ℕ) → Below p.machines (p.candidates a)) {x : Rated} (r : Reassigns p lines path x) where
  known : r.activity < p.n
  known = below_of p.n r.activity path on_path r.on_path

  new : r.machine < p.machines
  new = below_of p.machines r.machine (p.candidates r.activity) (candidates r.activity) r.able

  pub reassigns_fit : Fits x.made lines
  reassigns_fit =
      subst (λ (m : Move). Fits m lines) (sym r.made)
      (reassign_fits lines sixteen w few (omega (arith, machine_below w r.activity known)) (omega (arith, new)) r.other (stands_at w r.activity known).0 (stands_at w r.activity known).1 r.within)

  pub reassigns_within : Within p.machines x.made
  reassigns_within = subst (λ (m : Move). Within p.machines m) (sym r.made) new

-- .. of the k-th that `reassignments` answers
pub held_reassigns : (p : Problem) (lines : Lines) (s : Placing) (tail path : List ℕ) (three : Three) → ranked three ≡ best_reassignments p lines s tail path
    → (k : ℕ) → k < three.count → (other : Rated) → Reassigns p lines path (get_or (ranked three) k other)
held_reassigns p lines s tail path three e k h other =
    every_held (Reassigns p lines path) three (rw e (best_reassign p lines s tail path)) k h other
