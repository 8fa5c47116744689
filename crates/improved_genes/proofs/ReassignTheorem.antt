-- Every reassignment that a step offers joins its new line between the first and the last position, so that its lines do not contradict.
use Prim.Native.Nat.{ℕ, zero, suc, ◌+◌, ◌-◌, ◌≤◌, ◌<◌}
use mathlib.Core.Path.{◌≡◌, refl, sym}
use mathlib.Core.Bool.{Bool, true, false, cond}
use mathlib.Core.List.{List, []}
use native.Mathlib.Omega.{arith}
use borrow.Author.Tests.{leb-true, eqb-false}
use lib.Dec.{eqb, leb, ltb}
use lib.ListN.{length}
use Rattle.graph.specs.Counting.{count_of}
use Rattle.graph.proofs.CountingLaws.{below_of}
use Rattle.plan.specs.Problem.{Problem, Genes}
use Rattle.plan.specs.Accepted.{Accepted}
use Rattle.lines.specs.Lines.{Lines, machine_of, WellFormed}
use Rattle.lines.proofs.LineLaws.{machine_below, stands_at}
use Rattle.moves.specs.Moves.{line_of, applied}
use Rattle.moves.proofs.StandingLaws.{reassign_fits}
use Rattle.ranking.specs.declared.held.Rated.{Rated}
use Rattle.ranking.proofs.EveryLaws.{Every, every_best, every_at}
use Rattle.timing.specs.Timing.{contradicts}
use Rattle.path.specs.Placing.{Placing, start_at, end_at}
use Rattle.path.specs.Tails.{tails}
use Rattle.path.specs.Path.{critical_path}
use Rattle.reassign.specs.Reassignments.{flexible, least, least_of, spot_of, length_at, leaving_of, way_of, rated_at, one_if, on_line, first_place, last_place, time_on, to_machine, of_activity}
use Rattle.reassign.specs.declared.Leaving.{Leaving}
use Rattle.reassign.proofs.PositionLaws.{leading_few}
use Rattle.reassign.proofs.ReassignedLaws.{every_gathered}
use Rattle.search.specs.Step.{placing_of, others_by}
use Rattle.improved_genes.specs.Reassigned.{reassignments_of, NeverContradict}
use Rattle.improved_genes.proofs.PathLaws.{path_walked}
use Rattle.improved_genes.proofs.ReassignLaws.{reassigned_possible}

-- the least of some positions is one of them
least-between : (f : ℕ → ℕ) (best at count first last : ℕ) → (first ≤ best) × (best ≤ last) → first ≤ at → at + count ≤ suc last
    → (first ≤ least f best at count) × (least f best at count ≤ last)
unfolding least
least-between f best at zero first last b h k = b
least-between f best at (suc count) first last b h k = least-between f (cond (ltb (f at) (f best)) at best) (suc at) count first last (by (ltb (f at) (f best))) (omega arith) (omega arith)
  where
    by : (t : Bool) → (first ≤ cond t at best) × (cond t at best ≤ last)
    by true = (h, omega (arith, k))
    by false = b

module _ (p : Problem) (g : Genes) (ok : Accepted p g) (lines : Lines) (sixteen : length lines ≡ 16) (w : WellFormed p.n p.machines lines) (possible : contradicts p lines ≡ false) where
  abbrev s : Placing
  s = placing_of p lines

  abbrev tail : List ℕ
  tail = tails p lines s

  abbrev Possible : Rated → Type 0
  Possible x = contradicts p (applied x.made lines) ≡ false

  module _ (a : ℕ) (here : a < p.n) (m : ℕ) (able : 0 < count_of m (p.candidates a)) where
    abbrev leaving : Leaving
    leaving = leaving_of p lines s tail a

    abbrev first : ℕ
    first = first_place s (line_of lines m) a

    abbrev last : ℕ
    last = last_place s (line_of lines m) a

    abbrev lengths : ℕ → ℕ
    lengths = length_at s tail (line_of lines m) (way_of leaving (time_on p a m))

    one : (t : Bool) → leb first last ≡ t → eqb m (machine_of lines a) ≡ false → Every Possible (one_if t (rated_at leaving m (time_on p a m) (spot_of lengths first last)))
    unfolding Every
    one true e ne =
        let new = below_of p.machines m (p.candidates a) (ok.candidates a) able in
        let k = leb-true first last e in
        let b = least-between lengths first (suc first) (last - first) first last (omega arith, k) (omega arith) (omega (arith, k)) in
        let few : last ≤ length (line_of lines m) = leading_few (λ x. ltb (start_at s x) (end_at s a)) (line_of lines m) in
        let place : least_of lengths first last ≤ length (line_of lines m) = omega (arith, b.1, few) in
        let f =
        reassign_fits lines sixteen w ok.activities.1 (omega (arith, machine_below w a here, ok.machines.1)) (omega (arith, new, ok.machines.1))
        (λ q. eqb-false m (machine_of lines a) ne (sym q)) (stands_at w a here).0 (stands_at w a here).1 place in
        (reassigned_possible p g ok lines sixteen w possible f here new b.0 b.1, tt)
    one false e ne = tt

    other_than : (t : Bool) → eqb m (machine_of lines a) ≡ t → Every Possible (cond t [] (on_line s tail (line_of lines m) leaving m (time_on p a m)))
    unfolding Every
    other_than true e = tt
    other_than false e = one (leb first last) refl e

  all_possible : Every Possible (reassignments_of p lines)
  all_possible =
      every_gathered Possible (of_activity p lines s tail) (critical_path p lines s)
      (λ a h.
      let here = below_of p.n a (critical_path p lines s) (path_walked p g ok lines sixteen w possible).0 h in
      every_gathered Possible (to_machine p lines s tail (leaving_of p lines s tail a)) (p.candidates a) (λ m k. other_than a here m k (eqb m (machine_of lines a)) refl))

  by_choice : (t : Bool) (l : List Rated) → Every Possible l → Every Possible (cond t l [])
  unfolding Every
  by_choice true l e = e
  by_choice false l e = tt

  pub never_contradict : NeverContradict p lines
  never_contradict =
      record {
        all = λ k other h. every_at Possible (reassignments_of p lines) k other all_possible h;
        tried = λ k other h. every_at Possible (others_by p lines s) k other (by_choice (flexible p) _ (every_best Possible (reassignments_of p lines) all_possible)) h;
      }
