-- What a step asks of the parts that it is made of is so of timed lines.
use Prim.Native.Nat.{ℕ, ◌+◌, ◌-◌, ◌^◌, ◌≤◌, ◌<◌}
use mathlib.Core.Path.{◌≡◌, refl, sym, ap, ◌∙◌, subst}
use mathlib.Core.Bool.{Bool, true, false}
use mathlib.Core.List.{List}
use native.Mathlib.Omega.{arith}
use borrow.Author.Tests.{le-ltb, ltb-true, ltb-false}
use lib.Dec.{ltb}
use lib.ListN.{length, get_or, take, drop, length-drop, get_or-eq_default}
use lib.Seq.{take_all}
use Rattle.graph.specs.Counting.{Below}
use Rattle.plan.specs.Problem.{Problem, Genes}
use Rattle.plan.specs.Accepted.{Accepted}
use Rattle.plan.specs.Found.{transports_of}
use Rattle.tables.specs.Tabled.{Tabled}
use Rattle.lines.specs.Lines.{Lines, WellFormed, machine_of, position_of}
use Rattle.intake.proofs.BareShop.{each_at, length-each}
use Rattle.timing.specs.Timing.{timing_order, contradicts, span_at, start_of}
use Rattle.timing.specs.Ordering.{Neighbours}
use Rattle.timing.specs.Placing.{Timed}
use Rattle.timing.proofs.EndLaws.{ends_most}
use Rattle.timing.proofs.PlacingLaws.{starts_length}
use Rattle.path.specs.Placing.{placed}
use Rattle.path.specs.Path.{critical_path}
use Rattle.path.specs.Tails.{tails}
use Rattle.path.specs.Walking.{Walkable}
use Rattle.path.specs.Following.{Followed}
use Rattle.path.proofs.TimedLaws.{Spanned, timed_walkable, timed_followed}
use Rattle.path.proofs.BoundLaws.{path_below}
use Rattle.blocks.specs.Scanning.{Searched}
use Rattle.blocks.proofs.TimedLaws.{timed-searched}
use Rattle.reassign.specs.Reassigning.{Seen}
use Rattle.reassign.proofs.MetLaws.{timed-seen}
use Rattle.ranking.specs.declared.held.Rated.{Rated}
use Rattle.blocks.specs.BlockMoves.{block_moves}
use Rattle.blocks.specs.Keeping.{keep_best_estimated}
use Rattle.reassign.specs.Reassignments.{best_reassignments}
use Rattle.search.specs.Step.{placing_of, blocks_by, others_by}

module _ (p : Problem) (g : Genes) (ok : Accepted p g) (lines : Lines) (w : WellFormed p.n p.machines lines) {order starts ends : List ℕ}
    (t : Timed p lines order starts ends) where
  pub agreed : contradicts p lines ≡ false
  agreed = le-ltb (length (timing_order p lines)) p.n (omega (arith, ap length t.whole.is, t.whole.all))

  full : length (timing_order p lines) ≡ p.n
  full = ap length (sym t.whole.is) ∙ t.whole.all

  pub placing_is : placed order starts ends ≡ placing_of p lines
  placing_is = rw (t.whole.is, t.placement.begun, t.placement.done)

  ended : length ends ≡ p.n
  ended = ap length t.placement.done ∙ length-each _ p.n 0

  pub early : (a : ℕ) → get_or ends a 0 < 2 ^ 41
  early a = by_place (ltb a p.n) refl
    where
      by_place : (b : Bool) → ltb a p.n ≡ b → get_or ends a 0 < 2 ^ 41
      by_place true e = omega (arith, ap (λ (l : List ℕ). get_or l a 0) t.placement.done, ends_most p g ok lines w full a (ltb-true a p.n e))
      by_place false e = let h = ltb-false a p.n e in omega (arith, get_or-eq_default ends 0 {n = a} (omega (arith, ended)))

  pub spanned : Spanned p.n (span_at p lines) starts ends
  spanned =
      record {
        started = ap length t.placement.begun ∙ starts_length p lines;
        ended = ended;
        spans = λ a h.
            let z : 0 + a ≡ a = omega arith in
            ap (λ (l : List ℕ). get_or l a 0) t.placement.done ∙ each_at (λ b. start_of p lines b + span_at p lines b) p.n 0 a h
            ∙ ap (λ (b : ℕ). start_of p lines b + span_at p lines b) z ∙ ap (λ (l : List ℕ). get_or l a 0 + span_at p lines a) (sym t.placement.begun);
        early = λ a. omega (arith, early a);
      }

  module _ {table before after : List ℕ} (tabled : Tabled p table) (nb : Neighbours p.n lines before after) where
    walkable : (machines : List ℕ) (ways : List (List ℕ)) → length machines ≡ p.n → ((a : ℕ) → a < p.n → get_or machines a 0 ≡ machine_of lines a) → ways ≡ transports_of p
        → Walkable p lines table before machines ways (placed order starts ends)
    walkable machines ways lm on e =
        subst (λ (o : List ℕ). Walkable p lines table before machines ways (placed o starts ends)) (sym t.whole.is)
        (timed_walkable p g ok lines w agreed tabled nb spanned machines ways lm on e)

    pub followed : Followed p lines table after (placed order starts ends)
    followed =
        subst (λ (o : List ℕ). Followed p lines table after (placed o starts ends)) (sym t.whole.is) (timed_followed p g ok lines w agreed tabled nb spanned)

    module _ (machines places : List ℕ) (lm : length machines ≡ p.n) (lp : length places ≡ p.n) (on : (a : ℕ) → a < p.n → get_or machines a 0 ≡ machine_of lines a)
        (at : (a : ℕ) → a < p.n → get_or places a 0 ≡ position_of lines a) where
      pub walks : {ways : List (List ℕ)} → ways ≡ transports_of p → Walkable p lines table before machines ways (placed order starts ends)
      walks {ways} e = walkable machines ways lm on e

      pub searched : {tail path : List ℕ} → tail ≡ tails p lines (placing_of p lines) → path ≡ critical_path p lines (placing_of p lines)
          → Searched p lines table starts ends tail path machines places
      searched {tail} {path} et ep =
          subst (λ (x : List ℕ). Searched p lines table starts ends x path machines places) (sym (et ∙ ap (tails p lines) back))
          (subst (λ (x : List ℕ). Searched p lines table starts ends (tails p lines (placed (timing_order p lines) starts ends)) x machines places) (sym (ep ∙ ap (critical_path p lines) back))
          (timed-searched p g ok lines w agreed tabled nb spanned early machines places lm on lp at))
        where
          back : placing_of p lines ≡ placed (timing_order p lines) starts ends
          back = rw (t.placement.begun, t.placement.done)

      pub seen : {tail : List ℕ} → tail ≡ tails p lines (placing_of p lines) → Seen p lines table machines places starts ends tail
      seen {tail} et =
          subst (λ (x : List ℕ). Seen p lines table machines places starts ends x) (sym (et ∙ ap (tails p lines) (sym placing_is)))
          (timed-seen ok w followed (λ a. omega (arith, early a)) machines places lm lp on at)

      pub path_known : {path : List ℕ} {ways : List (List ℕ)} → ways ≡ transports_of p → path ≡ critical_path p lines (placing_of p lines) → Below p.n path
      path_known {path} e ep = subst (λ (x : List ℕ). Below p.n x) (sym (ep ∙ ap (critical_path p lines) (sym placing_is))) (path_below (walks e))

  module _ {tail path : List ℕ} (et : tail ≡ tails p lines (placing_of p lines)) (ep : path ≡ critical_path p lines (placing_of p lines)) where
    pub blocks_are : {l : List Rated} → l ≡ keep_best_estimated p lines (placed order starts ends) tail (block_moves lines path) → l ≡ blocks_by p lines (placing_of p lines)
    blocks_are e = e ∙ rw (et, ep, placing_is)

    pub others_are : {l : List Rated} → l ≡ best_reassignments p lines (placed order starts ends) tail path → l ≡ others_by p lines (placing_of p lines)
    others_are e = e ∙ rw (et, ep, placing_is)

-- The rest of a list from a place on, as it is lent.
pub part_is : (l : List ℕ) (r : ℕ) → r ≤ length l → take (length l - r) (drop r l) ≡ drop r l
part_is l r h = take_all (length l - r) (drop r l) (omega (arith, length-drop r l))
