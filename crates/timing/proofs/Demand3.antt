-- Demand 3 of a problem's lines.
use Prim.Native.Nat.{ℕ, ◌≤◌, ◌<◌}
use mathlib.Core.Path.{◌≡◌, sym}
use mathlib.Core.Bool.{Bool, true, false}
use native.Mathlib.Omega.{arith}
use native.Mathlib.Nat.{le_of_eq}
use borrow.Author.Tests.{lt-ltb, ltb-true, ltb-false}
use lib.ListN.{length, replicate, length-replicate}
use Rattle.graph.specs.Arcs.{Circle}
use Rattle.graph.specs.Shop.{Arc, ShopExact}
use Rattle.graph.proofs.CircleLaws.{circle_map}
use Rattle.graph.proofs.ShopTheorem.{shop_exact}
use Rattle.plan.specs.Problem.{Problem, Genes}
use Rattle.plan.specs.Accepted.{Accepted}
use Rattle.lines.specs.Lines.{Lines, WellFormed}
use Rattle.timing.specs.Timing.{counts_for, timing_order, contradicts}
use Rattle.timing.specs.Exactly.{Binds, Exactly}
use Rattle.timing.proofs.LinesShop.{shop, counted, arc_binds, binds_arc, meeting_bounds, bounds_meeting}

module _ (p : Problem) (g : Genes) (ok : Accepted p g) {R : ℕ} (lines : Lines) (w : WellFormed p.n R lines) where
  exact : ShopExact (shop p g ok lines w) (counts_for p lines) (replicate p.n 0)
  exact = shop_exact (shop p g ok lines w) (counts_for p lines) (counted p g ok lines w) (replicate p.n 0) (le_of_eq (sym (length-replicate p.n 0)))

  acyclic : contradicts p lines ≡ false → Circle p.n (Arc (shop p g ok lines w)) → ⊥
  acyclic e c = let h = exact.contradicts.1 c in let k = ltb-false (length (timing_order p lines)) p.n e in omega arith

  -- Timing of an accepted problem on lines that hold each activity exactly once.
  pub timing_exact : Exactly p lines
  timing_exact =
      record {
        circle = (
          λ e. circle_map (arc_binds p g ok lines w) (exact.contradicts.0 (ltb-true (length (timing_order p lines)) p.n e)),
          λ c. lt-ltb (length (timing_order p lines)) p.n (exact.contradicts.1 (circle_map (binds_arc p g ok lines w) c)),
        );
        meets = λ e. bounds_meeting p g ok lines w _ (exact.meets (acyclic e));
        least = λ e S m a h. exact.least (acyclic e) S (meeting_bounds p g ok lines w S m) a h;
      }
