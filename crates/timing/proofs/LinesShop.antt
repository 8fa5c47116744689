-- A problem with lines is a shop, so that the theorem of any shop holds of it.
use Prim.Native.Nat.{ℕ, ◌+◌, ◌≤◌, ◌<◌}
use mathlib.Core.Path.{◌≡◌, refl, sym, ap, ◌∙◌}
use mathlib.Core.List.{List, ◌++◌}
use native.Mathlib.Omega.{arith}
use lib.ListN.{length, get_or}
use Rattle.graph.specs.Exact.{Counted}
use Rattle.graph.specs.Shop.{Shop, Arc, line, task, name, Bounds}
use Rattle.graph.proofs.ShopTheorem.{graph}
use Rattle.plan.specs.Problem.{Problem, Genes}
use Rattle.plan.specs.Accepted.{Accepted}
use Rattle.tables.specs.Tabled.{task_pred, task_succ}
use Rattle.intake.specs.Circle.{each}
use Rattle.intake.proofs.BareShop.{pred_below, succ_below, both_ways, each_at, length-each}
use Rattle.lines.specs.Lines.{Lines, WellFormed, line_pred, line_succ}
use Rattle.lines.proofs.LineLaws.{line_dual}
use Rattle.lines.proofs.LineLaws.{pred_below as line_pred_below, succ_below as line_succ_below}
use Rattle.timing.specs.Timing.{span_at, way_to, waits_for, counts_for}
use Rattle.timing.specs.Exactly.{Binds, line as by_line, task as by_task, name as by_name, Meeting}

module _ (p : Problem) (g : Genes) (ok : Accepted p g) {R : ℕ} (lines : Lines) (w : WellFormed p.n R lines) where
  abbrev pub shop : Shop
  shop =
      record {
        n = p.n;
        line_pred = line_pred lines;
        line_succ = line_succ lines;
        task_pred = task_pred p;
        task_succ = task_succ p;
        named = p.predecessors;
        waiting = p.waiting;
        span = span_at p lines;
        earliest = p.release;
        transport = way_to p lines;
        ins_below = λ a h. (line_pred_below w a, pred_below p g ok a h, ok.predecessors a);
        outs_below = λ a h. (line_succ_below w a, succ_below p g ok a, ok.waiting a);
        line_dual = λ q a h k. line_dual w q a;
        task_dual = λ q a h k. both_ways p g ok q a k;
        named_dual = λ q a h k. ok.dual q a;
      }

  pub counted : Counted (graph shop) (counts_for p lines)
  counted =
      record {
        long = omega (arith, length-each (λ a. length (waits_for p lines a)) p.n 0);
        right = λ b h.
            let z : 0 + b ≡ b = omega arith in
            each_at (λ a. length (waits_for p lines a)) p.n 0 b h ∙ ap (λ (a : ℕ). length (waits_for p lines a)) z;
      }

  pub arc_binds : (q a : ℕ) → Arc shop q a → Binds p lines q a
  arc_binds q a (line h e) = by_line h e
  arc_binds q a (task h e) = by_task h e
  arc_binds q a (name h k) = by_name h k

  pub binds_arc : (q a : ℕ) → Binds p lines q a → Arc shop q a
  binds_arc q a (by_line h e) = line h e
  binds_arc q a (by_task h e) = task h e
  binds_arc q a (by_name h k) = name h k

  pub meeting_bounds : (S : ℕ → ℕ) → Meeting p lines S → Bounds shop S
  meeting_bounds S m = record { released = m.released; lined = m.lined; tasked = m.tasked; followed = m.followed }

  pub bounds_meeting : (S : ℕ → ℕ) → Bounds shop S → Meeting p lines S
  bounds_meeting S b = record { released = b.released; lined = b.lined; tasked = b.tasked; followed = b.followed }
