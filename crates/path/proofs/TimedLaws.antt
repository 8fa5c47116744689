-- What the path and the tails ask is so of an accepted problem and of lines that were timed without contradiction.
use Rattle.std.specs.Prelude.{None, Option, Some, unwrap_or}
use Prim.Native.Nat.{ℕ, ◌+◌, ◌^◌, ◌≤◌, ◌<◌}
use mathlib.Core.Path.{◌≡◌, refl}
use mathlib.Core.Bool.{false}
use mathlib.Core.List.{List}
use native.Mathlib.Omega.{arith}
use borrow.Author.Tests.{ltb-false}
use lib.ListN.{length, get_or}
use Rattle.graph.proofs.ShopTheorem.{graph}
use Rattle.graph.proofs.Theorem.{at_most_n, order_below}
use Rattle.plan.specs.Problem.{Problem, Genes}
use Rattle.plan.specs.Accepted.{Accepted, longest}
use Rattle.plan.specs.Found.{transports_of}
use Rattle.tables.specs.Tabled.{Tabled}
use Rattle.bounds.specs.Bounds.{category_before}
use Rattle.lines.specs.Lines.{Lines, line_pred, machine_of, WellFormed}
use Rattle.lines.proofs.LineLaws.{machine_below}
use Rattle.timing.specs.Timing.{span_at, counts_for, timing_order, contradicts}
use Rattle.timing.specs.Ordering.{Neighbours}
use Rattle.timing.proofs.LinesShop.{shop, counted}
use Rattle.path.specs.Placing.{placed}
use Rattle.path.specs.Walking.{Walkable}
use Rattle.path.specs.Following.{Followed}
use Rattle.path.proofs.FallingLaws.{timing_falls}

-- A start and an end for each of n activities, a span apart, and none of them late.
pub record Spanned (n : ℕ) (span : ℕ → ℕ) (starts ends : List ℕ) : Type 0 where
  pub started : length starts ≡ n
  pub ended : length ends ≡ n
  pub spans : (a : ℕ) → a < n → get_or ends a 0 ≡ get_or starts a 0 + span a
  pub early : (a : ℕ) → get_or ends a 0 < 2 ^ 62

either_short : (o : Option ℕ) (own : ℕ) → ((x : ℕ) → o ≡ Some x → x ≤ longest) → own ≤ longest → unwrap_or o own ≤ longest
either_short None own h k = k
either_short (Some x) own h k = h x refl

module _ (p : Problem) (g : Genes) (ok : Accepted p g) (lines : Lines) (w : WellFormed p.n p.machines lines) where
  -- No span is longer than three of the longest times.
  pub span_short : (a : ℕ) → a < p.n → span_at p lines a < 2 ^ 34
  span_short a h =
      let m = machine_of lines a in
      let k : m < p.machines = machine_below w a h in
      let own = p.category (p.task_of a) in
      let c = either_short (p.change m (category_before p (line_pred lines a)) own) (p.setup a m) (λ x e. ok.change m (category_before p (line_pred lines a)) own x e) (ok.setup a m h k) in
      omega (arith, c, ok.process a m h k, ok.teardown a m h k)

  module _ (full : contradicts p lines ≡ false) where
    whole : length (timing_order p lines) ≡ p.n
    whole =
        omega
        (arith, at_most_n (graph (shop p g ok lines w)) (counts_for p lines) (counted p g ok lines w), ltb-false (length (timing_order p lines)) p.n full)

    module _ {table before links : List ℕ} (t : Tabled p table) (nb : Neighbours p.n lines before links) {starts ends : List ℕ}
        (e : Spanned p.n (span_at p lines) starts ends) where
      pub timed_walkable : (machines : List ℕ) (ways : List (List ℕ)) → length machines ≡ p.n → ((a : ℕ) → a < p.n → get_or machines a 0 ≡ machine_of lines a)
          → ways ≡ transports_of p → Walkable p lines table before machines ways (placed (timing_order p lines) starts ends)
      timed_walkable machines ways standing owned transports =
          record {
            shown = record {
              tabled = t;
              few = ok.activities.1;
              named = λ a h. ok.predecessors a;
              linked = nb.length_before;
              preds = nb.preds;
              standing = standing;
              owned = owned;
              known = machine_below w;
              machines_few = ok.machines.1;
              transports = transports;
            };
            some = ok.activities.0;
            ordered = whole;
            started = e.started;
            ended = e.ended;
            activities = order_below (graph (shop p g ok lines w)) (counts_for p lines) (counted p g ok lines w);
            early = e.early;
            falling = timing_falls p g ok lines w full starts ends;
          }

      pub timed_followed : Followed p lines table links (placed (timing_order p lines) starts ends)
      timed_followed =
          record {
            tabled = t;
            few = ok.activities.1;
            waiting = λ a h. ok.waiting a;
            linked = nb.length-after;
            succs = nb.succs;
            ordered = whole;
            started = e.started;
            ended = e.ended;
            activities = order_below (graph (shop p g ok lines w)) (counts_for p lines) (counted p g ok lines w);
            upright = λ a h. omega (arith, e.spans a h);
            short = λ a h. omega (arith, e.spans a h, span_short a h);
          }
