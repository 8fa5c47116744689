-- What block moves ask is so of an accepted problem and of lines that were timed without contradiction: the critical path names no activity
-- twice, and each activity stands at its place.
use Rattle.std.specs.Prelude.{None, Option, Some, ℕ}
use Prim.Native.Nat.{ℕ, zero, suc, ◌+◌, ◌^◌, ◌≤◌, ◌<◌}
use mathlib.Core.Path.{◌≡◌, refl, ap}
use mathlib.Core.Bool.{false}
use mathlib.Core.List.{List, [], ◌∷◌}
use native.Mathlib.Omega.{arith}
use lib.ListN.{length, get_or}
use Rattle.graph.specs.Counting.{Below, count_of, hit}
use Rattle.graph.proofs.CountingLaws.{either, hit-eq, hit-ne}
use Rattle.plan.specs.Problem.{Problem, Genes}
use Rattle.plan.specs.Accepted.{Accepted}
use Rattle.plan.specs.Found.{transports_of}
use Rattle.tables.specs.Tabled.{Tabled}
use Rattle.lines.specs.Lines.{Lines, machine_of, position_of, WellFormed}
use Rattle.lines.specs.Linking.{AllBelow}
use Rattle.lines.proofs.LineLaws.{lines_below, machine_below, stands_at}
use Rattle.timing.specs.Timing.{span_at, timing_order, contradicts}
use Rattle.timing.specs.Ordering.{Neighbours}
use Rattle.path.specs.Placing.{Placing, placed}
use Rattle.path.specs.Path.{last_to_end, back_of, walk_back, critical_path}
use Rattle.path.specs.Walking.{Walkable}
use Rattle.path.specs.Tails.{tails}
use Rattle.path.proofs.LastLaws.{last_below}
use Rattle.path.proofs.BackLaws.{back_binds}
use Rattle.path.proofs.WalkLaws.{arc_known}
use Rattle.path.proofs.BoundLaws.{path_below, tails_sized, tails_low}
use Rattle.path.proofs.TimedLaws.{Spanned, timed_walkable, timed_followed}
use Rattle.blocks.specs.Weighing.{Weighed, Low}
use Rattle.blocks.specs.Scanning.{Pathed, Searched}

-- ---- the path names no activity twice

-- Each step back falls to a lower rank than all that the path has so far.
walk_once : (n : ℕ) (back : ℕ → Option ℕ) (rank : ℕ → ℕ) → ((a q : ℕ) → a < n → back a ≡ Some q → (q < n) × (rank q < rank a)) → (most : ℕ) (link : Option ℕ) (path : List ℕ)
    → ((q : ℕ) → link ≡ Some q → (q < n) × ((b : ℕ) → 0 < count_of b path → rank q < rank b)) → ((b : ℕ) → count_of b path ≤ 1)
    → (b : ℕ) → count_of b (walk_back back most link path) ≤ 1
unfolding walk_back count_of
walk_once n back rank falls zero link path k o = o
walk_once n back rank falls (suc most) None path k o = o
walk_once n back rank falls (suc most) (Some a) path k o =
    walk_once n back rank falls most (back a) (a ∷ path) (λ q e. ((falls a q (k a refl).0 e).0, λ b c. lower q e b c)) (λ b. fresh b)
  where
    lower : (q : ℕ) → back a ≡ Some q → (b : ℕ) → 0 < hit a b + count_of b path → rank q < rank b
    lower q e b c =
        let f = (falls a q (k a refl).0 e).1 in
        either a b
        (λ i. omega (arith, f, ap rank i))
        (λ ne. omega (arith, f, (k a refl).1 b (omega (arith, hit-ne a b ne))))

    fresh : (b : ℕ) → hit a b + count_of b path ≤ 1
    fresh b =
        either a b
        (λ i.
        either (count_of b path) 0
        (λ z. omega (arith, hit-eq a b i))
        (λ nz. absurd (omega (arith, (k a refl).1 b (omega arith), ap rank i))))
        (λ ne. omega (arith, hit-ne a b ne, o b))

module _ {p : Problem} {lines : Lines} {table before machines : List ℕ} {ways : List (List ℕ)} {s : Placing}
    (w : Walkable p lines table before machines ways s) where
  pub path_once : (a : ℕ) → count_of a (critical_path p lines s) ≤ 1
  unfolding count_of
  path_once =
      walk_once p.n (back_of p lines s) w.falling.rank (λ a q h e. (arc_known w q a (back_binds p lines s a q h e), w.falling.falls a q h e)) p.n (last_to_end s.order s.ends) []
      (λ q e. (last_below p.n s.order s.ends w.activities q e, λ b c. absurd (omega arith)))
      (λ b. omega arith)

-- ---- all that is asked

line_below : (n : ℕ) (lines : Lines) (m : ℕ) → AllBelow n lines → Below n (get_or lines m [])
unfolding AllBelow Below
line_below n [] m h = tt
line_below n (l ∷ lines) zero h = h.0
line_below n (l ∷ lines) (suc m) h = line_below n lines m h.1

module _ (p : Problem) (g : Genes) (ok : Accepted p g) (lines : Lines) (w : WellFormed p.n p.machines lines) (full : contradicts p lines ≡ false)
    {table before links : List ℕ} (t : Tabled p table) (nb : Neighbours p.n lines before links) {starts ends : List ℕ}
    (e : Spanned p.n (span_at p lines) starts ends) (early : (a : ℕ) → get_or ends a 0 < 2 ^ 41) where
  timed-weighed : Weighed p table starts ends
  timed-weighed =
      let f = timed_followed p g ok lines w full t nb e in
      record {
        tabled = t;
        few = ok.activities.1;
        started = e.started;
        ended = e.ended;
        upright = f.upright;
        early = early;
        short = f.short;
        released = λ a. omega (arith, ok.release a);
      }

  timed_low : Low p.n (tails p lines (placed (timing_order p lines) starts ends))
  timed_low =
      let f = timed_followed p g ok lines w full t nb e in
      record { tailed = tails_sized f; low = λ a. omega (arith, tails_low f a, ok.activities.1) }

  module _ (machines places : List ℕ) (standing : length machines ≡ p.n) (owned : (a : ℕ) → a < p.n → get_or machines a 0 ≡ machine_of lines a)
      (room : length places ≡ p.n) (at : (a : ℕ) → a < p.n → get_or places a 0 ≡ position_of lines a) where
    timed_pathed : Pathed p.n lines (critical_path p lines (placed (timing_order p lines) starts ends)) machines places
    timed_pathed =
        let walk = timed_walkable p g ok lines w full t nb e machines (transports_of p) standing owned refl in
        record {
          path_known = path_below walk;
          path_once = path_once walk;
          machined = standing;
          placed = room;
          on = owned;
          at = at;
          known = λ a h. omega (arith, machine_below w a h, ok.machines.1);
          inside = λ a h. (stands_at w a h).0;
          found = λ a h. (stands_at w a h).1;
          lined = λ m. record { standing = line_below p.n lines m (lines_below w); short = w.short m };
        }

    pub timed-searched : Searched p lines table starts ends (tails p lines (placed (timing_order p lines) starts ends)) (critical_path p lines (placed (timing_order p lines) starts ends)) machines places
    timed-searched = record { weighed = timed-weighed; low = timed_low; pathed = timed_pathed }
