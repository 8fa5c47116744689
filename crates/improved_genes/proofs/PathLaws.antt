-- Of lines that do not contradict: the critical path names activities, none twice, and every move that a step tries fits the lines, enters a
-- machine that there is, and puts an activity only on one of its candidates. Nothing here asks for tables.
use Rattle.std.specs.Prelude.{None, Option, Some, ℕ}
use Prim.Native.Nat.{ℕ, zero, suc, ◌+◌, ◌≤◌, ◌<◌}
use mathlib.Core.Path.{◌≡◌, refl, sym, ap, ◌∙◌, subst}
use mathlib.Core.Bool.{false}
use mathlib.Core.List.{List, [], ◌∷◌}
use native.Mathlib.Omega.{arith}
use lib.ListN.{length, get_or}
use Rattle.graph.specs.Counting.{Below, count_of, hit}
use Rattle.graph.proofs.CountingLaws.{either, hit-eq, hit-ne, below_of}
use Rattle.graph.proofs.ShopTheorem.{graph}
use Rattle.graph.proofs.Theorem.{order_below}
use Rattle.plan.specs.Problem.{Problem, Genes}
use Rattle.plan.specs.Accepted.{Accepted}
use Rattle.bounds.proofs.ArrivalLaws.{link_names}
use Rattle.intake.specs.Circle.{each}
use Rattle.intake.proofs.BareShop.{each_at, length-each}
use Rattle.lines.specs.Lines.{Lines, machine_of, position_of, WellFormed}
use Rattle.lines.specs.Linking.{AllBelow}
use Rattle.lines.proofs.LineLaws.{lines_below, machine_below, stands_at, pred_below}
use Rattle.moves.specs.Moves.{Fits, Within}
use Rattle.moves.specs.declared.Move.{Move}
use Rattle.moves.specs.declared.Move.TheVariants.{Swap, Shift, Reassign}
use Rattle.ranking.specs.declared.held.Rated.{Rated}
use Rattle.ranking.proofs.EveryLaws as ranking
use Rattle.timing.specs.Timing.{counts_for, timing_order, starts_of, ends_of, contradicts}
use Rattle.timing.specs.Exactly.{Binds, line, task, name}
use Rattle.timing.proofs.LinesShop.{shop, counted}
use Rattle.path.specs.Path.{last_to_end, back_of, walk_back, critical_path}
use Rattle.path.specs.Tails.{tails}
use Rattle.path.proofs.LastLaws.{last_below}
use Rattle.path.proofs.NeighbourLaws.{pred_lower}
use Rattle.path.proofs.BackLaws.{back_binds}
use Rattle.path.proofs.FallingLaws.{timing_falls}
use Rattle.blocks.specs.BlockMoves.{block_moves}
use Rattle.blocks.specs.Scanning.{Pathed}
use Rattle.blocks.proofs.EveryLaws.{Every, none, also, every_append}
use Rattle.blocks.proofs.FitLaws.{Inline, moves_fit, kept_fit}
use Rattle.reassign.proofs.ReassignedLaws.{Reassigns, best_reassign, reassigns_fit, reassigns_within}
use Rattle.trial.specs.Trial.{moves_of}
use Rattle.search.specs.Step.{placing_of, others_by, moves_from}

-- ---- the path

-- Each step back falls to a lower rank than all that the path has so far.
walked : (n : ℕ) (back : ℕ → Option ℕ) (rank : ℕ → ℕ) → ((a q : ℕ) → a < n → back a ≡ Some q → (q < n) × (rank q < rank a)) → (most : ℕ) (link : Option ℕ) (path : List ℕ)
    → ((q : ℕ) → link ≡ Some q → (q < n) × ((b : ℕ) → 0 < count_of b path → rank q < rank b)) → Below n path → ((b : ℕ) → count_of b path ≤ 1)
    → Below n (walk_back back most link path) × ((b : ℕ) → count_of b (walk_back back most link path) ≤ 1)
unfolding walk_back count_of Below
walked n back rank falls zero link path k known o = (known, o)
walked n back rank falls (suc most) None path k known o = (known, o)
walked n back rank falls (suc most) (Some a) path k known o =
    walked n back rank falls most (back a) (a ∷ path) (λ q e. ((falls a q (k a refl).0 e).0, λ b c. lower q e b c)) ((k a refl).0, known) (λ b. fresh b)
  where
    lower : (q : ℕ) → back a ≡ Some q → (b : ℕ) → 0 < hit a b + count_of b path → rank q < rank b
    lower q e b c =
        let f = (falls a q (k a refl).0 e).1 in
        either a b
        (λ i. omega (arith, f, ap rank i))
        (λ ne. omega (arith, f, (k a refl).1 b (omega (arith, hit-ne a b ne))))

    fresh : (b : ℕ) → hit a b + count_of b path ≤ 1
    fresh b =
        either a b
        (λ i.
        either (count_of b path) 0
        (λ z. omega (arith, hit-eq a b i))
        (λ nz. absurd (omega (arith, (k a refl).1 b (omega arith), ap rank i))))
        (λ ne. omega (arith, hit-ne a b ne, o b))

line_below : (n : ℕ) (lines : Lines) (m : ℕ) → AllBelow n lines → Below n (get_or lines m [])
unfolding AllBelow Below
line_below n [] m h = tt
line_below n (l ∷ lines) zero h = h.0
line_below n (l ∷ lines) (suc m) h = line_below n lines m h.1

-- what a list of f at each of n numbers holds
pub each_is : (f : ℕ → ℕ) (n a : ℕ) → a < n → get_or (each f n 0) a 0 ≡ f a
each_is f n a h = let z : 0 + a ≡ a = omega arith in each_at f n 0 a h ∙ ap f z

-- ---- the moves

-- a reassignment goes to a candidate
abbrev pub ToCandidate : Problem → Move → Type 0
ToCandidate p (Swap m i) = Unit {0}
ToCandidate p (Shift m i j) = Unit {0}
ToCandidate p (Reassign a r i q j) = 0 < count_of q (p.candidates a)

pub record Offered (p : Problem) (lines : Lines) (m : Move) : Type 0 where
  pub fits : Fits m lines
  pub within : Within p.machines m
  pub able : ToCandidate p m

inline_able : (p : Problem) (m : Move) → ((R : ℕ) → Within R m) → ToCandidate p m
inline_able p (Swap m i) h = tt
inline_able p (Shift m i j) h = tt
inline_able p (Reassign a r i q j) h = absurd (omega (arith, h 0))

blocks-offered : (p : Problem) (lines : Lines) {l : List Rated} → Every (λ r. Inline lines r.made) l → Every (Offered p lines) (moves_of l)
unfolding moves_of
blocks-offered p lines none = none
blocks-offered p lines (also {x} h hs) =
    also (record { fits = h.0; within = h.1 p.machines; able = inline_able p x.made h.1 }) (blocks-offered p lines hs)

module _ (p : Problem) (g : Genes) (ok : Accepted p g) (lines : Lines) (sixteen : length lines ≡ 16) (w : WellFormed p.n p.machines lines) where
  others_offered : (path : List ℕ) → Below p.n path → (l : List Rated) → ranking.Every (Reassigns p lines path) l → Every (Offered p lines) (moves_of l)
  unfolding moves_of ranking.Every
  others_offered path known [] h = none
  others_offered path known (x ∷ l) h =
      let r = h.0 in
      also
      (record {
        fits = reassigns_fit sixteen w ok.activities.1 ok.machines.1 known ok.candidates r;
        within = reassigns_within sixteen w ok.activities.1 ok.machines.1 known ok.candidates r;
        able = subst (ToCandidate p) (sym r.made) r.able;
      })
      (others_offered path known l h.1)

  pub arc_known : (q a : ℕ) → Binds p lines q a → q < p.n
  arc_known q a (line h e) = link_names p.n q e (pred_below w a)
  arc_known q a (task h e) = omega (arith, h, pred_lower p a q e)
  arc_known q a (name h k) = below_of p.n q (p.predecessors a) (ok.predecessors a) k

  pub order_known : Below p.n (timing_order p lines)
  order_known = order_below (graph (shop p g ok lines w)) (counts_for p lines) (counted p g ok lines w)

  module _ (possible : contradicts p lines ≡ false) where
    abbrev pub path : List ℕ
    path = critical_path p lines (placing_of p lines)

    pub path_walked : Below p.n path × ((b : ℕ) → count_of b path ≤ 1)
    unfolding Below count_of
    path_walked =
        let falling = timing_falls p g ok lines w possible (starts_of p lines) (ends_of p lines) in
        walked p.n (back_of p lines (placing_of p lines)) falling.rank
        (λ a q h e. (arc_known q a (back_binds p lines (placing_of p lines) a q h e), falling.falls a q h e)) p.n (last_to_end (timing_order p lines) (ends_of p lines)) []
        (λ q e. (last_below p.n (timing_order p lines) (ends_of p lines) order_known q e, λ b c. absurd (omega arith))) tt (λ b. omega arith)

    pathed : Pathed p.n lines path (each (machine_of lines) p.n 0) (each (position_of lines) p.n 0)
    pathed =
        record {
          path_known = path_walked.0;
          path_once = path_walked.1;
          machined = length-each (machine_of lines) p.n 0;
          placed = length-each (position_of lines) p.n 0;
          on = each_is (machine_of lines) p.n;
          at = each_is (position_of lines) p.n;
          known = λ a h. omega (arith, machine_below w a h, ok.machines.1);
          inside = λ a h. (stands_at w a h).0;
          found = λ a h. (stands_at w a h).1;
          lined = λ m. record { standing = line_below p.n lines m (lines_below w); short = w.short m };
        }

    pub all-offered : Every (Offered p lines) (moves_from p lines)
    all-offered =
        let s = placing_of p lines in
        every_append
        (blocks-offered p lines (kept_fit p lines s (tails p lines s) (block_moves lines path) (moves_fit pathed)))
        (others_offered path path_walked.0 (others_by p lines s) (best_reassign p lines s (tails p lines s) path))
