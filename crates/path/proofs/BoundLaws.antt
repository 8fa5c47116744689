-- What later steps lean on: the path names activities, at least one; there is a tail for each activity, and none is long.
use Rattle.std.specs.Prelude.{None, Option, Some, ℕ}
use Prim.Native.Nat.{ℕ, zero, suc, ◌+◌, ◌-◌, ◌*◌, ◌^◌, ◌≤◌, ◌<◌}
use mathlib.Core.Path.{◌≡◌, refl, sym}
use mathlib.Core.List.{List, [], ◌∷◌}
use native.Mathlib.Omega.{arith}
use lib.ListN.{length, get_or}
use Rattle.graph.specs.Counting.{Below}
use Rattle.plan.specs.Problem.{Problem}
use Rattle.lines.specs.Lines.{Lines}
use Rattle.path.specs.Placing.{Placing}
use Rattle.path.specs.Path.{last_to_end, back_of, walk_back, critical_path}
use Rattle.path.specs.Walking.{Walkable}
use Rattle.path.specs.Tails.{tails}
use Rattle.path.specs.Following.{Followed}
use Rattle.path.proofs.LastLaws.{starts_with, last_below}
use Rattle.path.proofs.NeighbourLaws.{nothing_to}
use Rattle.path.proofs.BackLaws.{back_binds}
use Rattle.path.proofs.WalkLaws.{arc_known}
use Rattle.path.proofs.SettingLaws.{Setting, begin, set_all, set_one}

-- ---- the path

walk_below : (n : ℕ) (back : ℕ → Option ℕ) → ((a q : ℕ) → a < n → back a ≡ Some q → q < n) → (most : ℕ) (link : Option ℕ) (path : List ℕ)
    → ((q : ℕ) → link ≡ Some q → q < n) → Below n path → Below n (walk_back back most link path)
unfolding walk_back Below
walk_below n back h zero link path k b = b
walk_below n back h (suc most) None path k b = b
walk_below n back h (suc most) (Some a) path k b = walk_below n back h most (back a) (a ∷ path) (λ q e. h a q (k a refl) e) (k a refl, b)

walk_longer : (back : ℕ → Option ℕ) (most : ℕ) (link : Option ℕ) (path : List ℕ) → length path ≤ length (walk_back back most link path)
unfolding walk_back
walk_longer back zero link path = omega arith
walk_longer back (suc most) None path = omega arith
walk_longer back (suc most) (Some a) path = omega (arith, walk_longer back most (back a) (a ∷ path))

walk_some : (back : ℕ → Option ℕ) (most : ℕ) (link : Option ℕ) (a : ℕ) → 0 < most → link ≡ Some a → 0 < length (walk_back back most link [])
unfolding walk_back
walk_some back zero link a h e = absurd (omega arith)
walk_some back (suc most) None a h e = absurd (nothing_to e)
walk_some back (suc most) (Some b) a h e = omega (arith, walk_longer back most (back b) (b ∷ []))

walk_most : (back : ℕ → Option ℕ) (most : ℕ) (link : Option ℕ) (path : List ℕ) → length (walk_back back most link path) ≤ most + length path
unfolding walk_back
walk_most back zero link path = omega arith
walk_most back (suc most) None path = omega arith
walk_most back (suc most) (Some a) path = omega (arith, walk_most back most (back a) (a ∷ path))

module _ {p : Problem} {lines : Lines} {table before machines : List ℕ} {ways : List (List ℕ)} {s : Placing}
    (w : Walkable p lines table before machines ways s) where
  pub path_below : Below p.n (critical_path p lines s)
  unfolding Below
  path_below =
      walk_below p.n (back_of p lines s) (λ a q h e. arc_known w q a (back_binds p lines s a q h e)) p.n (last_to_end s.order s.ends) []
      (λ q e. last_below p.n s.order s.ends w.activities q e) tt

  pub path_some : 0 < length (critical_path p lines s)
  path_some =
      walk_some (back_of p lines s) p.n (last_to_end s.order s.ends) _ w.some
      (starts_with s.order s.ends (omega (arith, w.some, w.ordered)))

pub path_most : (p : Problem) (lines : Lines) (s : Placing) → length (critical_path p lines s) ≤ p.n
path_most p lines s = omega (arith, walk_most (back_of p lines s) p.n (last_to_end s.order s.ends) [])

-- ---- the tails

module _ {p : Problem} {lines : Lines} {table links : List ℕ} {s : Placing} (w : Followed p lines table links s) where
  tails_from : (i : ℕ) (tail : List ℕ) → Setting p lines s tail i → Setting p lines s (tails p lines s) 0
  tails_from zero tail k = rw (sym (set_all w k (omega arith))) k
  tails_from (suc i) tail k = let e : suc i - 1 ≡ i = omega arith in tails_from i _ (rw e at (set_one w k (omega arith) refl))

  tails-set : Setting p lines s (tails p lines s) 0
  tails-set = tails_from (length s.order) _ (begin w p.n refl refl)

  pub tails_sized : length (tails p lines s) ≡ p.n
  tails_sized = tails-set.sized

  pub tails_low : (a : ℕ) → get_or (tails p lines s) a 0 ≤ p.n * 2 ^ 34
  tails_low a = omega (arith, tails-set.low a, w.ordered)
