-- Where Setups has no entries, an activity's own setup counts.
use Rattle.std.specs.Prelude.{Option, ℕ, unwrap_or}
use Prim.Native.Nat.{ℕ, zero, suc}
use mathlib.Core.Path.{◌≡◌, refl}
use mathlib.Core.List.{List}
use native.Mathlib.Omega.{arith}
use lib.ListN.{get_or}
use Rattle.plan.specs.Input.{change_from, problem_of}
use Rattle.plan.specs.declared.Layout.{Layout}
use Rattle.bounds.specs.Bounds.{category_before, setup_of}

-- Of no entries none is found.
unentered : (ws : List ℕ) (n at m b c own : ℕ) → n ≡ 0 → own ≡ unwrap_or (change_from ws n at m b c) own
unfolding change_from
unentered ws zero at m b c own e = refl
unentered ws (suc n) at m b c own e = absurd (omega arith)

pub own_counts : (ws : List ℕ) (z : Layout) (a m : ℕ) (before : Option ℕ) → get_or ws z.at.setups 0 ≡ 0 → (problem_of ws z).setup a m ≡ setup_of (problem_of ws z) a m before
own_counts ws z a m before e =
    unentered ws (get_or ws z.at.setups 0) _ m (category_before (problem_of ws z) before) ((problem_of ws z).category ((problem_of ws z).task_of a)) ((problem_of ws z).setup a m) e
