-- The step before and the step after are activities.
use Rattle.std.specs.Prelude.{None, Option, Some, ℕ}
use Prim.Native.Nat.{ℕ, zero, suc, ◌+◌, ◌<◌}
use mathlib.Core.Path.{◌≡◌, refl}
use mathlib.Core.Bool.{Bool, true, false}
use native.Mathlib.Omega.{arith}
use lib.Dec.{eqb}
use Rattle.graph.specs.Counting.{Below}
use Rattle.graph.specs.Links.{linked, to_if}
use Rattle.plan.specs.Problem.{Problem}
use Rattle.tables.specs.Tabled.{task_pred, task_succ, is_next}
use Rattle.intake.proofs.BareShop.{next_within}

pub nothing_to : {b : ℕ} → None ≡ Some b → ⊥
nothing_to e = let z : ◌≡◌ {A = ℕ} 0 1 = cc in omega arith

-- What a link names, where a test gave it.
pub to_is : (t : Bool) (b q : ℕ) → to_if t b ≡ Some q → (t ≡ true) × (b ≡ q)
to_is true b q e = (refl, cc)
to_is false b q e = absurd (nothing_to e)

pub below_link : (n : ℕ) (l : Option ℕ) → ((b : ℕ) → l ≡ Some b → b < n) → Below n (linked l)
unfolding Below
below_link n (Some b) h = (h b refl, tt)
below_link n None h = tt

pub pred_lower : (p : Problem) (a b : ℕ) → task_pred p a ≡ Some b → b < a
pred_lower p zero b e = absurd (nothing_to e)
pred_lower p (suc a) b e = omega (arith, (to_is (eqb (p.task_of a) (p.task_of (suc a))) a b e).1)

pub pred_below : (p : Problem) (n a : ℕ) → a < n → Below n (linked (task_pred p a))
pred_below p n a h = below_link n (task_pred p a) (λ b e. omega (arith, pred_lower p a b e))

pub succ_below : (p : Problem) (a : ℕ) → Below p.n (linked (task_succ p a))
succ_below p a = below_link p.n (task_succ p a) known
  where
    known : (b : ℕ) → task_succ p a ≡ Some b → b < p.n
    known b e =
        let k = to_is (is_next p a) (a + 1) b e in
        let h = next_within p.n (a + 1) (eqb (p.task_of (a + 1)) (p.task_of a)) k.0 in
        omega (arith, h, k.1)
