-- Laws of setups: categories are in range, and what a looked-up change comes to.
use Rattle.std.specs.Prelude.{None, Option, Some, ℕ, unwrap_or}
use Prim.Native.Nat.{ℕ, ◌≤◌, ◌<◌}
use mathlib.Core.Path.{◌≡◌, refl, sym, ◌∙◌}
use native.Mathlib.Omega.{arith}
use Rattle.graph.specs.Counting.{Below}
use Rattle.graph.specs.Links.{linked}
use Rattle.plan.specs.Problem.{Problem, Genes}
use Rattle.plan.specs.Accepted.{Accepted}
use Rattle.bounds.specs.Bounds.{category_before, setup_of}

-- A link below one number is below a greater one.
pub link_within : (n m : ℕ) (link : Option ℕ) → n ≤ m → Below n (linked link) → Below m (linked link)
unfolding Below
link_within n m (Some t) h (l, u) = (omega arith, u)
link_within n m None h l = tt

module _ (p : Problem) (g : Genes) (ok : Accepted p g) where
  pub own_category : (a : ℕ) → a < p.n → p.category (p.task_of a) < 8
  own_category a h = ok.category (p.task_of a) (ok.owner a h)

  pub previous_category : (before : Option ℕ) → Below p.n (linked before) → category_before p before < 9
  unfolding Below
  previous_category (Some t) (l, u) = omega (arith, own_category t l)
  previous_category None l = omega arith

-- Without an entry an activity's own setup counts, with one the entry's.
own_setup : (o : Option ℕ) (d : ℕ) → o ≡ None → d ≡ unwrap_or o d
own_setup None d e = refl
own_setup (Some x) d e = let z : ◌≡◌ {A = ℕ} 0 1 = cc in absurd (omega arith)

entry_setup : (o : Option ℕ) (d x : ℕ) → o ≡ Some x → x ≡ unwrap_or o d
entry_setup None d x e = let z : ◌≡◌ {A = ℕ} 0 1 = cc in absurd (omega arith)
entry_setup (Some y) d x e = cc

module _ (p : Problem) (a m : ℕ) (before : Option ℕ) {previous own : ℕ} {change : Option ℕ}
    (ep : previous ≡ category_before p before) (eo : own ≡ p.category (p.task_of a)) (ec : change ≡ (p.change m previous own)) where
  looked_up : change ≡ (p.change m (category_before p before) (p.category (p.task_of a)))
  looked_up = rw (← ep, ← eo) ec

  pub own_used : {x : ℕ} → change ≡ None → x ≡ p.setup a m → x ≡ setup_of p a m before
  own_used e d = d ∙ own_setup (p.change m (category_before p before) (p.category (p.task_of a))) (p.setup a m) (sym looked_up ∙ e)

  pub entry_used : {x : ℕ} → change ≡ Some x → x ≡ setup_of p a m before
  entry_used {x} e = entry_setup (p.change m (category_before p before) (p.category (p.task_of a))) (p.setup a m) x (sym looked_up ∙ e)
