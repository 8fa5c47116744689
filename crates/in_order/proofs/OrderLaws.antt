-- What the order of those taken is: activities of the given order, none of them twice.
use Rattle.std.specs.Prelude.{None, Option, Some, ℕ}
use Prim.Native.Nat.{ℕ, zero, suc, ◌≤◌, ◌<◌}
use mathlib.Core.Path.{◌≡◌, refl, sym, ap, ◌∙◌, subst}
use mathlib.Core.List.{List}
use native.Mathlib.Omega.{arith}
use lib.ListN.{length, get_or, set, replicate, length-set}
use lib.Seq.{get_or-set_same, get_or-set_other}
use Rattle.graph.specs.Counting.{count_of, hit, Below}
use Rattle.graph.proofs.CountingLaws.{hit-eq, hit-ne, hit-le, either, below_of}
use Rattle.plan.specs.Problem.{Problem, Genes}
use Rattle.plan.specs.Accepted.{Accepted}
use Rattle.tables.specs.Tabled.{Tabled}
use Rattle.lines.proofs.LinkLaws.{marked-length}
use Rattle.in_order.specs.InOrder.{first_ready, ready_from, all_pending, ready_order}
use Rattle.in_order.specs.Waiting.{Naming}
use Rattle.in_order.proofs.TakingLaws.{first_is, first_pending}

pub naming_of : {p : Problem} {g : Genes} {table : List ℕ} → Accepted p g → Tabled p table → Naming p table
naming_of ok t = record { tabled = t; few = ok.activities.1; named = ok.predecessors }

module _ (p : Problem) (activities : List ℕ) (known : Below p.n activities) where
  from_below : (fuel : ℕ) (pending : List ℕ) (next : Option ℕ) → next ≡ first_ready p pending activities → Below p.n (ready_from p activities fuel next pending)
  unfolding ready_from Below
  from_below zero pending next e = tt
  from_below (suc fuel) pending None e = tt
  from_below (suc fuel) pending (Some a) e =
      (below_of p.n a activities known (first_is p pending activities a (sym e)).0, from_below fuel (set pending a 0) (first_ready p (set pending a 0) activities) refl)

  from_few : (fuel : ℕ) (pending : List ℕ) (next : Option ℕ) → length (ready_from p activities fuel next pending) ≤ fuel
  unfolding ready_from
  from_few zero pending next = omega arith
  from_few (suc fuel) pending None = omega arith
  from_few (suc fuel) pending (Some a) = omega (arith, from_few fuel (set pending a 0) (first_ready p (set pending a 0) activities))

  -- Only what is pending is still to come, and that once.
  from_once : (few : p.n ≤ 128) (fuel : ℕ) (pending : List ℕ) (next : Option ℕ) → next ≡ first_ready p pending activities → length pending ≡ 128
      → (x : ℕ) → count_of x (ready_from p activities fuel next pending) ≤ hit (get_or pending x 0) 1
  unfolding ready_from count_of
  from_once few zero pending next e l x = omega arith
  from_once few (suc fuel) pending None e l x = omega arith
  from_once few (suc fuel) pending (Some a) e l x =
      let k : a < 128 = omega (arith, few, below_of p.n a activities known (first_is p pending activities a (sym e)).0) in
      let rest = from_once few fuel (set pending a 0) (first_ready p (set pending a 0) activities) refl (length-set pending a 0 ∙ l) x in
      either a x
      (λ q.
      let z : get_or (set pending a 0) x 0 ≡ 0 = subst (λ (y : ℕ). get_or (set pending a 0) y 0 ≡ 0) q (get_or-set_same pending a 0 0 (omega (arith, l, k))) in
      let one : get_or pending x 0 ≡ 1 = subst (λ (y : ℕ). get_or pending y 0 ≡ 1) q (first_pending p pending activities a (sym e)) in
      omega (arith, rest, hit-le a x, hit-ne (get_or (set pending a 0) x 0) 1 (λ o. omega (arith, o, z)), hit-eq (get_or pending x 0) 1 one))
      (λ ne. omega (arith, rest, hit-ne a x ne, ap (λ (y : ℕ). hit y 1) (get_or-set_other pending a x 0 0 (λ q. ne (sym q)))))

  pub ready_below : Below p.n (ready_order p activities)
  ready_below = from_below (length activities) (all_pending activities) _ refl

  pub ready_few : length (ready_order p activities) ≤ length activities
  ready_few = from_few (length activities) (all_pending activities) _

  pub ready_pending : p.n ≤ 128 → (x : ℕ) → count_of x (ready_order p activities) ≤ hit (get_or (all_pending activities) x 0) 1
  ready_pending few x = from_once few (length activities) (all_pending activities) _ refl (marked-length activities 1 (replicate 128 0)) x

  pub ready_once : p.n ≤ 128 → (x : ℕ) → count_of x (ready_order p activities) ≤ 1
  ready_once few x = omega (arith, ready_pending few x, hit-le (get_or (all_pending activities) x 0) 1)
