-- The machines that the genes give: the loop that fills them in, and that each is one that there is. Assumes nothing.
use Rattle.std.specs.Prelude.{None, Some, unwrap_or, Option}
use Prim.Native.Nat.{ℕ, suc, ◌+◌, ◌-◌, ◌≤◌, ◌<◌}
use mathlib.Core.Path.{◌≡◌, refl, ap, ◌∙◌}
use mathlib.Core.Bool.{Bool, true, false, ◌&&◌}
use mathlib.Core.List.{List, [], ◌∷◌}
use native.Mathlib.Numerals.{add-one}
use native.Mathlib.Omega.{arith}
use lib.ListN.{length, get_or, set, take, length-set}
use lib.Seq.{length-take-le, get_or-take}
use Rattle.graph.specs.Counting.{Below}
use Rattle.graph.proofs.CountingLaws.{either, below_at}
use Rattle.plan.specs.Problem.{Problem, Genes}
use Rattle.plan.specs.Accepted.{Accepted}
use Rattle.genes.specs.Indexed.{assigned_to, assigned_below}
use Rattle.genes.specs.Held.{filled_to}
use Rattle.genes.proofs.HeldLaws.{filled_more, filled_at, filled_kept, filled_length}

-- ---- `fill_machines`: the cells and the answer after k activities

none_is : (o : Option ℕ) → None ≡ o → o ≡ None
none_is None e = refl
none_is (Some m) e = let z : ◌≡◌ {A = ℕ} 0 1 = cc in absurd (omega arith)

some_is : (o : Option ℕ) (m : ℕ) → Some m ≡ o → o ≡ Some m
some_is None m e = let z : ◌≡◌ {A = ℕ} 0 1 = cc in absurd (omega arith)
some_is (Some x) m e = cc

pub record Filling (g : Genes) (n : ℕ) (cells₀ cells : List ℕ) (all : Bool) (k : ℕ) : Type 0 where
  pub within : k ≤ n
  pub sized : length cells ≡ length cells₀
  pub held : cells ≡ filled_to (assigned_to g) k cells₀
  pub told : all ≡ assigned_below g k

pub fill_begin : (g : Genes) (n : ℕ) (cells : List ℕ) → Filling g n cells cells true 0
unfolding assigned_below filled_to
fill_begin g n cells = record { within = omega arith; sized = refl; held = refl; told = refl }

and_true : (b : Bool) → b ≡ (b && true)
and_true true = refl
and_true false = refl

and_false : (b : Bool) → false ≡ (b && false)
and_false true = refl
and_false false = refl

module _ {g : Genes} {n : ℕ} {cells₀ cells : List ℕ} {all : Bool} {k : ℕ} (w : Filling g n cells₀ cells all k) where
  filling : (x : ℕ) (told : Bool) → k < n → x ≡ assigned_to g k → told ≡ assigned_below g (k + 1) → Filling g n cells₀ (set cells k x) told (k + 1)
  filling x told h e t =
      record {
        within = omega arith;
        sized = length-set cells k x ∙ w.sized;
        held = filled_more (assigned_to g) k x cells₀ w.held e;
        told = t;
      }

  pub fill_on : (m x : ℕ) → x ≡ m → k < n → Some m ≡ (g.assigned k) → Filling g n cells₀ (set cells k x) all (k + 1)
  unfolding assigned_below
  fill_on m x f h e =
      let s : g.assigned k ≡ Some m = some_is (g.assigned k) m e in
      filling x all h (rw (s, f)) (rw (add-one, s, ← w.told) (and_true all))

  pub fill_without : (told : Bool) → told ≡ false → k < n → None ≡ (g.assigned k) → Filling g n cells₀ (set cells k 0) told (k + 1)
  unfolding assigned_below
  fill_without told f h e =
      let s : g.assigned k ≡ None = none_is (g.assigned k) e in
      filling 0 told h (rw s) (f ∙ rw (add-one, s) (and_false (assigned_below g k)))

  pub fill_end : n ≤ k → (all ≡ assigned_below g n) × (cells ≡ filled_to (assigned_to g) n cells₀)
  fill_end h =
      let e : k ≡ n = omega (arith, w.within) in
      (w.told ∙ ap (assigned_below g) e, w.held ∙ ap (λ (i : ℕ). filled_to (assigned_to g) i cells₀) e)

-- ---- a table of machines

machine_of_lem : (R : ℕ) (o : Option ℕ) → 0 < R → ((m : ℕ) → o ≡ Some m → m < R) → unwrap_or o 0 < R
machine_of_lem R None r h = r
machine_of_lem R (Some m) r h = h m refl

-- each activity's machine, and nothing that is none of sixteen machines
pub record Manned (p : Problem) (g : Genes) (machines : List ℕ) : Type 0 where
  pub enough : p.n ≤ length machines
  pub at : (a : ℕ) → a < p.n → get_or machines a 0 ≡ assigned_to g a
  pub known : Below 16 machines

below_all : (k : ℕ) (l : List ℕ) → ((i : ℕ) → i < length l → get_or l i 0 < k) → Below k l
unfolding Below
below_all k [] h = tt
below_all k (x ∷ l) h = (h 0 (omega arith), below_all k l (λ i b. h (suc i) (omega arith)))

module _ {p : Problem} {g : Genes} (plan : Accepted p g) where
  -- an activity without a machine stands at 0, which is one too
  pub assigned_known : (a : ℕ) → assigned_to g a < p.machines
  assigned_known a = machine_of_lem p.machines (g.assigned a) (omega (arith, plan.machines.0)) (plan.assigned a)

  module _ (room : List ℕ) {machines : List ℕ} (fits : p.n ≤ length room) (e : machines ≡ filled_to (assigned_to g) p.n room) where
    each : (a : ℕ) → a < p.n → get_or machines a 0 ≡ assigned_to g a
    each a h = rw e (filled_at (assigned_to g) p.n room a fits h)

    long : length machines ≡ length room
    long = rw e (filled_length (assigned_to g) p.n room)

    -- the part of the cells that was filled
    pub manned_part : Manned p g (take p.n machines)
    manned_part =
        let l : length (take p.n machines) ≡ p.n = length-take-le p.n machines (omega (arith, long)) in
        let at : (a : ℕ) → a < p.n → get_or (take p.n machines) a 0 ≡ assigned_to g a = λ a h. get_or-take p.n machines a 0 h ∙ each a h in
        record {
          enough = omega arith;
          at = at;
          known = below_all 16 (take p.n machines) (λ a h. omega (arith, at a (omega arith), assigned_known a, plan.machines.1));
        }

    -- all cells, where they held machines before
    pub manned_whole : Below 16 room → Manned p g machines
    manned_whole b =
        record {
          enough = omega (arith, long);
          at = each;
          known =
              below_all 16 machines
              (λ a h.
              either (p.n - a) 0
              (λ q. omega (arith, ap (λ (l : List ℕ). get_or l a 0) e, filled_kept (assigned_to g) p.n room a (omega arith), below_at 16 room a b (omega (arith, long))))
              (λ q. omega (arith, each a (omega arith), assigned_known a, plan.machines.1)));
        }
