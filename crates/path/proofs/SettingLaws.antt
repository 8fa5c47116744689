-- One turn of the loop that sets tails: what is left to set, over those set so far, gives all of them; and no tail is long.
use Rattle.std.specs.Prelude.{Option, ℕ}
use Prim.Native.Nat.{ℕ, suc, ◌+◌, ◌-◌, ◌*◌, ◌^◌, ◌≤◌, ◌<◌}
use mathlib.Core.Path.{◌≡◌, refl, sym, ap, ◌∙◌}
use mathlib.Core.List.{List, ◌++◌}
use native.Mathlib.Omega.{arith}
use lib.ListN.{length, get_or, set, replicate, length-set, length-replicate, get_or-eq_default}
use lib.Seq.{get_or-set_same, get_or-set_other}
use Rattle.graph.specs.Links.{linked, link_of}
use Rattle.graph.specs.Shop.{greatest}
use Rattle.graph.proofs.CountingLaws.{either, below_at}
use Rattle.graph.proofs.NamingLaws.{zeros_at}
use Rattle.graph.proofs.ShopTheorem.{greatest-least}
use Rattle.plan.specs.Problem.{Problem}
use Rattle.tables.specs.Tabled.{task_succ}
use Rattle.lines.specs.Lines.{Lines}
use Rattle.timing.specs.Timing.{frees}
use Rattle.path.specs.Placing.{Placing, span_in}
use Rattle.path.specs.Tails.{after, tail_of, tails_down, tails}
use Rattle.path.specs.Following.{Addable, Freed, Followed}

-- ---- cells

set_most : (l : List ℕ) (a x m : ℕ) → x ≤ m → ((b : ℕ) → get_or l b 0 ≤ m) → (b : ℕ) → get_or (set l a x) b 0 ≤ m
set_most l a x m h w b =
    either b a
    (λ e.
    either (length l - a) 0
    (λ out. omega (arith, get_or-eq_default (set l a x) 0 {n = b} (omega (arith, length-set l a x))))
    (λ inside. rw e (omega (arith, get_or-set_same l a x 0 (omega arith)))))
    (λ ne. omega (arith, get_or-set_other l a b x 0 ne, w b))

-- ---- spans

module _ {p : Problem} {lines : Lines} {table links : List ℕ} {s : Placing} (w : Followed p lines table links s) where
  -- Past the activities there is no span at all.
  short_all : (a : ℕ) → span_in s a < 2 ^ 34
  short_all a =
      either (p.n - a) 0
      (λ e. omega (arith, get_or-eq_default s.ends 0 {n = a} (omega (arith, w.ended))))
      (λ ne. w.short a (omega arith))

-- ---- the loop

pub record Setting (p : Problem) (lines : Lines) (s : Placing) (tail : List ℕ) (i : ℕ) : Type 0 where
  pub within : i ≤ length s.order
  pub sized : length tail ≡ p.n
  pub low : (a : ℕ) → get_or tail a 0 ≤ (length s.order - i) * 2 ^ 34
  pub left : tails_down p lines s i tail ≡ tails p lines s

down : (p : Problem) (lines : Lines) (s : Placing) (i j : ℕ) (tail : List ℕ) → i ≡ suc j
    → tails_down p lines s i tail ≡ tails_down p lines s j (set tail (get_or s.order j 0) (tail_of p lines s tail (get_or s.order j 0)))
unfolding tails_down
down p lines s i j tail e = rw e

module _ {p : Problem} {lines : Lines} {table links : List ℕ} {s : Placing} (w : Followed p lines table links s) where
  pub begin : {tail : List ℕ} (m : ℕ) → tail ≡ replicate m 0 → m ≡ p.n → Setting p lines s tail (length s.order)
  begin m e k =
      record {
        within = omega arith;
        sized = ap length e ∙ length-replicate m 0 ∙ k;
        low = λ a. rw e (omega (arith, zeros_at m a));
        left = rw (e, k);
      }

  module _ {tail : List ℕ} {i : ℕ} (k : Setting p lines s tail i) where
    pub set_all : i ≤ 0 → tail ≡ tails p lines s
    unfolding tails_down
    set_all h = let e : i ≡ 0 = omega arith in rw e at k.left

    pub addable : Addable (length tail) s.starts s.ends tail
    addable =
        record {
          started = w.started ∙ sym k.sized;
          ended = w.ended ∙ sym k.sized;
          tailed = refl;
          upright = λ a h. w.upright a (omega (arith, k.sized));
          small = λ a h. omega (arith, short_all w a, k.low a, w.few, w.ordered);
        }

    module _ (h : 0 < i) where
      pub known : get_or s.order (i - 1) 0 < p.n
      known = below_at p.n s.order (i - 1) w.activities (omega (arith, k.within))

      pub freed : Freed table links tail (get_or s.order (i - 1) 0)
      freed =
          record {
            held = record { problem = p; tabled = w.tabled; known = known; few = w.few };
            linked = w.linked;
            tailed = k.sized;
            waiting = w.waiting (get_or s.order (i - 1) 0) known;
          }

      tail_most : tail_of p lines s tail (get_or s.order (i - 1) 0) ≤ (length s.order - (i - 1)) * 2 ^ 34
      tail_most =
          greatest-least (after s tail) (frees p lines (get_or s.order (i - 1) 0)) 0 ((length s.order - (i - 1)) * 2 ^ 34) (omega arith)
          (λ q l. omega (arith, short_all w q, k.low q, k.within))

      pub set_one : {x : ℕ} → x ≡ tail_of p lines s tail (get_or s.order (i - 1) 0) → Setting p lines s (set tail (get_or s.order (i - 1) 0) x) (i - 1)
      set_one {x} e =
          let a = get_or s.order (i - 1) 0 in
          record {
            within = omega (arith, k.within);
            sized = length-set tail a x ∙ k.sized;
            low = set_most tail a x ((length s.order - (i - 1)) * 2 ^ 34) (omega (arith, e, tail_most)) (λ b. omega (arith, k.low b, k.within));
            left = ap (λ (y : ℕ). tails_down p lines s (i - 1) (set tail a y)) e ∙ sym (down p lines s i (i - 1) tail (omega arith)) ∙ k.left;
          }

      -- .. the tail that the links give
      pub again : {x : ℕ}
          → x ≡ greatest (after s tail) (linked (link_of links (get_or s.order (i - 1) 0)) ++ (linked (task_succ p (get_or s.order (i - 1) 0)) ++ p.waiting (get_or s.order (i - 1) 0))) 0
          → Setting p lines s (set tail (get_or s.order (i - 1) 0) x) (i - 1)
      again e =
          let a = get_or s.order (i - 1) 0 in
          set_one (e ∙ ap (λ (l : Option ℕ). greatest (after s tail) (linked l ++ (linked (task_succ p a) ++ p.waiting a)) 0) (w.succs a known))
