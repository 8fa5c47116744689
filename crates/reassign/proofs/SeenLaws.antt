-- What an activity leaves behind is short enough to be added up, and so is its time where it may go. Assumes nothing.
use mathlib.Core.List.{List, [], ◌∷◌, ◌++◌}
use Prim.Native.Nat.{ℕ, ◌<◌, ◌^◌}
use native.Mathlib.Omega.{arith}
use lib.ListN.{length, get_or}
use Rattle.graph.specs.Counting.{Below}
use Rattle.graph.specs.Links.{linked}
use Rattle.graph.proofs.CountingLaws.{below_at}
use Rattle.plan.specs.Problem.{Problem}
use Rattle.tables.specs.Tabled.{task_pred, task_succ}
use Rattle.lines.specs.Lines.{Lines, machine_of}
use Rattle.path.specs.Placing.{end_at}
use Rattle.path.specs.Tails.{after}
use Rattle.path.proofs.NeighbourLaws.{pred_below, succ_below}
use Rattle.reassign.specs.Reassignments.{head_of, rest_of, leaving_of}
use Rattle.reassign.specs.Reassigning.{unordered, Ready, Able, Seen, Open, Movable}
use Rattle.reassign.proofs.WayLaws.{greatest_under}

below_both : (n : ℕ) (l m : List ℕ) → Below n l → Below n m → Below n (l ++ m)
unfolding Below
below_both n [] m b c = c
below_both n (x ∷ l) m b c = (b.0, below_both n l m b.1 c)

module _ {p : Problem} {lines : Lines} {table machines places starts ends tail : List ℕ} (v : Seen p lines table machines places starts ends tail) (a : ℕ) (known : a < p.n) where
  head_early : head_of p (unordered starts ends) a < 2 ^ 62
  head_early =
      greatest_under (end_at (unordered starts ends)) p.n (2 ^ 62) (p.predecessors a ++ linked (task_pred p a)) (p.release a) (v.released a known)
      (below_both p.n (p.predecessors a) (linked (task_pred p a)) (v.named a known) (pred_below p p.n a known))
      (λ x h. v.reckoned.early x)

  rest_short : rest_of p (unordered starts ends) tail a < 2 ^ 62
  rest_short =
      greatest_under (after (unordered starts ends) tail) p.n (2 ^ 62) (linked (task_succ p a) ++ p.waiting a) 0 (omega arith)
      (below_both p.n (linked (task_succ p a)) (p.waiting a) (succ_below p a) (v.waiting a known))
      (λ x h. v.reckoned.addable.small x (omega (arith, v.tailed)))

  pub ready : machine_of lines a < 16 → Ready (length tail) (leaving_of p lines (unordered starts ends) tail a)
  ready on = record { machine = on; known = omega (arith, known, v.tailed); head = head_early; rest = rest_short }

  -- its candidates are machines that it may be tried on
  pub able : Open p lines → Able p table a (p.candidates a)
  able o =
      record {
        tabled = v.tabled;
        known = known;
        few = v.few;
        sixteen = o.sixteen;
        own = o.candidates a known;
        short = λ m h. o.short a m known h;
      }

pub first_known : {p : Problem} {lines : Lines} {table machines places starts ends tail path : List ℕ} {a : ℕ} → Movable p lines table machines places starts ends tail (a ∷ path) → a < p.n
unfolding Below
first_known w = w.known.0

-- one activity of a path
pub one_of : {p : Problem} {lines : Lines} {table machines places starts ends tail path : List ℕ} (i : ℕ) → i < length path → Movable p lines table machines places starts ends tail path
    → Movable p lines table machines places starts ends tail (get_or path i 0 ∷ [])
unfolding Below
one_of {p} {path = path} i h w = record { seen = w.seen; opened = w.opened; known = (below_at p.n path i w.known h, tt) }
