-- One turn of the walk back: what is left to walk, before the path so far, gives the whole path; and the code's step back is the rule's.
use Rattle.std.specs.Prelude.{None, Option, Some, ℕ}
use Prim.Native.Nat.{ℕ, zero, suc, ◌+◌, ◌-◌, ◌≤◌, ◌<◌}
use mathlib.Core.Path.{◌≡◌, refl, sym, ap, ◌∙◌}
use mathlib.Core.Bool.{Bool}
use mathlib.Core.List.{List, ◌∷◌}
use native.Mathlib.Omega.{arith}
use lib.Dec.{eqb}
use lib.ListN.{length, get_or, set, take, drop, length-set}
use lib.Seq.{drop-cons, drop-length, get_or-set_same, drop-set-lt, take-set-le, take-take}
use Rattle.graph.specs.Counting.{Below}
use Rattle.graph.specs.Links.{linked, link_of}
use Rattle.graph.proofs.CountingLaws.{below_of}
use Rattle.graph.proofs.LinkedLaws.{link_below}
use Rattle.plan.specs.Problem.{Problem}
use Rattle.plan.specs.Found.{between}
use Rattle.plan.proofs.RowLaws.{between_at}
use Rattle.tables.specs.Tabled.{task_pred}
use Rattle.tables.specs.Found.{Held}
use Rattle.lines.specs.Lines.{Lines, line_pred, machine_of}
use Rattle.bounds.proofs.ArrivalLaws.{link_names}
use Rattle.timing.specs.Timing.{way_to}
use Rattle.timing.specs.Exactly.{Binds, line, task, name}
use Rattle.path.specs.Placing.{Placing, start_at}
use Rattle.path.specs.Path.{last_to_end, or_else, meeting, first_meeting, ends_at, arrives_at, back_of, machine_before, walk_back, critical_path}
use Rattle.path.specs.Walking.{Backed, Walkable}
use Rattle.path.proofs.LastLaws.{last_below}
use Rattle.path.proofs.NeighbourLaws.{pred_lower, pred_below}
use Rattle.path.proofs.BackLaws.{back_binds, meeting-same}

-- ---- the list that is written from its end

written : (path : List ℕ) (at a : ℕ) → 0 < at → at ≤ length path → drop (at - 1) (set path (at - 1) a) ≡ a ∷ drop at path
written path at a h k =
    let e : suc (at - 1) ≡ at = omega arith in
    drop-cons (set path (at - 1) a) (at - 1) 0 (omega (arith, length-set path (at - 1) a))
    ∙ rw (get_or-set_same path (at - 1) a 0 (omega arith), drop-set-lt (suc (at - 1)) path (at - 1) a (omega arith), e)

pub kept_below : (old path : List ℕ) (at a : ℕ) → take at path ≡ take at old → take (at - 1) (set path (at - 1) a) ≡ take (at - 1) old
kept_below old path at a e =
    take-set-le (at - 1) path (at - 1) a (omega arith) ∙ sym (take-take (at - 1) at path (omega arith)) ∙ ap (take (at - 1)) e ∙ take-take (at - 1) at old (omega arith)

-- What is so of the path's cells whatever the walk: those from `at` on are written, the others are as they were.
pub record Space (machines old path : List ℕ) (a at : ℕ) : Type 0 where
  pub room : 0 < at
  pub within : at ≤ length path
  pub sized : length path ≡ length old
  pub kept : take at path ≡ take at old
  pub standing : a < length machines

-- ---- what a problem and its lines say of one step

module _ {p : Problem} {lines : Lines} {table before machines : List ℕ} {ways : List (List ℕ)} {s : Placing}
    (w : Walkable p lines table before machines ways s) where
  pub arc_known : (q a : ℕ) → Binds p lines q a → q < p.n
  arc_known q a (line h e) =
      omega (arith, w.shown.linked, link_names (length before) q (w.shown.preds a h ∙ e) (link_below before a))
  arc_known q a (task h e) = omega (arith, h, pred_lower p a q e)
  arc_known q a (name h k) = below_of p.n q (p.predecessors a) (w.shown.named a h) k

  module _ (a : ℕ) (h : a < p.n) where
    held : Held table a
    held = record { problem = p; tabled = w.shown.tabled; known = h; few = w.shown.few }

    pub backed : Backed table s.ends a
    unfolding held
    backed = record { held = held; ended = w.ended; named = w.shown.named a h }

    machine_low : (b : ℕ) → b < p.n → get_or machines b 0 < p.machines
    machine_low b k = omega (arith, w.shown.owned b k, w.shown.known b k)

    from_low : (l : Option ℕ) → ((b : ℕ) → l ≡ Some b → b < p.n) → machine_before machines a l < p.machines
    from_low (Some b) k = machine_low b (k b refl)
    from_low None k = machine_low a h

    pub own_known : get_or machines a 0 < 16
    own_known = omega (arith, machine_low a h, w.shown.machines_few)

    -- The step before, as it was looked up.
    module _ {task : Option ℕ} (et : task ≡ task_pred p a) where
      pub task_below : (n : ℕ) → n ≡ p.n → Below n (linked task)
      task_below n e = rw (et, e) (pred_below p p.n a h)

      module _ {from : ℕ} (ef : from ≡ machine_before machines a task) where
        pub from_known : from < 16
        from_known =
            omega (arith, ef, ap (machine_before machines a) et, from_low (task_pred p a) (λ b e. omega (arith, pred_lower p a b e)), w.shown.machines_few)

        way_is : (b : ℕ) → task ≡ Some b → between ways from (get_or machines a 0) ≡ way_to p lines b a
        way_is b e =
            let k : b < p.n = omega (arith, pred_lower p a b (sym et ∙ e)) in
            let f : from ≡ machine_of lines b = ef ∙ ap (machine_before machines a) e ∙ w.shown.owned b k in
            rw (w.shown.transports, f, w.shown.owned a h)
            (between_at p.transport p.machines p.machines (machine_of lines b) (machine_of lines a) (w.shown.known b k) w.shown.machines_few (w.shown.known a h) w.shown.machines_few)

        -- The step back that the code takes is the rule's.
        pub back_is : {way : ℕ} {r : Option ℕ} → way ≡ between ways from (get_or machines a 0)
            → r ≡ or_else (meeting (λ b. eqb (get_or s.ends b 0) (get_or s.starts a 0)) (link_of before a)) (or_else (meeting (λ b. eqb (get_or s.ends b 0 + way) (get_or s.starts a 0)) task) (first_meeting (λ b. eqb (get_or s.ends b 0) (get_or s.starts a 0)) (p.predecessors a)))
            → r ≡ back_of p lines s a
        back_is {way} ew e =
            let late : ℕ → Bool = λ b. eqb (get_or s.ends b 0 + way) (get_or s.starts a 0) in
            let x : meeting (ends_at s a) (link_of before a) ≡ meeting (ends_at s a) (line_pred lines a) = ap (meeting (ends_at s a)) (w.shown.preds a h) in
            let y : meeting late task ≡ meeting (arrives_at p lines s a) (task_pred p a) =
            meeting-same late (arrives_at p lines s a) task (λ b k. ap (λ (z : ℕ). eqb (get_or s.ends b 0 + z) (start_at s a)) (ew ∙ way_is b k)) ∙ ap (meeting (arrives_at p lines s a)) et in
            e ∙ rw (x, y)

-- ---- the walk

pub record Walking (p : Problem) (lines : Lines) (s : Placing) (rank : ℕ → ℕ) (path : List ℕ) (a at : ℕ) : Type 0 where
  pub known : a < p.n
  pub high : rank a < at
  pub left : walk_back (back_of p lines s) at (Some a) (drop at path) ≡ critical_path p lines s

walk_none : (back : ℕ → Option ℕ) (most : ℕ) (path : List ℕ) → walk_back back most None path ≡ path
unfolding walk_back
walk_none back zero path = refl
walk_none back (suc most) path = refl

walk_one : (back : ℕ → Option ℕ) (most less a : ℕ) (path : List ℕ) → most ≡ suc less → walk_back back most (Some a) path ≡ walk_back back less (back a) (a ∷ path)
unfolding walk_back
walk_one back most less a path e = rw e

module _ {p : Problem} {lines : Lines} {table before machines : List ℕ} {ways : List (List ℕ)} {s : Placing}
    (w : Walkable p lines table before machines ways s) where
  pub begin : (path : List ℕ) (a : ℕ) → length path ≡ length s.order → last_to_end s.order s.ends ≡ Some a
      → Walking p lines s w.falling.rank path a (length path)
  begin path a e l =
      let k : a < p.n = last_below p.n s.order s.ends w.activities a l in
      let n : length path ≡ p.n = e ∙ w.ordered in
      record { known = k; high = omega (arith, w.falling.low a k); left = rw (drop-length path, n, l) }

  module _ {path : List ℕ} {a at : ℕ} (k : Walking p lines s w.falling.rank path a at) (within : at ≤ length path) where
    turned : walk_back (back_of p lines s) (at - 1) (back_of p lines s a) (drop (at - 1) (set path (at - 1) a)) ≡ critical_path p lines s
    turned =
        ap (walk_back (back_of p lines s) (at - 1) (back_of p lines s a)) (written path at a (omega (arith, k.high)) within)
        ∙ sym (walk_one (back_of p lines s) at (at - 1) a (drop at path) (omega (arith, k.high)))
        ∙ k.left

    pub stops : None ≡ back_of p lines s a → drop (at - 1) (set path (at - 1) a) ≡ critical_path p lines s
    stops e = sym (walk_none (back_of p lines s) (at - 1) (drop (at - 1) (set path (at - 1) a))) ∙ (rw (sym e) at turned)

    pub goes : (b : ℕ) → Some b ≡ back_of p lines s a → Walking p lines s w.falling.rank (set path (at - 1) a) b (at - 1)
    goes b e =
        record {
          known = arc_known w b a (back_binds p lines s a b k.known (sym e));
          high = omega (arith, k.high, w.falling.falls a b k.known (sym e));
          left = rw (sym e) at turned;
        }
