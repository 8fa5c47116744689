-- A scan keeps the board sound, and its candidates are activities that are not settled.
use Prim.Native.Nat.{ℕ, zero, suc, ◌+◌, ◌-◌, ◌≤◌, ◌<◌}
use mathlib.Core.Path.{◌≡◌, refl, sym, ap, ◌∙◌, subst}
use mathlib.Core.Bool.{Bool, true, false, not, ◌&&◌}
use mathlib.Core.List.{List, [], ◌∷◌}
use native.Mathlib.Omega.{arith}
use native.Mathlib.Numerals.{add-one}
use borrow.Author.Tests.{eqb-false}
use lib.ListN.{length, get_or, set}
use lib.Seq.{get_or-set_other}
use Rattle.plan.specs.Problem.{Problem, Genes}
use Rattle.plan.specs.Accepted.{Accepted}
use Rattle.genes.specs.Indexed.{is_assigned}
use Rattle.genes.proofs.TaskLaws.{task_within}
use Rattle.board.specs.Board.{Board}
use Rattle.board.specs.Sound.{Sound}
use Rattle.board.proofs.BoardLaws.{settle_sound}
use Rattle.active.specs.Active.{Scan, settled_in, any_unsettled, stops_at, candidate_unless, stop_at, pass_over, scan_steps, scan_from, scan_tasks, scan_of, with_settled}
use Rattle.active.proofs.ChoiceLaws.{All, all_map, all_append}

abbrev pub Free : (settled : List ℕ) → (bound a : ℕ) → Type 0
Free settled bound a = (a < bound) × (get_or settled a 0 ≡ 0)

not_settled : (s t : Bool) → (not s && t) ≡ true → s ≡ false
not_settled true t e = sym e
not_settled false t e = refl

one_free : (P : ℕ → Type 0) (waits : Bool) (a : ℕ) → P a → All P (candidate_unless waits a)
unfolding All
one_free P true a h = tt
one_free P false a h = (h, tt)

module _ {p : Problem} {g : Genes} (ok : Accepted p g) (b : Board) where
  pub record Seen (bound : ℕ) (s : Scan) : Type 0 where
    pub sound : Sound p.n (with_settled b s.settled)
    pub free : All (Free s.settled bound) s.candidates

  stop_seen : (a bound : ℕ) (s : Scan) → stops_at g s.settled a ≡ true → a < bound → Seen a s → Seen bound (stop_at p a s)
  stop_seen a bound s e h w =
      let ne = eqb-false (get_or s.settled a 0) 1 (not_settled (settled_in s.settled a) (is_assigned (g.assigned a)) e) in
      record {
        sound = w.sound;
        free =
            all_append (Free s.settled bound) s.candidates (candidate_unless (any_unsettled s.settled (p.predecessors a)) a)
            (all_map (λ x f. (omega (arith, f.0), f.1)) s.candidates w.free)
            (one_free (Free s.settled bound) (any_unsettled s.settled (p.predecessors a)) a (h, omega (arith, ne, w.sound.flags a)));
      }

  pass_seen : (a : ℕ) (s : Scan) → a < p.n → Seen a s → Seen (suc a) (pass_over a s)
  pass_seen a s h w =
      record {
        sound = settle_sound w.sound a h;
        free =
            all_map (λ x f. (omega (arith, f.0), get_or-set_other s.settled a x 1 0 (λ y. absurd (omega (arith, y, f.0))) ∙ f.1)) s.candidates w.free;
      }

  steps_seen : (left a : ℕ) (stop : Bool) (s : Scan) → stops_at g s.settled a ≡ stop → a + left ≤ p.n → Seen a s → Seen (a + left) (scan_steps p g left stop a s)
  unfolding scan_steps
  steps_seen zero a stop s e h w = subst (λ (x : ℕ). Seen x s) (omega arith) w
  steps_seen (suc left) a true s e h w = stop_seen a (a + suc left) s e (omega arith) w
  steps_seen (suc left) a false s e h w =
      subst (λ (x : ℕ). Seen x (scan_steps p g left (stops_at g (set s.settled a 1) (suc a)) (suc a) (pass_over a s))) (omega arith)
      (steps_seen left (suc a) (stops_at g (set s.settled a 1) (suc a)) (pass_over a s) refl (omega arith) (pass_seen a s (omega arith) w))

  tasks-seen : (left t : ℕ) (s : Scan) → t + left ≡ p.tasks → Seen (p.first t) s → Seen p.n (scan_tasks p g left t s)
  unfolding scan_tasks
  tasks-seen zero t s e w =
      let q : t ≡ p.tasks = omega arith in
      subst (λ (x : ℕ). Seen x s) (ap p.first q ∙ ok.whole) w
  tasks-seen (suc left) t s e w =
      tasks-seen left (suc t) (scan_from p g (p.steps t) (p.first t) s) (omega arith)
      (subst (λ (x : ℕ). Seen x (scan_from p g (p.steps t) (p.first t) s)) (sym (ap p.first (sym (add-one t)) ∙ ok.next_first t))
      (steps_seen (p.steps t) (p.first t) (stops_at g s.settled (p.first t)) s refl (task_within ok t (omega arith)) w))

  pub scan_seen : Sound p.n b → Seen p.n (scan_of p g b.settled)
  unfolding All
  scan_seen w = tasks-seen p.tasks 0 (record { settled = b.settled; candidates = [] }) (omega arith) (record { sound = w; free = tt })
