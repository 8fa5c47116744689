-- The candidates of a scan wait for nobody: their predecessors are settled, and so are the steps that the scan passed to come to them.
use Rattle.std.specs.Prelude.{None, Option, Some}
use Prim.Native.Nat.{ℕ, zero, suc, ◌+◌, ◌-◌, ◌≤◌, ◌<◌}
use mathlib.Core.Path.{◌≡◌, refl, sym, ap, ◌∙◌, subst}
use mathlib.Core.Bool.{Bool, true, false, not}
use mathlib.Core.List.{List, [], ◌∷◌}
use native.Mathlib.Omega.{arith}
use native.Mathlib.Numerals.{add-one}
use borrow.Author.Tests.{eqb-true, eqb-false, not-true, not-false}
use lib.ListN.{get_or, set}
use lib.Seq.{get_or-set_other}
use Rattle.graph.specs.Counting.{count_of}
use Rattle.graph.proofs.CountingLaws.{hit-ne, either}
use Rattle.plan.specs.Problem.{Problem, Genes}
use Rattle.plan.specs.Accepted.{Accepted}
use Rattle.genes.specs.Indexed.{indexed, assigned_to, is_assigned}
use Rattle.genes.proofs.TaskLaws.{task_within, same_task}
use Rattle.genes.proofs.MachineLaws.{assigned_known}
use Rattle.board.specs.Board.{Board, empty_board, sit}
use Rattle.board.specs.declared.Seat.{Seat}
use Rattle.in_order.proofs.PendingLaws.{and_true}
use Rattle.active.specs.Active.{ranks_of, Scan, settled_in, any_unsettled, stops_at, candidate_unless, stop_at, pass_over, scan_steps, scan_from, scan_tasks, scan_of, seat_now, with_settled, scanned, choice_on, place_from, place_active}
use Rattle.active.proofs.SeatNowLaws.{seat_by_rule}
use Rattle.active.proofs.ChoiceLaws.{All, all_map, all_append, chosen_has}
use Rattle.accepted_sheets.specs.Orderly.{Settled, Orderly, Next}
use Rattle.accepted_sheets.proofs.SeatedLaws.{put, stays, settle_orderly, sit_orderly, empty_orderly}
use Rattle.accepted_sheets.proofs.InOrderLaws.{or_false}

all_settled : (settled l : List ℕ) (q : ℕ) → any_unsettled settled l ≡ false → 0 < count_of q l → get_or settled q 0 ≡ 1
unfolding any_unsettled count_of
all_settled settled [] q e h = absurd (omega arith)
all_settled settled (b ∷ l) q e h =
    let o = or_false (not (settled_in settled b)) (any_unsettled settled l) e in
    either b q (λ y. subst (λ (x : ℕ). get_or settled x 0 ≡ 1) y (eqb-true (get_or settled b 0) 1 (not-false (settled_in settled b) o.0)))
    (λ ne. all_settled settled l q o.1 (omega (arith, h, hit-ne b q ne)))

one_all : (P : ℕ → Type 0) (waits : Bool) (a : ℕ) → (waits ≡ false → P a) → All P (candidate_unless waits a)
unfolding All
one_all P true a h = tt
one_all P false a h = (h refl, tt)

module _ {p : Problem} {g : Genes} (ok : Accepted p g) where
  abbrev on : ℕ → ℕ
  on = assigned_to g

  -- a task's activities are its own
  pub task_at : (t a : ℕ) → t < p.tasks → p.first t ≤ a → a < p.first t + p.steps t → p.task_of a ≡ t
  task_at t a h l k =
      let mine = ok.owned a (omega (arith, k, task_within ok t h)) in
      same_task ok (p.task_of a) t (a - p.first (p.task_of a)) (a - p.first t) (omega (arith, mine.0, mine.1)) (omega arith) (omega (arith, mine.0))

  module _ (b : Board) where
    -- the board with what a scan settled so far, and the candidates found so far
    pub record Scanned (bound : ℕ) (s : Scan) : Type 0 where
      pub orderly : Orderly p on (with_settled b s.settled)
      pub next : All (λ a. (a < bound) × Next p (with_settled b s.settled) a) s.candidates

    abbrev Passed : (t a : ℕ) → Scan → Type 0
    Passed t a s = (q : ℕ) → q < a → p.task_of q ≡ t → Settled (with_settled b s.settled) q

    stop_scanned : (t a bound : ℕ) (s : Scan) → stops_at g s.settled a ≡ true → a < bound → a < p.n → p.task_of a ≡ t → Passed t a s → Scanned a s → Scanned bound (stop_at p a s)
    stop_scanned t a bound s e h here own passed w =
        let waits = any_unsettled s.settled (p.predecessors a) in
        let ne = eqb-false (get_or s.settled a 0) 1 (not-true (settled_in s.settled a) (and_true (not (settled_in s.settled a)) (is_assigned (g.assigned a)) e).0) in
        record {
          orderly = w.orderly;
          next =
              all_append (λ x. (x < bound) × Next p (with_settled b s.settled) x) s.candidates (candidate_unless waits a)
              (all_map (λ x f. (omega (arith, f.0), f.1)) s.candidates w.next)
              (one_all (λ x. (x < bound) × Next p (with_settled b s.settled) x) waits a
              (λ f. (
                h,
                record {
                  here = here;
                  free = omega (arith, ne, w.orderly.sound.flags a);
                  steps = λ q l same. passed q l (same ∙ own);
                  named = λ q l. all_settled s.settled (p.predecessors a) q f l;
                },
              )));
        }

    module _ (a : ℕ) (s : Scan) (here : a < p.n) (w : Scanned a s) where
      pass_stays : (q : ℕ) → Settled (with_settled b s.settled) q → Settled (with_settled b (pass_over a s).settled) q
      pass_stays = stays w.orderly a here

      pass_passed : (t : ℕ) → Passed t a s → Passed t (suc a) (pass_over a s)
      pass_passed t passed q h e =
          either a q (λ y. subst (λ (x : ℕ). Settled (with_settled b (pass_over a s).settled) x) y (put w.orderly a here))
          (λ ne. pass_stays q (passed q (omega (arith, h, ne)) e))

      pass_scanned : Passed (p.task_of a) a s → Scanned (suc a) (pass_over a s)
      pass_scanned passed =
          record {
            orderly = settle_orderly w.orderly a here passed;
            next =
                all_map
                (λ x f.
                let n = f.1 in (
                  omega (arith, f.0),
                  record {
                    here = n.here;
                    free = get_or-set_other s.settled a x 1 0 (λ y. absurd (omega (arith, y, f.0))) ∙ n.free;
                    steps = λ q l e. pass_stays q (n.steps q l e);
                    named = λ q l. pass_stays q (n.named q l);
                  },
                ))
                s.candidates w.next;
          }

    steps_scanned : (t left a : ℕ) (stop : Bool) (s : Scan) → t < p.tasks → p.first t ≤ a → a + left ≡ p.first t + p.steps t → stops_at g s.settled a ≡ stop
        → Passed t a s → Scanned a s → Scanned (a + left) (scan_steps p g left stop a s)
    unfolding scan_steps
    steps_scanned t zero a stop s h l k e passed w = subst (λ (x : ℕ). Scanned x s) (omega arith) w
    steps_scanned t (suc left) a true s h l k e passed w =
        stop_scanned t a (a + suc left) s e (omega arith) (omega (arith, k, task_within ok t h)) (task_at t a h l (omega arith)) passed w
    steps_scanned t (suc left) a false s h l k e passed w =
        let here : a < p.n = omega (arith, k, task_within ok t h) in
        let own = task_at t a h l (omega arith) in
        subst (λ (x : ℕ). Scanned x (scan_steps p g left (stops_at g (set s.settled a 1) (suc a)) (suc a) (pass_over a s))) (omega arith)
        (steps_scanned t left (suc a) (stops_at g (set s.settled a 1) (suc a)) (pass_over a s) h (omega arith) (omega arith) refl (pass_passed a s here w t passed)
        (pass_scanned a s here w (λ q f y. passed q f (y ∙ own))))

    tasks-scanned : (left t : ℕ) (s : Scan) → t + left ≡ p.tasks → Scanned (p.first t) s → Scanned p.n (scan_tasks p g left t s)
    unfolding scan_tasks
    tasks-scanned zero t s e w =
        let q : t ≡ p.tasks = omega arith in
        subst (λ (x : ℕ). Scanned x s) (ap p.first q ∙ ok.whole) w
    tasks-scanned (suc left) t s e w =
        tasks-scanned left (suc t) (scan_from p g (p.steps t) (p.first t) s) (omega arith)
        (subst (λ (x : ℕ). Scanned x (scan_from p g (p.steps t) (p.first t) s)) (sym (ap p.first (sym (add-one t)) ∙ ok.next_first t))
        (steps_scanned t (p.steps t) (p.first t) (stops_at g s.settled (p.first t)) s (omega arith) (omega arith) refl refl
        (λ q h y. absurd (omega (arith, h, ap p.first y, (ok.owned q (omega (arith, h, task_within ok t (omega arith)))).0))) w))

    scan_scanned : Orderly p on b → Scanned p.n (scan_of p g b.settled)
    unfolding All
    scan_scanned w = tasks-scanned p.tasks 0 (record { settled = b.settled; candidates = [] }) (omega arith) (record { orderly = w; next = tt })

  -- ---- whoever is chosen is a candidate

  pub chosen_orderly : (ranks : List ℕ) {b : Board} → Orderly p on b → (x : Seat) → choice_on p g ranks b ≡ Some x → Orderly p on (sit p x (scanned p g b))
  chosen_orderly ranks {b} w x e =
      let seen = scan_scanned b w in
      chosen_has (λ (y : Seat). Orderly p on (sit p y (scanned p g b))) ranks (seat_now p g b.ends b.lines b.steps) (scan_of p g b.settled).candidates x e
      (all_map
      (λ a f.
      subst (λ (y : Seat). Orderly p on (sit p y (scanned p g b))) (sym (seat_by_rule p g seen.orderly.sound a)) (sit_orderly ok (assigned_known ok) seen.orderly f.1))
      (scan_of p g b.settled).candidates seen.next)

  from_orderly : (ranks : List ℕ) (fuel : ℕ) (c : Option Seat) (b : Board) → Orderly p on b → choice_on p g ranks b ≡ c → Orderly p on (place_from p g ranks fuel c (scanned p g b))
  unfolding place_from
  from_orderly ranks zero c b w e = (scan_scanned b w).orderly
  from_orderly ranks (suc fuel) None b w e = (scan_scanned b w).orderly
  from_orderly ranks (suc fuel) (Some x) b w e =
      from_orderly ranks fuel (choice_on p g ranks (sit p x (scanned p g b))) (sit p x (scanned p g b)) (chosen_orderly ranks w x e) refl

  pub active_orderly : Orderly p on (place_active p g)
  active_orderly =
      from_orderly (ranks_of (indexed p g)) p.n (choice_on p g (ranks_of (indexed p g)) (empty_board p.n)) (empty_board p.n) (empty_orderly p on) refl
