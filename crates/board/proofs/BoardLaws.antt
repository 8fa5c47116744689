-- Boards stay sound: the empty one is, and settling and placing keep it so. On a sound board the seat by the board's rule is the seat that
-- the links and the way give.
use Rattle.std.specs.Prelude.{None, Option, Some, ℕ}
use Prim.Native.Nat.{ℕ, ◌+◌, ◌*◌, ◌≤◌, ◌<◌, max}
use mathlib.Core.Path.{◌≡◌, refl, sym, ap, ap₂, ◌∙◌, subst}
use mathlib.Core.Bool.{Bool, true, false}
use mathlib.Core.List.{List, [], ◌∷◌, ◌++◌}
use native.Mathlib.Omega.{arith}
use native.Mathlib.Numerals.{add-one}
use borrow.Author.Tests.{eqb-false}
use lib.ListN.{length, get_or, set, take, length-set, length-append, length-replicate}
use lib.Seq.{get_or-set_same, get_or-set_other, take-suc-set}
use Rattle.graph.specs.Counting.{count_of, hit, Below}
use Rattle.graph.specs.Links.{linked}
use Rattle.graph.specs.Shop.{greatest}
use Rattle.graph.proofs.CountingLaws.{hit-ne, hit-le, either, count_of-append, count_all, sum_to-le, below_append}
use Rattle.graph.proofs.NamingLaws.{zeros_at}
use Rattle.plan.specs.Problem.{Problem, Genes}
use Rattle.plan.specs.Accepted.{Accepted, longest}
use Rattle.timing.specs.Placing.{machine_before, start_after}
use Rattle.board.specs.Board.{Board, board_of, empty_board, is_settled, end_of, last_on, last_of, those, start_on, seat, seat_after, seat_from, settle, sit}
use Rattle.board.specs.Sound.{latest, Sound, Room}
use Rattle.board.specs.declared.Seat.{Seat}
use Rattle.board.proofs.SeatLaws.{finish_most, last_below}

-- ---- the seat

-- Those left out have no end, so they bind nothing.
those_bind : (test : ℕ → Bool) (f : ℕ → ℕ) (l : List ℕ) (m : ℕ) → ((a : ℕ) → test a ≡ false → f a ≡ 0) → greatest f (those test l) m ≡ greatest f l m
unfolding those greatest
those_bind test f [] m h = refl
those_bind test f (a ∷ l) m h = go (test a) refl (λ k. those_bind test f l k h)
  where
    go : (t : Bool) → test a ≡ t → ((k : ℕ) → greatest f (those test l) k ≡ greatest f l k) → greatest f (those test (a ∷ l)) m ≡ greatest f (a ∷ l) m
    go true e rest = rw e (rest (max m (f a)))
    go false e rest =
        let z : max m (f a) ≡ m = omega (arith, h a e) in
        rw e (rest m ∙ ap (greatest f l) (sym z))

step_way : (p : Problem) (on ends : ℕ → ℕ) (m k : ℕ) (step : Option ℕ)
    → greatest (λ q. ends q + p.transport (machine_before step on) m) (linked step) k ≡ greatest (λ q. ends q + p.transport (on q) m) (linked step) k
unfolding greatest
step_way p on ends m k None = refl
step_way p on ends m k (Some q) = refl

no_end : {n : ℕ} {b : Board} → Sound n b → (a : ℕ) → is_settled b a ≡ false → end_of b a ≡ 0
no_end {n} {b} s a e = s.unsettled a (let ne = eqb-false (get_or b.settled a 0) 1 e in omega (arith, s.flags a, ne))

module _ (p : Problem) (on : ℕ → ℕ) {b : Board} (s : Sound p.n b) (a m : ℕ) where
  start_is : start_after p a (last_on p b m) (last_of p b (p.task_of a)) (p.transport (machine_before (last_of p b (p.task_of a)) on) m) (end_of b) ≡ start_on p on b a m
  start_is =
      sym (those_bind (is_settled b) (end_of b) (p.predecessors a) _ (no_end s))
      ∙ ap (greatest (end_of b) (those (is_settled b) (p.predecessors a))) (step_way p on (end_of b) m _ (last_of p b (p.task_of a)))

  pub seat_is : {line step : Option ℕ} {way : ℕ} → line ≡ last_on p b m → step ≡ last_of p b (p.task_of a) → way ≡ p.transport (machine_before step on) m
      → seat_after p a m line step way (end_of b) ≡ seat p on b a m
  seat_is {line} {step} {way} el es ew = rw (ew, es, el) (ap (seat_from p a m (last_on p b m)) start_is)

-- ---- soundness

pub empty_sound : (n : ℕ) → Sound n (empty_board n)
unfolding count_of Below
empty_sound n =
    record {
      sized =
          record {
            starts = length-replicate {A = ℕ} n 0;
            ends = length-replicate {A = ℕ} n 0;
            setups = length-replicate {A = ℕ} n 0;
            lines = refl;
            steps = refl;
            settled = length-replicate {A = ℕ} n 0;
          };
      known = tt;
      once = λ a. omega arith;
      flags = λ a. omega (arith, zeros_at n a);
      unsettled = λ a h. zeros_at n a;
      within = λ a. omega (arith, zeros_at n a);
    }

module _ {n : ℕ} {b : Board} (s : Sound n b) where
  -- a flag that is put up: it is 1 there, and the others are as they were
  put_up : {A : Type 0} (a x : ℕ) → a < n → (a ≡ x → get_or (set b.settled a 1) x 0 ≡ 1 → A) → ((a ≡ x → ⊥) → get_or (set b.settled a 1) x 0 ≡ get_or b.settled x 0 → A) → A
  put_up a x h same other =
      either a x (λ e. same e (subst (λ (y : ℕ). get_or (set b.settled a 1) y 0 ≡ 1) e (get_or-set_same b.settled a 1 0 (omega (arith, s.sized.settled, h)))))
      (λ ne. other ne (get_or-set_other b.settled a x 1 0 (λ e. ne (sym e))))

  pub settle_sound : (a : ℕ) → a < n → Sound n (settle a b)
  settle_sound a h =
      record {
        sized =
            record {
              starts = s.sized.starts;
              ends = s.sized.ends;
              setups = s.sized.setups;
              lines = s.sized.lines;
              steps = s.sized.steps;
              settled = length-set b.settled a 1 ∙ s.sized.settled;
            };
        known = s.known;
        once = λ x. put_up a x h (λ e f. omega (arith, f, s.once x, s.flags x)) (λ ne f. omega (arith, f, s.once x));
        flags = λ x. put_up a x h (λ e f. omega (arith, f)) (λ ne f. omega (arith, f, s.flags x));
        unsettled = λ x z. put_up a x h (λ e f. absurd (omega (arith, f, z))) (λ ne f. s.unsettled x (omega (arith, f, z)));
        within = s.within;
      }

  -- There is room for one that is not settled.
  pub room_left : (a : ℕ) → a < n → get_or b.settled a 0 ≡ 0 → length b.order < n
  unfolding count_of Below
  room_left a h z =
      omega
      (arith, count_all n (a ∷ b.order) (h, s.known), sum_to-le n (λ x. count_of x (a ∷ b.order)) (λ x. either a x (λ e. omega (arith, hit-le a x, s.once x, ap (λ (y : ℕ). get_or b.settled y 0) e)) (λ ne. omega (arith, hit-ne a x ne, s.once x, s.flags x))))

  module _ (p : Problem) (t : Seat) (h : t.activity < n) (z : get_or b.settled t.activity 0 ≡ 0) (f : t.finish ≤ latest (length b.order + 1)) where
    abbrev a : ℕ
    a = t.activity

    longer : length (b.order ++ a ∷ []) ≡ length b.order + 1
    longer = length-append b.order (a ∷ [])

    counts : (x : ℕ) → count_of x (b.order ++ a ∷ []) ≡ count_of x b.order + hit a x
    unfolding count_of
    counts x = omega (arith, count_of-append x b.order (a ∷ []))

    pub sit_sound : Sound n (sit p t b)
    unfolding Below
    sit_sound =
        record {
          sized =
              record {
                starts = length-set b.starts a t.start ∙ s.sized.starts;
                ends = length-set b.ends a t.finish ∙ s.sized.ends;
                setups = length-set b.setups a t.setup ∙ s.sized.setups;
                lines = length-set b.lines t.machine a ∙ s.sized.lines;
                steps = length-set b.steps (p.task_of a) a ∙ s.sized.steps;
                settled = length-set b.settled a 1 ∙ s.sized.settled;
              };
          known = below_append n b.order (a ∷ []) s.known (h, tt);
          once = λ x. put_up a x h (λ e g. omega (arith, g, counts x, hit-le a x, s.once x, z, ap (λ (y : ℕ). get_or b.settled y 0) e)) (λ ne g. omega (arith, g, counts x, hit-ne a x ne, s.once x));
          flags = λ x. put_up a x h (λ e g. omega (arith, g)) (λ ne g. omega (arith, g, s.flags x));
          unsettled = λ x w.
              put_up a x h (λ e g. absurd (omega (arith, g, w)))
              (λ ne g. get_or-set_other b.ends a x t.finish 0 (λ e. ne (sym e)) ∙ s.unsettled x (omega (arith, g, w)));
          within = λ x.
              either a x
              (λ e. subst (λ (y : ℕ). get_or (set b.ends a t.finish) y 0 ≤ latest (length (b.order ++ a ∷ []))) e
              (omega (arith, longer, f, get_or-set_same b.ends a t.finish 0 (omega (arith, s.sized.ends, h)))))
              (λ ne. omega (arith, longer, s.within x, get_or-set_other b.ends a x t.finish 0 (λ e. ne (sym e))));
        }

-- ---- in cells

-- What `sit` writes is the seat placed.
pub sit_is : (p : Problem) (t : Seat) (task count : ℕ) (order starts ends setups lines steps settled : List ℕ) → count < length order → task ≡ p.task_of t.activity
    → board_of (count + 1) (set order count t.activity) (set starts t.activity t.start) (set ends t.activity t.finish) (set setups t.activity t.setup)
    (set lines t.machine t.activity) (set steps task t.activity) (set settled t.activity 1)
    ≡ sit p t (board_of count order starts ends setups lines steps settled)
sit_is p t task count order starts ends setups lines steps settled h e =
    let written : List ℕ → ℕ → Board = λ o k. record {
      order = o;
      starts = set starts t.activity t.start;
      ends = set ends t.activity t.finish;
      setups = set setups t.activity t.setup;
      lines = set lines t.machine t.activity;
      steps = set steps k t.activity;
      settled = set settled t.activity 1;
    } in
    ap₂ written (ap (λ (k : ℕ). take k (set order count t.activity)) (add-one count) ∙ take-suc-set order count t.activity h) e

-- A cell for everything that a seat is written into, on a sound board.
pub sit_room : {n count : ℕ} {order starts ends setups lines steps settled : List ℕ} → Sound n (board_of count order starts ends setups lines steps settled)
    → (t : Seat) (task : ℕ) → t.activity < n → t.machine < 16 → task < 32 → count < length order → Room t task count order starts ends setups lines steps settled
sit_room s t task a m k c =
    record {
      ordered = c;
      begun = omega (arith, s.sized.starts);
      ended = omega (arith, s.sized.ends);
      prepared = omega (arith, s.sized.setups);
      lined = omega (arith, s.sized.lines);
      tasked = omega (arith, s.sized.steps);
      flagged = omega (arith, s.sized.settled);
    }

-- ---- no end is later than document 01 says

module _ (p : Problem) (g : Genes) (ok : Accepted p g) (on : ℕ → ℕ) (within : (q : ℕ) → q < p.n → on q < p.machines) {b : Board} (s : Sound p.n b) where
  before_within : (step : Option ℕ) → Below p.n (linked step) → machine_before step on < p.machines
  unfolding Below
  before_within None h = omega (arith, ok.machines.0)
  before_within (Some q) h = within q h.0

  -- the machine that the last placed of a task is on
  pub from_known : (t : ℕ) {step : Option ℕ} → step ≡ last_of p b t → machine_before step on < p.machines
  from_known t {step} e = rw e (before_within (last_of p b t) (last_below p.n b.steps t))

  module _ (a m : ℕ) (ha : a < p.n) (hm : m < p.machines) where
    pub seat_within : (seat p on b a m).finish ≤ latest (length b.order + 1)
    seat_within =
        let step = last_of p b (p.task_of a) in
        let way = p.transport (machine_before step on) m in
        let h : (seat_after p a m (last_on p b m) step way (end_of b)).finish ≤ latest (length b.order) + longest + 3 * longest =
        finish_most p g ok a m ha hm (last_on p b m) step way (end_of b) (latest (length b.order)) longest (omega arith) s.within (ok.transport (machine_before step on) m (from_known (p.task_of a) refl) hm) in
        let e : (seat_after p a m (last_on p b m) step way (end_of b)).finish ≡ (seat p on b a m).finish = ap (λ (t : Seat). t.finish) (seat_is p on s a m refl refl refl) in
        omega (arith, h, e)

    -- Placing a seat keeps the board sound.
    pub seat_sound : get_or b.settled a 0 ≡ 0 → Sound p.n (sit p (seat p on b a m) b)
    seat_sound z = sit_sound s p (seat p on b a m) ha z seat_within

-- After n placings at most, an end is no later than 1,101,659,110,911.
pub ends_within : {n : ℕ} {b : Board} → n ≤ 128 → Sound n b → (a : ℕ) → get_or b.ends a 0 ≤ 1101659110911
ends_within {n} {b} h s a =
    omega (arith, s.within a, count_all n b.order s.known, sum_to-le n (λ x. count_of x b.order) (λ x. omega (arith, s.once x, s.flags x)))
