-- Settling and placing keep a board orderly.
use Rattle.std.specs.Prelude.{Option, Some, ℕ}
use Prim.Native.Nat.{ℕ, zero, suc, ◌+◌, ◌-◌, ◌≤◌, ◌<◌}
use mathlib.Core.Path.{◌≡◌, refl, sym, ap, ◌∙◌, subst}
use mathlib.Core.Bool.{Bool, true, false}
use mathlib.Core.List.{List, [], ◌∷◌}
use native.Mathlib.Omega.{arith}
use borrow.Author.Tests.{eqb-true}
use lib.Dec.{eqb, ltb}
use lib.ListN.{length, get_or, set, replicate, length-append, get_or-replicate, get_or-append}
use lib.Seq.{get_or-set_same, get_or-set_other, get_or-append_seam}
use Rattle.graph.specs.Counting.{count_of, hit}
use Rattle.graph.specs.Links.{linked, to_if}
use Rattle.graph.specs.Shop.{greatest}
use Rattle.graph.proofs.CountingLaws.{hit-eq, hit-ne, either, count_of-append}
use Rattle.graph.proofs.NamingLaws.{zeros_at}
use Rattle.graph.proofs.ShopTheorem.{greatest-first, greatest-each}
use Rattle.plan.specs.Problem.{Problem, Genes}
use Rattle.plan.specs.Accepted.{Accepted}
use Rattle.tables.specs.Tabled.{task_pred}
use Rattle.timing.specs.Placing.{machine_before, start_after}
use Rattle.in_order.proofs.ReadyLaws.{in_list}
use Rattle.sheet.specs.Lawful.{span_from}
use Rattle.board.specs.Board.{Board, empty_board, end_of, last_placed, last_on, last_of, seat, settle, sit}
use Rattle.board.specs.declared.Seat.{Seat}
use Rattle.board.proofs.SeatLaws.{last_to, last_none}
use Rattle.board.proofs.BoardLaws.{empty_sound, settle_sound, seat_is, seat_sound}
use Rattle.accepted_sheets.specs.SheetRows.{start_of}
use Rattle.accepted_sheets.specs.Orderly.{last_before, Settled, Awaited, Seated, Orderly, Next}
use Rattle.accepted_sheets.proofs.LineLaws.{last_longer, last-listed, last-same, last_other}

-- The step before is a lower number of the same task.
pub step_before : (p : Problem) (a q : ℕ) → task_pred p a ≡ Some q → (a ≡ suc q) × (p.task_of q ≡ p.task_of a)
step_before p zero q e = let z : ◌≡◌ {A = ℕ} 0 1 = cc in absurd (omega arith)
step_before p (suc a) q e = go (eqb (p.task_of a) (p.task_of (suc a))) refl e
  where
    go : (t : Bool) → eqb (p.task_of a) (p.task_of (suc a)) ≡ t → to_if t a ≡ Some q → (suc a ≡ suc q) × (p.task_of q ≡ p.task_of (suc a))
    go true f e =
        let w : a ≡ q = cc in
        (ap suc w, ap p.task_of (sym w) ∙ eqb-true (p.task_of a) (p.task_of (suc a)) f)
    go false f e = let z : ◌≡◌ {A = ℕ} 0 1 = cc in absurd (omega arith)

-- ---- settling

module _ {p : Problem} {on : ℕ → ℕ} {b : Board} (w : Orderly p on b) where
  pub placed_settled : (a : ℕ) → 0 < count_of a b.order → Settled b a
  placed_settled a h = omega (arith, w.sound.once a, w.sound.flags a)

  module _ (x : ℕ) (here : x < p.n) where
    -- a flag that is put up
    pub put : Settled (settle x b) x
    put = get_or-set_same b.settled x 1 0 (omega (arith, w.sound.sized.settled))

    pub stays : (q : ℕ) → Settled b q → Settled (settle x b) q
    stays q h =
        either x q (λ e. subst (λ (y : ℕ). Settled (settle x b) y) e put) (λ ne. get_or-set_other b.settled x q 1 0 (λ e. ne (sym e)) ∙ h)

    pub was : (q : ℕ) → (x ≡ q → ⊥) → Settled (settle x b) q → Settled b q
    was q ne h = sym (get_or-set_other b.settled x q 1 0 (λ e. ne (sym e))) ∙ h

    -- one that is free afterwards is another, and was free
    pub was_free : (q : ℕ) → get_or (settle x b).settled q 0 ≡ 0 → (x ≡ q → ⊥) × (get_or b.settled q 0 ≡ 0)
    was_free q h =
        either x q (λ e. absurd (omega (arith, h, subst (λ (y : ℕ). Settled (settle x b) y) e put)))
        (λ ne. (ne, sym (get_or-set_other b.settled x q 1 0 (λ e. ne (sym e))) ∙ h))

    module _ (steps : (q : ℕ) → q < x → p.task_of q ≡ p.task_of x → Settled b q) where
      pub settle_stepwise : (a q : ℕ) → Settled (settle x b) a → q < a → p.task_of q ≡ p.task_of a → Settled (settle x b) q
      settle_stepwise a q s l e =
          stays q
          (either x a (λ y. steps q (omega (arith, y)) (e ∙ ap p.task_of (sym y))) (λ ne. w.stepwise a q (was a ne s) l e))

      pub settle_orderly : Orderly p on (settle x b)
      settle_orderly =
          record {
            sound = settle_sound w.sound x here;
            each = λ i h.
                let s = w.each i h in
                record {
                  lasts = s.lasts;
                  released = s.released;
                  lined = λ q e. let o = s.lined q e in record { settled = stays q o.settled; ended = o.ended };
                  stepped = λ q e. let o = s.stepped q e in record { settled = stays q o.settled; ended = o.ended };
                  named = λ q e. let o = s.named q e in record { settled = stays q o.settled; ended = o.ended };
                };
            last_on = w.last_on;
            stepwise = settle_stepwise;
            last_of_lem = λ q h e f. w.last_of_lem q h e (was_free (suc q) f).1;
            unplaced = w.unplaced;
          }

-- ---- cells

link_listed : (line : Option ℕ) (q : ℕ) → line ≡ Some q → 0 < count_of q (linked line)
unfolding count_of
link_listed line q e = rw e (omega (arith, hit-eq q q refl))

last_put : (n : ℕ) (cells : List ℕ) (k a : ℕ) → k < length cells → a < n → last_placed n (set cells k a) k ≡ Some a
last_put n cells k a h l =
    let e = get_or-set_same cells k a 0 h in
    sym (last_to n (set cells k a) k (omega (arith, e))) ∙ ap Some e

last_kept : (n : ℕ) (cells : List ℕ) (k j a : ℕ) → (k ≡ j → ⊥) → last_placed n (set cells k a) j ≡ last_placed n cells j
last_kept n cells k j a ne = ap (λ (x : ℕ). to_if (ltb x n) x) (get_or-set_other cells k j a 0 (λ e. ne (sym e)))

-- ---- placing

module _ {p : Problem} {g : Genes} (ok : Accepted p g) {on : ℕ → ℕ} (within : (q : ℕ) → on q < p.machines) {b : Board} (w : Orderly p on b) {x : ℕ} (next : Next p b x) where
  abbrev m : ℕ
  m = on x

  abbrev taken : Seat
  taken = seat p on b x m

  abbrev c : Board
  c = sit p taken b

  other : (q : ℕ) → Settled b q → x ≡ q → ⊥
  other q h e = omega (arith, h, subst (λ (y : ℕ). get_or b.settled y 0 ≡ 0) e next.free)

  start_now_lem : start_of c x ≡ taken.start
  start_now_lem = get_or-set_same b.starts x taken.start 0 (omega (arith, w.sound.sized.starts, next.here))

  end_now' : end_of c x ≡ taken.finish
  end_now' = get_or-set_same b.ends x taken.finish 0 (omega (arith, w.sound.sized.ends, next.here))

  start_kept : (q : ℕ) → (x ≡ q → ⊥) → start_of c q ≡ start_of b q
  start_kept q ne = get_or-set_other b.starts x q taken.start 0 (λ e. ne (sym e))

  end_kept : (q : ℕ) → (x ≡ q → ⊥) → end_of c q ≡ end_of b q
  end_kept q ne = get_or-set_other b.ends x q taken.finish 0 (λ e. ne (sym e))

  -- those seated before stay as they are
  awaited_kept : (q a : ℕ) → Settled b a → Awaited b q a → Awaited c q a
  awaited_kept q a h o =
      record {
        settled = stays w x next.here q o.settled;
        ended = omega (arith, o.ended, end_kept q (other q o.settled), start_kept a (other a h));
      }

  seated_kept : (a : ℕ) (line : Option ℕ) → Settled b a → Seated p on b a line → Seated p on c a line
  seated_kept a line h s =
      record {
        lasts = end_kept a (other a h) ∙ s.lasts ∙ ap (λ (y : ℕ). y + span_from p a (on a) line) (sym (start_kept a (other a h)));
        released = omega (arith, s.released, start_kept a (other a h));
        lined = λ q e. awaited_kept q a h (s.lined q e);
        stepped = λ q e. awaited_kept q a h (s.stepped q e);
        named = λ q e. awaited_kept q a h (s.named q e);
      }

  -- the one that is seated now
  abbrev line : Option ℕ
  line = last_on p b m

  abbrev step : Option ℕ
  step = last_of p b (p.task_of x)

  abbrev way : ℕ
  way = p.transport (machine_before step on) m

  abbrev from_line : ℕ
  from_line = greatest (end_of b) (linked line) (p.release x)

  abbrev from_step : ℕ
  from_step = greatest (λ q. end_of b q + way) (linked step) from_line

  starts : start_after p x line step way (end_of b) ≡ taken.start
  starts = ap (λ (t : Seat). t.start) (seat_is p on w.sound x m refl refl refl)

  after_line : from_line ≤ start_of c x
  after_line =
      omega (arith, start_now_lem, starts, greatest-first (λ q. end_of b q + way) (linked step) from_line, greatest-first (end_of b) (p.predecessors x) from_step)

  after_step' : from_step ≤ start_of c x
  after_step' = omega (arith, start_now_lem, starts, greatest-first (end_of b) (p.predecessors x) from_step)

  awaited_now : (q : ℕ) → Settled b q → end_of b q ≤ start_of c x → Awaited c q x
  awaited_now q h l = record { settled = stays w x next.here q h; ended = omega (arith, l, end_kept q (other q h)) }

  line_awaited : (q : ℕ) → line ≡ Some q → Awaited c q x
  line_awaited q e =
      let listed = last-listed on b.order m (length b.order) q (omega arith) (sym (w.last_on m (omega (arith, within x, ok.machines.1))) ∙ e) in
      awaited_now q (placed_settled w q listed) (omega (arith, after_line, greatest-each (end_of b) (linked line) (p.release x) q (link_listed line q e)))

  step_awaited : (q : ℕ) → task_pred p x ≡ Some q → Awaited c q x
  step_awaited q e =
      let s = step_before p x q e in
      awaited_now q (next.steps q (omega (arith, s.0)) s.1)
      (either (count_of q b.order) 0 (λ z. omega (arith, w.unplaced q z))
      (λ ne.
      let same : p.task_of q ≡ p.task_of (suc q) = s.1 ∙ ap p.task_of s.0 in
      let last = w.last_of_lem q (omega (arith, ne)) same (subst (λ (y : ℕ). get_or b.settled y 0 ≡ 0) s.0 next.free) in
      let here : step ≡ Some q = ap (last_of p b) (sym s.1) ∙ last in
      omega (arith, after_step', greatest-each (λ y. end_of b y + way) (linked step) from_line q (link_listed step q here))))

  named_awaited : (q : ℕ) → 0 < count_of q (p.predecessors x) → Awaited c q x
  named_awaited q h = awaited_now q (next.named q h) (omega (arith, start_now_lem, starts, greatest-each (end_of b) (p.predecessors x) from_step q h))

  seated_now : Seated p on c x line
  seated_now =
      record {
        lasts = end_now' ∙ ap (λ (y : ℕ). y + span_from p x m line) (sym start_now_lem);
        released = omega (arith, after_line, greatest-first (end_of b) (linked line) (p.release x));
        lined = line_awaited;
        stepped = step_awaited;
        named = named_awaited;
      }

  -- where each stands now
  abbrev count : ℕ
  count = length b.order

  longer : length c.order ≡ suc count
  longer = length-append b.order (x ∷ []) ∙ omega arith

  at_end_lem : get_or c.order count 0 ≡ x
  at_end_lem = get_or-append_seam b.order x [] 0

  at_before : (i : ℕ) → i < count → get_or c.order i 0 ≡ get_or b.order i 0
  at_before i h = get_or-append b.order (x ∷ []) 0 i h

  fits : m < 16
  fits = omega (arith, within x, ok.machines.1)

  seated_at : {a a' : ℕ} {l l' : Option ℕ} → a ≡ a' → l ≡ l' → Seated p on c a l → Seated p on c a' l'
  seated_at {a} {a'} {l} {l'} e f s = subst (λ (y : Option ℕ). Seated p on c a' y) f (subst (λ (y : ℕ). Seated p on c y l) e s)

  each_seated : (i : ℕ) → i < length c.order → Seated p on c (get_or c.order i 0) (last_before on c.order (on (get_or c.order i 0)) i)
  each_seated i h =
      either i count
      (λ e.
      subst (λ (k : ℕ). Seated p on c (get_or c.order k 0) (last_before on c.order (on (get_or c.order k 0)) k)) (sym e)
      (seated_at (sym at_end_lem) (w.last_on m fits ∙ sym (last_longer on b.order (x ∷ []) m count (omega arith)) ∙ ap (λ (y : ℕ). last_before on c.order (on y) count) (sym at_end_lem)) seated_now))
      (λ ne.
      let l : i < count = omega (arith, h, longer, ne) in
      let a = get_or b.order i 0 in
      seated_at (sym (at_before i l))
      (sym (last_longer on b.order (x ∷ []) (on a) i (omega arith)) ∙ ap (λ (y : ℕ). last_before on c.order (on y) i) (sym (at_before i l)))
      (seated_kept a (last_before on b.order (on a) i) (placed_settled w a (in_list b.order i l)) (w.each i l)))

  line_told : (k : ℕ) → k < 16 → last_on p c k ≡ last_before on c.order k (length c.order)
  line_told k h =
      either m k
      (λ e.
      subst (λ (y : ℕ). last_on p c y ≡ last_before on c.order y (length c.order)) e
      (last_put p.n b.lines m x (omega (arith, w.sound.sized.lines, fits)) next.here ∙ ap Some (sym at_end_lem)
      ∙ sym (last-same on c.order m count (ap on at_end_lem)) ∙ ap (last_before on c.order m) (sym longer)))
      (λ ne.
      last_kept p.n b.lines m k x ne ∙ w.last_on k h ∙ sym (last_longer on b.order (x ∷ []) k count (omega arith))
      ∙ sym (last_other on c.order k count (λ e. ne (sym (ap on at_end_lem) ∙ e))) ∙ ap (last_before on c.order k) (sym longer))

  counts : (q : ℕ) → count_of q c.order ≡ count_of q b.order + hit x q
  unfolding count_of
  counts q = omega (arith, count_of-append q b.order (x ∷ []))

  -- of its task none is settled from it on, and all before it are
  another_task : (q : ℕ) → (x ≡ q → ⊥) → (x ≡ suc q → ⊥) → 0 < count_of q b.order → get_or b.settled (suc q) 0 ≡ 0 → p.task_of q ≡ p.task_of (suc q) → p.task_of x ≡ p.task_of q → ⊥
  another_task q ne ns h f s e =
      either (x - q) 0
      (λ z. other x (w.stepwise q x (placed_settled w q h) (omega (arith, z, ne)) e) refl)
      (λ z. absurd (omega (arith, f, next.steps (suc q) (omega (arith, z, ns)) (sym (e ∙ s)))))

  step_told : (q : ℕ) → 0 < count_of q c.order → p.task_of q ≡ p.task_of (suc q) → get_or c.settled (suc q) 0 ≡ 0 → last_of p c (p.task_of q) ≡ Some q
  step_told q h s f =
      let u = was_free w x next.here (suc q) f in
      either x q
      (λ e.
      subst (λ (y : ℕ). last_of p c (p.task_of y) ≡ Some y) e
      (last_put p.n b.steps (p.task_of x) x (omega (arith, w.sound.sized.steps, ok.owner x next.here, ok.tasks.1)) next.here))
      (λ ne.
      let l : 0 < count_of q b.order = omega (arith, h, counts q, hit-ne x q ne) in
      last_kept p.n b.steps (p.task_of x) (p.task_of q) x (another_task q ne u.0 l u.1 s) ∙ w.last_of_lem q l s u.1)

  endless : (a : ℕ) → count_of a c.order ≡ 0 → end_of c a ≡ 0
  endless a z =
      either x a (λ e. absurd (omega (arith, z, counts a, hit-eq x a e))) (λ ne. end_kept a ne ∙ w.unplaced a (omega (arith, z, counts a)))

  pub sit_orderly : Orderly p on (sit p (seat p on b x (on x)) b)
  sit_orderly =
      record {
        sound = seat_sound p g ok on (λ q h. within q) w.sound x m next.here (within x) next.free;
        each = each_seated;
        last_on = line_told;
        stepwise = settle_stepwise w x next.here next.steps;
        last_of_lem = step_told;
        unplaced = endless;
      }

-- ---- nobody is placed yet

pub empty_orderly : (p : Problem) (on : ℕ → ℕ) → Orderly p on (empty_board p.n)
unfolding last_before count_of
empty_orderly p on =
    record {
      sound = empty_sound p.n;
      each = λ i h. absurd (omega arith);
      last_on = λ m h. sym (last_none p.n (replicate 16 p.n) m (omega (arith, get_or-replicate 16 m p.n 0 h)));
      stepwise = λ a q s l e. absurd (omega (arith, s, zeros_at p.n a));
      last_of_lem = λ q h e f. absurd (omega arith);
      unplaced = λ a h. zeros_at p.n a;
    }
