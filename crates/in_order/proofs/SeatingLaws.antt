-- The loop that places all that are ready: the board so far, with the rest placed upon it, is the whole.
use Rattle.std.specs.Prelude.{None, Some}
use Prim.Native.Nat.{ℕ, ◌+◌, ◌-◌, ◌≤◌, ◌<◌}
use mathlib.Core.Path.{◌≡◌, refl, sym, ap, ◌∙◌, subst}
use mathlib.Core.List.{List}
use native.Mathlib.Omega.{arith}
use lib.ListN.{length, get_or, set, take, drop, length-set}
use lib.Seq.{get_or-set_other, length-take-le}
use Rattle.graph.specs.Counting.{count_of, hit, Below}
use Rattle.graph.proofs.CountingLaws.{hit-eq, either}
use Rattle.graph.proofs.NamingLaws.{zeros_at}
use Rattle.plan.specs.Problem.{Problem, Genes}
use Rattle.genes.specs.Indexed.{assigned_to}
use Rattle.genes.specs.Held.{Listed}
use Rattle.board.specs.Board.{Board, empty_board, seat, sit, settle}
use Rattle.board.specs.Sound.{Sound}
use Rattle.board.proofs.SeatLaws.{without_machine, with_machine}
use Rattle.board.proofs.BoardLaws.{empty_sound, settle_sound, room_left}
use Rattle.in_order.specs.InOrder.{seat_or_settle, sit_all}
use Rattle.in_order.specs.Waiting.{Upon}
use Rattle.in_order.proofs.ReadyLaws.{next_of, none_left}

pub record Seating (p : Problem) (g : Genes) (ready order₀ order : List ℕ) (b : Board) (count i : ℕ) : Type 0 where
  pub within : i ≤ length ready
  pub counted : count ≤ i
  pub sized : length order ≡ length order₀
  pub roomy : length ready ≤ length order₀
  pub kept : (j : ℕ) → count ≤ j → get_or order j 0 ≡ get_or order₀ j 0
  pub sound : Sound p.n b
  -- of those still to come none comes twice, and none is settled
  pub known : Below p.n (drop i ready)
  pub once : (x : ℕ) → count_of x (drop i ready) ≤ 1
  pub ahead : (x : ℕ) → 0 < count_of x (drop i ready) → get_or b.settled x 0 ≡ 0
  pub rest : sit_all p g (drop i ready) b ≡ sit_all p g ready (empty_board p.n)

pub seat_begin : (p : Problem) (g : Genes) {ready order : List ℕ} {b : Board} → Upon p.n ready order b → Seating p g ready order order b 0 0
seat_begin p g {ready} {order} {b} u =
    record {
      within = omega arith;
      counted = omega arith;
      sized = refl;
      roomy = u.roomy;
      kept = λ j h. refl;
      sound = rw u.empty (empty_sound p.n);
      known = u.known;
      once = u.once;
      ahead = λ x h. ap (λ (y : Board). get_or y.settled x 0) u.empty ∙ zeros_at p.n x;
      rest = ap (sit_all p g ready) u.empty;
    }

module _ {p : Problem} {g : Genes} {ready order₀ order : List ℕ} {b : Board} {count i : ℕ} (w : Seating p g ready order₀ order b count i) where
  pub seat_end : length ready ≤ i → b ≡ sit_all p g ready (empty_board p.n)
  unfolding sit_all
  seat_end h = sym (none_left (λ (l : List ℕ). sit_all p g l b) ready i w.within h) ∙ w.rest

  pub seat-listed : {all : Board} → b ≡ all → take count order ≡ b.order → Listed all.order order₀ order count
  seat-listed {all} e f =
      let l : take count order ≡ all.order = f ∙ ap (λ (x : Board). x.order) e in
      record {
        whole = sym (length-take-le count order (omega (arith, w.sized, w.roomy, w.within, w.counted))) ∙ ap length l;
        listed = l;
        kept = w.kept;
      }

  module _ (h : i < length ready) where
    abbrev a : ℕ
    a = get_or ready i 0

    parts : (x : ℕ) → count_of x (drop i ready) ≡ hit a x + count_of x (drop (i + 1) ready)
    unfolding count_of
    parts x = next_of (count_of x) ready i h

    knowns : (a < p.n) × Below p.n (drop (i + 1) ready)
    unfolding Below
    knowns = subst (λ (l : List ℕ). Below p.n l) (next_of (λ (l : List ℕ). l) ready i h) w.known

    pub here : a < p.n
    here = knowns.0

    pub unsettled : get_or b.settled a 0 ≡ 0
    unsettled = w.ahead a (omega (arith, parts a, hit-eq a a refl))

    pub has_room : count < length order
    has_room = omega (arith, w.counted, w.roomy, w.sized)

    pub few : take count order ≡ b.order → count < p.n
    few e = omega (arith, room_left w.sound a here unsettled, ap length e, length-take-le count order (omega (arith, has_room)))

    -- The next one, once it is placed or settled.
    next : {order' : List ℕ} {b' : Board} {count' : ℕ} → b' ≡ seat_or_settle p g a (g.assigned a) b → Sound p.n b' → b'.settled ≡ set b.settled a 1
        → count ≤ count' → count' ≤ count + 1 → length order' ≡ length order → ((j : ℕ) → count' ≤ j → get_or order' j 0 ≡ get_or order j 0)
        → Seating p g ready order₀ order' b' count' (i + 1)
    unfolding sit_all
    next {order'} {b'} {count'} e s f c d l k =
        record {
          within = omega arith;
          counted = omega (arith, w.counted);
          sized = l ∙ w.sized;
          roomy = w.roomy;
          kept = λ j q. k j q ∙ w.kept j (omega arith);
          sound = s;
          known = knowns.1;
          once = λ x. omega (arith, parts x, w.once x);
          ahead = λ x q.
              either a x (λ y. absurd (omega (arith, parts x, w.once x, hit-eq a x y)))
              (λ ne. ap (λ (z : List ℕ). get_or z x 0) f ∙ get_or-set_other b.settled a x 1 0 (λ y. ne (sym y)) ∙ w.ahead x (omega (arith, parts x)));
          rest = ap (sit_all p g (drop (i + 1) ready)) e ∙ sym (next_of (λ (y : List ℕ). sit_all p g y b) ready i h) ∙ w.rest;
        }

    pub settled_next : None ≡ (g.assigned a) → {b' : Board} → b' ≡ settle a b → Seating p g ready order₀ order b' count (i + 1)
    settled_next e {b'} f =
        let z : settle a b ≡ seat_or_settle p g a (g.assigned a) b = rw (without_machine (g.assigned a) e) refl in
        next (f ∙ z) (rw f (settle_sound w.sound a here)) (ap (λ (x : Board). x.settled) f) (omega arith) (omega arith) refl (λ j q. refl)

    pub placed_next : (m : ℕ) → Some m ≡ (g.assigned a) → {order' : List ℕ} {b' : Board} → b' ≡ sit p (seat p (assigned_to g) b a m) b
        → Sound p.n (sit p (seat p (assigned_to g) b a m) b) → order' ≡ set order count a → Seating p g ready order₀ order' b' (count + 1) (i + 1)
    placed_next m e {order'} {b'} f s o =
        let z : sit p (seat p (assigned_to g) b a m) b ≡ seat_or_settle p g a (g.assigned a) b = rw (with_machine (g.assigned a) m e) refl in
        next (f ∙ z) (rw f s) (ap (λ (x : Board). x.settled) f) (omega arith) (omega arith) (ap length o ∙ length-set order count a)
        (λ j q. ap (λ (x : List ℕ). get_or x j 0) o ∙ get_or-set_other order count j a 0 (λ y. absurd (omega (arith, y))))
