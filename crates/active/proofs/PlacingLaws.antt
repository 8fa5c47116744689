-- The loop that places: the board so far, with the rest placed upon it, is the whole.
use Rattle.std.specs.Prelude.{None, Option, Some}
use Prim.Native.Nat.{ℕ, zero, suc, ◌+◌, ◌-◌, ◌≤◌, ◌<◌}
use mathlib.Core.Path.{◌≡◌, refl, sym, ap, ap₂, ◌∙◌, subst}
use mathlib.Core.List.{List, [], ◌∷◌}
use native.Mathlib.Omega.{arith}
use lib.ListN.{length, get_or, set, take, replicate, length-set, length-append}
use lib.Seq.{get_or-set_other, length-take-le}
use Rattle.plan.specs.Problem.{Problem, Genes}
use Rattle.plan.specs.Accepted.{Accepted}
use Rattle.genes.specs.Indexed.{assigned_to}
use Rattle.genes.specs.Held.{Listed}
use Rattle.genes.proofs.MachineLaws.{assigned_known}
use Rattle.board.specs.Board.{Board, empty_board, sit}
use Rattle.board.specs.Sound.{Sound}
use Rattle.board.specs.declared.Seat.{Seat}
use Rattle.board.proofs.BoardLaws.{empty_sound, room_left, seat_sound, ends_within}
use Rattle.active.specs.Active.{scan_of, seat_now, with_settled, scanned, choice_on, place_from, place_all}
use Rattle.active.specs.Kept.{forgotten, Manned, Kept}
use Rattle.active.specs.Asked.{Chosen, Begun}
use Rattle.active.proofs.SeatNowLaws.{seat_by_rule}
use Rattle.active.proofs.KeptLaws.{fresh_kept, sit_kept}
use Rattle.active.proofs.ChoiceLaws.{all_map, chosen_has}
use Rattle.active.proofs.SeenLaws.{scan_seen}

-- A seat that can be taken on a board.
pub record Fine (p : Problem) (b : Board) (x : Seat) : Type 0 where
  pub sound : Sound p.n (sit p x b)
  pub here : x.activity < p.n
  pub there : x.machine < p.machines
  pub free : get_or b.settled x.activity 0 ≡ 0

module _ {p : Problem} {g : Genes} (ok : Accepted p g) where
  seat_fine : {b : Board} → Sound p.n b → (a : ℕ) → a < p.n → get_or b.settled a 0 ≡ 0 → Fine p b (seat_now p g b.ends b.lines b.steps a)
  seat_fine {b} w a h z =
      record {
        sound =
            subst (λ (x : Seat). Sound p.n (sit p x b)) (sym (seat_by_rule p g w a))
            (seat_sound p g ok (assigned_to g) (λ q l. assigned_known ok q) w a (assigned_to g a) h (assigned_known ok a) z);
        here = h;
        there = assigned_known ok a;
        free = z;
      }

  -- Whoever is chosen can be placed.
  pub choice_fine : (ranks : List ℕ) {b : Board} → Sound p.n b → (x : Seat) → choice_on p g ranks b ≡ Some x → Fine p (scanned p g b) x
  choice_fine ranks {b} w x e =
      let seen = scan_seen ok b w in
      chosen_has (Fine p (scanned p g b)) ranks (seat_now p g b.ends b.lines b.steps) (scan_of p g b.settled).candidates x e
      (all_map (λ a f. seat_fine seen.sound a f.0 f.1) (scan_of p g b.settled).candidates seen.free)

over : (p : Problem) (g : Genes) (ranks : List ℕ) (fuel : ℕ) (c : Option Seat) (b : Board) → c ≡ None → place_from p g ranks fuel c b ≡ b
unfolding place_from
over p g ranks zero c b e = refl
over p g ranks (suc fuel) c b e = rw e

turn : (p : Problem) (g : Genes) (ranks : List ℕ) (fuel : ℕ) (c : Option Seat) (b : Board) (x : Seat) → c ≡ Some x → place_from p g ranks (suc fuel) c b ≡ place_all p g ranks fuel (sit p x b)
unfolding place_from
turn p g ranks fuel c b x e = rw e

pub record Placing (p : Problem) (g : Genes) (ranks order₀ order cells : List ℕ) (b : Board) (count : ℕ) : Type 0 where
  pub few : count ≤ p.n
  pub sized : length order ≡ length order₀
  pub roomy : p.n ≤ length order₀
  pub kept : (j : ℕ) → count ≤ j → get_or order j 0 ≡ get_or order₀ j 0
  pub held : length b.order ≡ count
  pub sound : Sound p.n b
  pub keeping : Kept p g cells b.ends b.lines b.steps b.settled
  pub rest : place_all p g ranks (p.n - count) b ≡ place_all p g ranks p.n (empty_board p.n)

pub place_begin : (p : Problem) (g : Genes) {ranks : List ℕ} {on : List (Option ℕ)} {order kept : List ℕ} {b : Board}
    → Begun p g ranks on order kept b → Placing p g ranks order order kept b 0
place_begin p g {ranks} {on} {order} {kept} {b} u =
    let e : p.n - 0 ≡ p.n = omega arith in
    record {
      few = omega arith;
      sized = refl;
      roomy = u.roomy;
      kept = λ j h. refl;
      held = ap (λ (x : Board). length x.order) u.empty;
      sound = rw u.empty (empty_sound p.n);
      keeping = rw u.empty (fresh_kept u.fresh g (replicate p.n 0) (replicate p.n 0));
      rest = ap₂ (λ (k : ℕ) (x : Board). place_all p g ranks k x) e u.empty;
    }

module _ {p : Problem} {g : Genes} (ok : Accepted p g) {ranks order₀ order kept : List ℕ} {b : Board} {count : ℕ} (w : Placing p g ranks order₀ order kept b count) where
  -- What a choice asks.
  pub place_asks : {on : List (Option ℕ)} → length ranks ≡ 128 → Manned g p.n on → Chosen p g ranks on b.ends b.lines b.steps b.settled kept
  place_asks h m =
      record {
        ranked = h;
        manned = m;
        timely =
            record {
              ended = w.sound.sized.ends;
              small = λ q. omega (arith, ends_within ok.activities.1 w.sound q);
              lined = w.sound.sized.lines;
              stepped = w.sound.sized.steps;
            };
        flags = w.sound.sized.settled;
        keeping = w.keeping;
      }

  module _ {r : Option Seat} (er : r ≡ choice_on p g ranks b) {settled' : List ℕ} (es : settled' ≡ (scan_of p g b.settled).settled) where
    scanned_is : with_settled b settled' ≡ scanned p g b
    scanned_is = ap (with_settled b) es

    pub scan_sound : Sound p.n (with_settled b settled')
    scan_sound = rw es (scan_seen ok b w.sound).sound

    pub place_end : r ≡ None → with_settled b settled' ≡ place_all p g ranks p.n (empty_board p.n)
    place_end e = scanned_is ∙ sym (over p g ranks (p.n - count) (choice_on p g ranks b) (scanned p g b) (sym er ∙ e)) ∙ w.rest

    pub place-listed : {all : Board} → with_settled b settled' ≡ all → take count order ≡ b.order → Listed all.order order₀ order count
    place-listed {all} e f =
        let l : take count order ≡ all.order = f ∙ ap (λ (x : Board). x.order) e in
        record {
          whole = sym (length-take-le count order (omega (arith, w.sized, w.roomy, w.few))) ∙ ap length l;
          listed = l;
          kept = w.kept;
        }

    module _ (x : Seat) (ex : r ≡ Some x) where
      pub fine : Fine p (with_settled b settled') x
      fine = rw es (choice_fine ok ranks w.sound x (sym er ∙ ex))

      pub more : count < p.n
      more = omega (arith, room_left scan_sound x.activity fine.here fine.free, w.held)

      pub has_room : count < length order
      has_room = omega (arith, more, w.sized, w.roomy)

      pub place_again : {kept' kept'' order' : List ℕ} {b' : Board} {task : ℕ} → Kept p g kept' b.ends b.lines b.steps settled' → task ≡ p.task_of x.activity
          → kept'' ≡ set (forgotten p.n x.machine p.tasks kept') (64 + task) p.n → b' ≡ sit p x (with_settled b settled') → order' ≡ set order count x.activity
          → Placing p g ranks order₀ order' kept'' b' (count + 1)
      place_again {kept'} {kept''} {order'} {b'} {task} kp et ek e o =
          let k : p.n - count ≡ suc (p.n - (count + 1)) = omega (arith, more) in
          let q : place_from p g ranks (suc (p.n - (count + 1))) (choice_on p g ranks b) (scanned p g b) ≡ place_all p g ranks p.n (empty_board p.n) =
          ap (λ (j : ℕ). place_from p g ranks j (choice_on p g ranks b) (scanned p g b)) (sym k) ∙ w.rest in
          record {
            few = omega (arith, more);
            sized = ap length o ∙ length-set order count x.activity ∙ w.sized;
            roomy = w.roomy;
            kept = λ j h.
                ap (λ (l : List ℕ). get_or l j 0) o ∙ get_or-set_other order count j x.activity 0 (λ y. absurd (omega (arith, y, h))) ∙ w.kept j (omega (arith, h));
            held = ap (λ (y : Board). length y.order) e ∙ omega (arith, length-append b.order (x.activity ∷ []), w.held);
            sound = rw e fine.sound;
            keeping =
                rw (ek, e)
                (sit_kept ok kp w.sound.sized.lines w.sound.sized.steps scan_sound.sized.settled x fine.here fine.there fine.free task et);
            rest =
                ap (place_all p g ranks (p.n - (count + 1))) (e ∙ ap (sit p x) scanned_is)
                ∙ sym (turn p g ranks (p.n - (count + 1)) (choice_on p g ranks b) (scanned p g b) x (sym er ∙ ex)) ∙ q;
          }
