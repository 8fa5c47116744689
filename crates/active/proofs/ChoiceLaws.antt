-- The loops that look for the lead and for the least rank, and what holds of the one that is chosen.
use Rattle.std.specs.Prelude.{None, Some}
use Rattle.std.proofs.lemmas.Grind.{get_or_after_one}
use Rattle.std.proofs.lemmas.List.{take_all}
use Rattle.std.proofs.Common.{length-drop}
use Prim.Native.Nat.{ℕ, suc, ◌+◌, ◌-◌, ◌≤◌, ◌<◌}
use mathlib.Core.Path.{◌≡◌, refl, sym, ap, ap₂, ◌∙◌, subst}
use mathlib.Core.Bool.{Bool, true, false, ◌&&◌, ◌||◌}
use mathlib.Core.List.{List, [], ◌∷◌, ◌++◌}
use native.Mathlib.Omega.{arith}
use lib.Dec.{eqb, ltb, leb}
use lib.ListN.{length, get_or, take, drop}
use lib.Seq.{drop-length}
use Rattle.graph.proofs.CountingLaws.{below_at, below_more}
use Rattle.plan.specs.Problem.{Problem, Genes}
use Rattle.plan.specs.Accepted.{Accepted}
use Rattle.board.specs.declared.Seat.{Seat}
use Rattle.in_order.proofs.ReadyLaws.{next_of, none_left}
use Rattle.active.specs.Active.{Scan, scan_of, rank, seat_now, pick_seat, sooner, lead_from, lead_of, contends, preferred, least_rank, chosen_of}
use Rattle.active.specs.Kept.{held_in, seat_in, held_by, ScannedAll, Offered}

-- ---- what holds of all of a list

unfoldable pub All : (ℕ → Type 0) → List ℕ → Type 0
All P [] = Unit {0}
All P (a ∷ l) = P a × All P l

pub all_map : {P Q : ℕ → Type 0} → ((a : ℕ) → P a → Q a) → (l : List ℕ) → All P l → All Q l
unfolding All
all_map f [] h = tt
all_map f (a ∷ l) h = (f a h.0, all_map f l h.1)

pub all_append : (P : ℕ → Type 0) (l m : List ℕ) → All P l → All P m → All P (l ++ m)
unfolding All
all_append P [] m h k = k
all_append P (a ∷ l) m h k = (h.0, all_append P l m h.1 k)

-- ---- of two seats one

pick-has : (P : Seat → Type 0) (t : Bool) (x y : Seat) → P x → P y → P (pick_seat t x y)
pick-has P true x y h k = h
pick-has P false x y h k = k

lead_has : (P : Seat → Type 0) (ranks : List ℕ) (seat : ℕ → Seat) (y : Seat) (l : List ℕ) → P y → All (λ a. P (seat a)) l → P (lead_from ranks seat y l)
unfolding lead_from All
lead_has P ranks seat y [] h k = h
lead_has P ranks seat y (a ∷ l) h k =
    lead_has P ranks seat (sooner ranks (seat a) y) l
    (pick-has P (ltb (seat a).finish y.finish || (eqb (seat a).finish y.finish && ltb (rank ranks (seat a)) (rank ranks y))) (seat a) y k.0 h) k.1

least-has : (P : Seat → Type 0) (ranks : List ℕ) (seat : ℕ → Seat) (lead : Seat) (l : List ℕ) → P lead → All (λ a. P (seat a)) l → P (least_rank ranks seat lead l)
unfolding least_rank All
least-has P ranks seat lead [] h k = h
least-has P ranks seat lead (a ∷ l) h k =
    pick-has P (contends lead (seat a) && leb (rank ranks (seat a)) (rank ranks (least_rank ranks seat lead l))) (seat a) (least_rank ranks seat lead l) k.0
    (least-has P ranks seat lead l h k.1)

pub lead_of-has : (P : Seat → Type 0) (ranks : List ℕ) (seat : ℕ → Seat) (l : List ℕ) → 0 < length l → All (λ a. P (seat a)) l → P (lead_of ranks seat l)
unfolding All
lead_of-has P ranks seat [] h k = absurd (omega arith)
lead_of-has P ranks seat (a ∷ l) h k = lead_has P ranks seat (seat a) (a ∷ l) k.0 k

-- The one that is chosen is a candidate's seat.
pub chosen_has : (P : Seat → Type 0) (ranks : List ℕ) (seat : ℕ → Seat) (l : List ℕ) (x : Seat) → chosen_of ranks seat l ≡ Some x → All (λ a. P (seat a)) l → P x
chosen_has P ranks seat [] x e k = let z : ◌≡◌ {A = ℕ} 0 1 = cc in absurd (omega arith)
chosen_has P ranks seat (a ∷ l) x e k =
    let q : least_rank ranks seat (lead_of ranks seat (a ∷ l)) (a ∷ l) ≡ x = cc in
    subst P q (least-has P ranks seat (lead_of ranks seat (a ∷ l)) (a ∷ l) (lead_of-has P ranks seat (a ∷ l) (omega arith) k) k)

pub none_chosen : (ranks : List ℕ) (seat : ℕ → Seat) (l : List ℕ) → length l ≡ 0 → None ≡ chosen_of ranks seat l
none_chosen ranks seat [] e = refl
none_chosen ranks seat (a ∷ l) e = absurd (omega arith)

pub one_chosen : (ranks : List ℕ) (seat : ℕ → Seat) (l : List ℕ) → 0 < length l → {lead x : Seat} → lead ≡ lead_of ranks seat l → x ≡ least_rank ranks seat lead l → Some x ≡ chosen_of ranks seat l
one_chosen ranks seat [] h e f = absurd (omega arith)
one_chosen ranks seat (a ∷ l) h e f = ap Some (f ∙ ap (λ (y : Seat). least_rank ranks seat y (a ∷ l)) e)

-- ---- what follows the first of a list

rest_is : (l : List ℕ) → take (length l - 1) (drop 1 l) ≡ drop 1 l
rest_is l = take_all (length l - 1) (drop 1 l) (omega (arith, length-drop 1 l))

pub rest_at : (l : List ℕ) (i : ℕ) → get_or (take (length l - 1) (drop 1 l)) i 0 ≡ get_or l (i + 1) 0
rest_at l i =
    let e : 1 + i ≡ i + 1 = omega arith in
    ap (λ (m : List ℕ). get_or m i 0) (rest_is l) ∙ get_or_after_one l i 0 ∙ ap (λ (k : ℕ). get_or l k 0) e

pub rest_length : (l : List ℕ) → length (take (length l - 1) (drop 1 l)) ≡ length l - 1
rest_length l = ap length (rest_is l) ∙ length-drop 1 l

-- ---- `lead_of`

pub record Leading (ranks : List ℕ) (seat : ℕ → Seat) (n : ℕ) (l : List ℕ) (best : Seat) (k : ℕ) : Type 0 where
  pub within : k ≤ length l
  pub known : best.activity < n
  pub rest : lead_from ranks seat best (drop k l) ≡ lead_of ranks seat l

lead_begin : (ranks : List ℕ) (seat : ℕ → Seat) (n : ℕ) (l : List ℕ) {best : Seat} → best ≡ seat (get_or l 0 0) → (seat (get_or l 0 0)).activity < n → Leading ranks seat n l best 0
lead_begin ranks seat n l {best} e h =
    record { within = omega arith; known = rw e h; rest = ap (λ (y : Seat). lead_from ranks seat y l) e }

module _ {ranks : List ℕ} {seat : ℕ → Seat} {n : ℕ} {l : List ℕ} {best : Seat} {k : ℕ} (w : Leading ranks seat n l best k) where
  pub lead_again : k < length l → {x r : Seat} → x ≡ seat (get_or l k 0) → x.activity < n → r ≡ sooner ranks x best → Leading ranks seat n l r (k + 1)
  unfolding lead_from
  lead_again h {x} {r} e a f =
      record {
        within = omega arith;
        known =
            subst (λ (y : Seat). y.activity < n) (sym f)
            (pick-has (λ (y : Seat). y.activity < n) (ltb x.finish best.finish || (eqb x.finish best.finish && ltb (rank ranks x) (rank ranks best))) x best a w.known);
        rest =
            ap (λ (y : Seat). lead_from ranks seat y (drop (k + 1) l)) (f ∙ ap (λ (y : Seat). sooner ranks y best) e)
            ∙ sym (next_of (lead_from ranks seat best) l k h) ∙ w.rest;
      }

  pub lead_end : length l ≤ k → best ≡ lead_of ranks seat l
  unfolding lead_from
  lead_end h = sym (none_left (lead_from ranks seat best) l k w.within h) ∙ w.rest

pick_self : (t : Bool) (x : Seat) → pick_seat t x x ≡ x
pick_self true x = refl
pick_self false x = refl

-- The first need not be compared with itself.
pub lead_first : (ranks : List ℕ) (seat : ℕ → Seat) (n : ℕ) (l : List ℕ) {best : Seat} → best ≡ seat (get_or l 0 0) → (seat (get_or l 0 0)).activity < n → 0 < length l → Leading ranks seat n l best 1
lead_first ranks seat n l {best} e h k =
    lead_again (lead_begin ranks seat n l e h) k e (rw e h)
    (sym (pick_self (ltb best.finish best.finish || (eqb best.finish best.finish && ltb (rank ranks best) (rank ranks best))) best))

-- ---- `least_rank`

pub record Picking (ranks : List ℕ) (seat : ℕ → Seat) (lead : Seat) (n : ℕ) (l : List ℕ) (best : Seat) (k : ℕ) : Type 0 where
  pub within : k ≤ length l
  pub known : best.activity < n
  pub rest : best ≡ least_rank ranks seat lead (drop k l)

pub pick_begin : (ranks : List ℕ) (seat : ℕ → Seat) (lead : Seat) (n : ℕ) (l : List ℕ) → lead.activity < n → Picking ranks seat lead n l lead (length l)
unfolding least_rank
pick_begin ranks seat lead n l h =
    record { within = omega arith; known = h; rest = sym (ap (least_rank ranks seat lead) (drop-length l)) }

module _ {ranks : List ℕ} {seat : ℕ → Seat} {lead : Seat} {n : ℕ} {l : List ℕ} {best : Seat} {k : ℕ} (w : Picking ranks seat lead n l best k) where
  pub pick_again : 0 < k → {x r : Seat} → x ≡ seat (get_or l (k - 1) 0) → x.activity < n → r ≡ preferred ranks lead x best → Picking ranks seat lead n l r (k - 1)
  unfolding least_rank
  pick_again h {x} {r} e a f =
      let q : k ≡ k - 1 + 1 = omega arith in
      record {
        within = omega (arith, w.within);
        known =
            subst (λ (y : Seat). y.activity < n) (sym f)
            (pick-has (λ (y : Seat). y.activity < n) (contends lead x && leb (rank ranks x) (rank ranks best)) x best a w.known);
        rest =
            f ∙ ap₂ (λ (y z : Seat). preferred ranks lead y z) e (w.rest ∙ ap (λ (j : ℕ). least_rank ranks seat lead (drop j l)) q)
            ∙ sym (next_of (least_rank ranks seat lead) l (k - 1) (omega (arith, w.within)));
      }

-- ---- seats that are kept by task

module _ (ranks kept : List ℕ) (seat : ℕ → Seat) where
  abbrev pub Agree : ℕ → Type 0
  Agree t = seat_in kept t ≡ seat (held_in kept t)

  lead_by : (y : Seat) (l : List ℕ) → All Agree l → lead_from ranks (seat_in kept) y l ≡ lead_from ranks seat y (held_by kept l)
  unfolding lead_from held_by All
  lead_by y [] h = refl
  lead_by y (t ∷ l) h =
      ap (λ (x : Seat). lead_from ranks (seat_in kept) (sooner ranks x y) l) h.0 ∙ lead_by (sooner ranks (seat (held_in kept t)) y) l h.1

  least_by : (lead : Seat) (l : List ℕ) → All Agree l → least_rank ranks (seat_in kept) lead l ≡ least_rank ranks seat lead (held_by kept l)
  unfolding least_rank held_by All
  least_by lead [] h = refl
  least_by lead (t ∷ l) h = ap₂ (λ (x y : Seat). preferred ranks lead x y) h.0 (least_by lead l h.1)

  pub chosen_by : (l : List ℕ) → 0 < length l → All Agree l → {lead x : Seat} → lead ≡ lead_of ranks (seat_in kept) l → x ≡ least_rank ranks (seat_in kept) lead l
      → Some x ≡ chosen_of ranks seat (held_by kept l)
  unfolding held_by All
  chosen_by [] h k e f = absurd (omega arith)
  chosen_by (t ∷ l) h k {lead} e f =
      one_chosen ranks seat (held_by kept (t ∷ l)) (omega arith)
      (e ∙ lead_by (seat_in kept t) (t ∷ l) k ∙ ap (λ (y : Seat). lead_from ranks seat y (held_by kept (t ∷ l))) k.0) (f ∙ least_by lead (t ∷ l) k)

all_at : (P : ℕ → Type 0) (l : List ℕ) → ((k : ℕ) → k < length l → P (get_or l k 0)) → All P l
unfolding All
all_at P [] h = tt
all_at P (a ∷ l) h = (h 0 (omega arith), all_at P l (λ k i. h (suc k) (omega arith)))

pub lead_known : {n : ℕ} {ranks kept l : List ℕ} → Offered n ranks kept l → {lead : Seat} → lead ≡ lead_of ranks (seat_in kept) l → lead.activity < n
lead_known {n} {ranks} {kept} {l} w e =
    rw e (lead_of-has (λ (y : Seat). y.activity < n) ranks (seat_in kept) l w.some (all_at (λ t. held_in kept t < n) l w.known))

-- ---- `choose`

none_held : (kept l : List ℕ) → length l ≡ 0 → length (held_by kept l) ≡ 0
unfolding held_by
none_held kept [] e = refl
none_held kept (t ∷ l) e = absurd (omega arith)

module _ {p : Problem} {g : Genes} {settled₀ settled kept ends lines steps offered : List ℕ} (s : ScannedAll p g settled₀ settled kept ends lines steps offered) where
  pub agreed : (ranks : List ℕ) → All (Agree ranks kept (seat_now p g ends lines steps)) offered
  agreed ranks =
      all_at (Agree ranks kept (seat_now p g ends lines steps)) offered
      (λ k h. (s.keeping.holds (get_or offered k 0) (below_at p.tasks offered k s.tasks h) (s.known k h)).seat)

  pub offers : Accepted p g → {ranks : List ℕ} → length ranks ≡ 128 → 0 < length offered → Offered p.n ranks kept offered
  offers ok e h =
      record {
        sized = s.keeping.sized;
        there = below_more p.tasks 32 offered ok.tasks.1 s.tasks;
        known = s.known;
        ranked = e;
        few = ok.activities.1;
        some = h;
      }

  pub chosen_of' : (ranks : List ℕ) → 0 < length offered → {lead x : Seat} → lead ≡ lead_of ranks (seat_in kept) offered → x ≡ least_rank ranks (seat_in kept) lead offered
      → Some x ≡ chosen_of ranks (seat_now p g ends lines steps) (scan_of p g settled₀).candidates
  chosen_of' ranks h e f =
      chosen_by ranks kept (seat_now p g ends lines steps) offered h (agreed ranks) e f
      ∙ ap (λ (x : Scan). chosen_of ranks (seat_now p g ends lines steps) x.candidates) s.scanned

  pub none_of : (ranks : List ℕ) → length offered ≡ 0 → None ≡ chosen_of ranks (seat_now p g ends lines steps) (scan_of p g settled₀).candidates
  none_of ranks h =
      none_chosen ranks (seat_now p g ends lines steps) (held_by kept offered) (none_held kept offered h)
      ∙ ap (λ (x : Scan). chosen_of ranks (seat_now p g ends lines steps) x.candidates) s.scanned
