-- Where each activity has a machine and the order gives them all, and task order and predecessors close no circle, neither decoder leaves
-- anybody out: in order since all of the order are taken, actively since a scan that finds nobody has nobody left to find.
use Rattle.std.specs.Prelude.{None, Option, Some, ℕ}
use Prim.Native.Nat.{ℕ, zero, suc, ◌+◌, ◌≤◌, ◌<◌}
use mathlib.Core.Path.{◌≡◌, refl, sym, ap, ◌∙◌, subst}
use mathlib.Core.Bool.{Bool, true, false, not, ◌&&◌}
use mathlib.Core.List.{List, [], ◌∷◌}
use mathlib.Core.Logic.{⊎_elim}
use native.Mathlib.Omega.{arith}
use borrow.Author.Tests.{eq-eqb, eqb-true, eqb-false, ne_eqb, not-true}
use lib.ListN.{length, get_or, set, length-append}
use lib.Seq.{get_or-set_other, set-get_or}
use Rattle.graph.specs.Counting.{count_of, hit, sum_to}
use Rattle.graph.specs.Filing.{cons_if}
use Rattle.graph.specs.Arcs.{Circle}
use Rattle.graph.proofs.CountingLaws.{hit-eq, hit-ne, either, count_of-append, count_all, below_of}
use Rattle.graph.proofs.NamingLaws.{zeros_at}
use Rattle.graph.proofs.CircleLaws.{circle}
use Rattle.plan.specs.Problem.{Problem, Genes}
use Rattle.plan.specs.Accepted.{Accepted}
use Rattle.tables.specs.Tabled.{task_pred}
use Rattle.intake.specs.Circle.{Before}
use Rattle.intake.specs.Circle.Before.{step, name}
use Rattle.genes.specs.Indexed.{indexed, assigned_to, is_assigned, assigned_below, misses}
use Rattle.genes.proofs.TaskLaws.{task_within}
use Rattle.genes.proofs.IndexedLaws.{indexed-all}
use Rattle.genes.proofs.LinesLaws.{none_missed}
use Rattle.board.specs.Board.{Board, empty_board, those, sit}
use Rattle.board.specs.Sound.{Sound}
use Rattle.board.specs.declared.Seat.{Seat}
use Rattle.in_order.specs.InOrder.{ready_order, place_in_order}
use Rattle.in_order.proofs.PendingLaws.{or_true, and_true}
use Rattle.in_order.proofs.Theorem.{well_placed}
use Rattle.active.specs.Active.{ranks_of, Scan, settled_in, any_unsettled, stops_at, candidate_unless, stop_at, pass_over, scan_steps, scan_from, scan_tasks, scan_of, seat_now, chosen_of, scanned, choice_on, place_from, place_active}
use Rattle.accepted_sheets.specs.Orderly.{Settled, Orderly}
use Rattle.accepted_sheets.specs.Complete.{Complete}
use Rattle.accepted_sheets.proofs.SeatedLaws.{step_before, empty_orderly}
use Rattle.accepted_sheets.proofs.InOrderLaws.{between}
use Rattle.accepted_sheets.proofs.ActiveLaws.{task_at, chosen_orderly}

-- ---- everybody is placed

sum_ones : (k : ℕ) (f : ℕ → ℕ) → ((i : ℕ) → i < k → f i ≡ 1) → sum_to k f ≡ k
unfolding sum_to
sum_ones zero f h = refl
sum_ones (suc k) f h = omega (arith, sum_ones k f (λ i l. h i (omega arith)), h k (omega arith))

all_placed_lem : (p : Problem) {b : Board} → Sound p.n b → ((a : ℕ) → a < p.n → count_of a b.order ≡ 1) → Complete p b
all_placed_lem p {b} s h = sym (count_all p.n b.order s.known) ∙ sum_ones p.n (λ a. count_of a b.order) h

each_manned : (g : Genes) (k : ℕ) → assigned_below g k ≡ true → (a : ℕ) → a < k → is_assigned (g.assigned a) ≡ true
unfolding assigned_below
each_manned g zero e a h = absurd (omega arith)
each_manned g (suc k) e a h =
    let w = and_true (assigned_below g k) (is_assigned (g.assigned k)) e in
    either a k (λ y. subst (λ (x : ℕ). is_assigned (g.assigned x) ≡ true) (sym y) w.1) (λ ne. each_manned g k w.0 a (omega (arith, h, ne)))

-- ---- in order

those_kept : (test : ℕ → Bool) (l : List ℕ) (q : ℕ) → test q ≡ true → count_of q (those test l) ≡ count_of q l
unfolding those count_of
those_kept test [] q h = refl
those_kept test (a ∷ l) q h = go (test a) refl (those_kept test l q h)
  where
    go : (t : Bool) → test a ≡ t → count_of q (those test l) ≡ count_of q l → count_of q (cons_if t a (those test l)) ≡ hit a q + count_of q l
    go true e rest = omega arith
    go false e rest =
        either a q (λ y. let f : true ≡ false = sym h ∙ ap test (sym y) ∙ e in let z : ◌≡◌ {A = ℕ} 0 1 = cc in absurd (omega arith)) (λ ne. omega (arith, rest, hit-ne a q ne))

pub in_order_whole : {p : Problem} {g : Genes} → Accepted p g → (Circle p.n (Before p) → ⊥) → misses p g ≡ false → Complete p (place_in_order p g)
in_order_whole {p} {g} ok acyclic none =
    let s = well_placed p g ok in
    let m = none_missed ok none in
    all_placed_lem p s.sound
    (λ a h.
    ap (count_of a) s.rows ∙ those_kept (λ x. is_assigned (g.assigned x)) (ready_order p (indexed p g)) a (each_manned g p.n m.0 a h) ∙ s.all acyclic a
    ∙ indexed-all ok m.1 a h)

-- ---- actively: a scan settles nobody anew

put_again : (l : List ℕ) (a : ℕ) → get_or l a 0 ≡ 1 → set l a 1 ≡ l
put_again l a h = ap (set l a) (sym h) ∙ set-get_or l a 0

not_stopped : (s t : Bool) → (not s && t) ≡ false → t ≡ true → s ≡ true
not_stopped true t e f = refl
not_stopped false t e f = sym e ∙ f

unsettled_one : (settled l : List ℕ) → any_unsettled settled l ≡ true → (q : ℕ) × (0 < count_of q l) × (get_or settled q 0 ≡ 1 → ⊥)
unfolding any_unsettled count_of
unsettled_one settled [] e = let z : ◌≡◌ {A = ℕ} 0 1 = cc in absurd (omega arith)
unsettled_one settled (b ∷ l) e =
    let deeper = unsettled_one settled l in
    ⊎_elim (λ x. (b, omega (arith, hit-eq b b refl), eqb-false (get_or settled b 0) 1 (not-true (settled_in settled b) x)))
    (λ y. let w = deeper y in (w.0, omega (arith, w.1), w.2)) (or_true (not (settled_in settled b)) (any_unsettled settled l) e)

module _ {p : Problem} {g : Genes} (ok : Accepted p g) (manned : (a : ℕ) → a < p.n → is_assigned (g.assigned a) ≡ true) where
  passes_settled : (settled : List ℕ) (a : ℕ) → a < p.n → stops_at g settled a ≡ false → get_or settled a 0 ≡ 1
  passes_settled settled a h e = eqb-true (get_or settled a 0) 1 (not_stopped (settled_in settled a) (is_assigned (g.assigned a)) e (manned a h))

  steps_same : (left a : ℕ) (stop : Bool) (s : Scan) → a + left ≤ p.n → stops_at g s.settled a ≡ stop → (scan_steps p g left stop a s).settled ≡ s.settled
  unfolding scan_steps
  steps_same zero a stop s h e = refl
  steps_same (suc left) a true s h e = refl
  steps_same (suc left) a false s h e =
      steps_same left (suc a) (stops_at g (set s.settled a 1) (suc a)) (pass_over a s) (omega arith) refl
      ∙ put_again s.settled a (passes_settled s.settled a (omega arith) e)

  tasks-same : (left t : ℕ) (s : Scan) → t + left ≡ p.tasks → (scan_tasks p g left t s).settled ≡ s.settled
  unfolding scan_tasks
  tasks-same zero t s e = refl
  tasks-same (suc left) t s e =
      tasks-same left (suc t) (scan_from p g (p.steps t) (p.first t) s) (omega arith)
      ∙ steps_same (p.steps t) (p.first t) (stops_at g s.settled (p.first t)) s (task_within ok t (omega arith)) refl

  scan_same : (settled : List ℕ) → (scan_of p g settled).settled ≡ settled
  scan_same settled = tasks-same p.tasks 0 (record { settled = settled; candidates = [] }) (omega arith)

  -- ---- who waits for nobody is found

  record Due (settled : List ℕ) (c : ℕ) : Type 0 where
    pub here : c < p.n
    pub free : get_or settled c 0 ≡ 0
    pub steps : (q : ℕ) → q < c → p.task_of q ≡ p.task_of c → get_or settled q 0 ≡ 1
    pub named : any_unsettled settled (p.predecessors c) ≡ false

  stops : (settled : List ℕ) (c : ℕ) → Due settled c → stops_at g settled c ≡ true
  stops settled c d = rw (ne_eqb (get_or settled c 0) 1 (λ e. omega (arith, e, d.free)), manned c d.here)

  module _ (c : ℕ) where
    abbrev Found : Scan → Type 0
    Found s = 0 < count_of c s.candidates

    steps_keep : (left a : ℕ) (stop : Bool) (s : Scan) → Found s → Found (scan_steps p g left stop a s)
    unfolding scan_steps
    steps_keep zero a stop s h = h
    steps_keep (suc left) a true s h = omega (arith, h, count_of-append c s.candidates (candidate_unless (any_unsettled s.settled (p.predecessors a)) a))
    steps_keep (suc left) a false s h = steps_keep left (suc a) (stops_at g (set s.settled a 1) (suc a)) (pass_over a s) h

    tasks-keep : (left t : ℕ) (s : Scan) → Found s → Found (scan_tasks p g left t s)
    unfolding scan_tasks
    tasks-keep zero t s h = h
    tasks-keep (suc left) t s h =
        tasks-keep left (suc t) (scan_from p g (p.steps t) (p.first t) s) (steps_keep (p.steps t) (p.first t) (stops_at g s.settled (p.first t)) s h)

    stop_finds : (s : Scan) → Due s.settled c → Found (stop_at p c s)
    unfolding count_of
    stop_finds s d =
        let e : count_of c (candidate_unless (any_unsettled s.settled (p.predecessors c)) c) ≡ hit c c + 0 =
        ap (λ (t : Bool). count_of c (candidate_unless t c)) d.named in
        omega (arith, count_of-append c s.candidates (candidate_unless (any_unsettled s.settled (p.predecessors c)) c), e, hit-eq c c refl)

    steps_find : (left a : ℕ) (stop : Bool) (s : Scan) → Due s.settled c → stops_at g s.settled a ≡ stop → p.first (p.task_of c) ≤ a → a ≤ c → c < a + left
        → Found (scan_steps p g left stop a s)
    unfolding scan_steps
    steps_find zero a stop s d e f h l = absurd (omega arith)
    steps_find (suc left) a true s d e f h l =
        either a c (λ y. subst (λ (x : ℕ). Found (stop_at p x s)) (sym y) (stop_finds s d))
        (λ ne.
        let own = task_at ok (p.task_of c) a (ok.owner c d.here) f (omega (arith, h, ne, (ok.owned c d.here).1)) in
        let z = eq-eqb (get_or s.settled a 0) 1 (d.steps a (omega (arith, h, ne)) own) in
        let no : false ≡ true = rw z at e in
        let o : ◌≡◌ {A = ℕ} 0 1 = cc in absurd (omega arith))
    steps_find (suc left) a false s d e f h l =
        either a c
        (λ y. let no : true ≡ false = sym (stops s.settled c d) ∙ ap (stops_at g s.settled) (sym y) ∙ e in let o : ◌≡◌ {A = ℕ} 0 1 = cc in absurd (omega arith))
        (λ ne.
        let same = put_again s.settled a (passes_settled s.settled a (omega (arith, h, d.here)) e) in
        steps_find left (suc a) (stops_at g (set s.settled a 1) (suc a)) (pass_over a s) (subst (λ (x : List ℕ). Due x c) (sym same) d) refl (omega arith) (omega (arith, h, ne)) (omega arith))

    tasks_find : (left t : ℕ) (s : Scan) → t + left ≡ p.tasks → t ≤ p.task_of c → Due s.settled c → Found (scan_tasks p g left t s)
    unfolding scan_tasks
    tasks_find zero t s e h d = absurd (omega (arith, e, h, ok.owner c d.here))
    tasks_find (suc left) t s e h d =
        either t (p.task_of c)
        (λ y.
        let mine = ok.owned c d.here in
        let first = ap p.first y in
        let steps = ap p.steps y in
        tasks-keep left (suc t) (scan_from p g (p.steps t) (p.first t) s)
        (steps_find (p.steps t) (p.first t) (stops_at g s.settled (p.first t)) s d refl (omega (arith, first)) (omega (arith, first, mine.0)) (omega (arith, first, steps, mine.1))))
        (λ ne.
        tasks_find left (suc t) (scan_from p g (p.steps t) (p.first t) s) (omega arith) (omega (arith, h, ne))
        (subst (λ (x : List ℕ). Due x c) (sym (steps_same (p.steps t) (p.first t) (stops_at g s.settled (p.first t)) s (task_within ok t (omega arith)) refl)) d))

  scan_finds : (settled : List ℕ) (c : ℕ) → Due settled c → 0 < count_of c (scan_of p g settled).candidates
  scan_finds settled c d = tasks_find c p.tasks 0 (record { settled = settled; candidates = [] }) (omega arith) (omega arith) d

  -- ---- where a scan finds nobody, nobody is left

  first_step : (c q : ℕ) → c < p.n → task_pred p c ≡ None → q < c → p.task_of q ≡ p.task_of c → ⊥
  first_step zero q h e l s = omega arith
  first_step (suc a) q h e l s =
      let no : Some a ≡ None = rw (eq-eqb (p.task_of a) (p.task_of (suc a)) (between ok q a (suc a) (omega arith) (omega arith) h s)) at e in
      let z : ◌≡◌ {A = ℕ} 0 1 = cc in
      omega arith

  module _ {b : Board} (w : Orderly p (assigned_to g) b) (nobody : (c : ℕ) → count_of c (scan_of p g b.settled).candidates ≡ 0) where
    not_due : {A : Type 0} (c : ℕ) → Due b.settled c → A
    not_due c d = absurd (omega (arith, nobody c, scan_finds b.settled c d))

    abbrev Waits : ℕ → Type 0
    Waits c = (q : ℕ) × (q < p.n) × (get_or b.settled q 0 ≡ 0) × Before p q c

    left : (q : ℕ) → (Settled b q → ⊥) → get_or b.settled q 0 ≡ 0
    left q ne = omega (arith, ne, w.sound.flags q)

    by_step : (c : ℕ) → c < p.n → get_or b.settled c 0 ≡ 0 → any_unsettled b.settled (p.predecessors c) ≡ false → (link : Option ℕ) → task_pred p c ≡ link → Waits c
    by_step c h f n None e = not_due c (record { here = h; free = f; steps = λ x l t. absurd (first_step c x h e l t); named = n })
    by_step c h f n (Some q) e =
        let s = step_before p c q e in
        either (get_or b.settled q 0) 1
        (λ o.
        not_due c
        (record {
          here = h;
          free = f;
          steps = λ x l t.
              either x q (λ y. subst (λ (z : ℕ). Settled b z) (sym y) o) (λ ne. w.stepwise q x o (omega (arith, l, ne, s.0)) (t ∙ sym s.1));
          named = n;
        }))
        (λ ne. (q, omega (arith, h, s.0), left q ne, step h e))

    by_name : (c : ℕ) → c < p.n → get_or b.settled c 0 ≡ 0 → (t : Bool) → any_unsettled b.settled (p.predecessors c) ≡ t → Waits c
    by_name c h f true n =
        let u = unsettled_one b.settled (p.predecessors c) n in
        (u.0, below_of p.n u.0 (p.predecessors c) (ok.predecessors c) u.1, left u.0 u.2, name h u.1)
    by_name c h f false n = by_step c h f n (task_pred p c) refl

    everyone_settled : (Circle p.n (Before p) → ⊥) → (a : ℕ) → a < p.n → Settled b a
    everyone_settled acyclic a h =
        either (get_or b.settled a 0) 1 (λ e. e)
        (λ ne.
        absurd
        (acyclic
        (circle p.n (Before p) (λ c. get_or b.settled c 0 ≡ 0) (λ c k f. by_name c k f (any_unsettled b.settled (p.predecessors c)) refl) a h (left a ne))))

  -- ---- the work ends when everybody is placed

  none_found : (ranks : List ℕ) (seat : ℕ → Seat) (l : List ℕ) → chosen_of ranks seat l ≡ None → (c : ℕ) → count_of c l ≡ 0
  unfolding count_of
  none_found ranks seat [] e c = refl
  none_found ranks seat (a ∷ l) e c = let z : ◌≡◌ {A = ℕ} 0 1 = cc in absurd (omega arith)

  from_whole : (Circle p.n (Before p) → ⊥) → (ranks : List ℕ) (fuel : ℕ) (c : Option Seat) (b : Board) → Orderly p (assigned_to g) b → ((q : ℕ) → Settled b q → 0 < count_of q b.order)
      → choice_on p g ranks b ≡ c → fuel + length b.order ≡ p.n → Complete p (place_from p g ranks fuel c (scanned p g b))
  unfolding place_from count_of
  from_whole acyclic ranks zero c b w placed e f = omega (arith, f)
  from_whole acyclic ranks (suc fuel) None b w placed e f =
      all_placed_lem p w.sound
      (λ a h.
      omega
      (arith, w.sound.once a, w.sound.flags a, placed a (everyone_settled w (none_found ranks (seat_now p g b.ends b.lines b.steps) (scan_of p g b.settled).candidates e) acyclic a h)))
  from_whole acyclic ranks (suc fuel) (Some x) b w placed e f =
      from_whole acyclic ranks fuel (choice_on p g ranks (sit p x (scanned p g b))) (sit p x (scanned p g b)) (chosen_orderly ok ranks w x e)
      (λ q h.
      let a = x.activity in
      let more = count_of-append q b.order (a ∷ []) in
      either a q (λ y. omega (arith, more, hit-eq a q y))
      (λ ne.
      let old : get_or b.settled q 0 ≡ 1 =
      sym (ap (λ (l : List ℕ). get_or l q 0) (scan_same b.settled)) ∙ sym (get_or-set_other (scan_of p g b.settled).settled a q 1 0 (λ y. ne (sym y))) ∙ h in
      omega (arith, more, placed q old)))
      refl (omega (arith, f, length-append b.order (x.activity ∷ [])))

  pub active_whole : (Circle p.n (Before p) → ⊥) → Complete p (place_active p g)
  active_whole acyclic =
      from_whole acyclic (ranks_of (indexed p g)) p.n (choice_on p g (ranks_of (indexed p g)) (empty_board p.n)) (empty_board p.n) (empty_orderly p (assigned_to g))
      (λ q h. absurd (omega (arith, h, zeros_at p.n q))) refl (omega arith)

pub all_manned : {p : Problem} {g : Genes} → Accepted p g → misses p g ≡ false → (a : ℕ) → a < p.n → is_assigned (g.assigned a) ≡ true
all_manned {p} {g} ok none = each_manned g p.n (none_missed ok none).0
