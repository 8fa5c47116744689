-- What is kept: cells that are written leave the others as they are, and a seat that is kept is still the activity's seat after another was
-- placed, on another machine and of another task.
use Rattle.std.specs.Prelude.{None, Option, Some, is_some}
use Prim.Native.Nat.{ℕ, zero, suc, ◌+◌, ◌-◌, ◌≤◌, ◌<◌}
use mathlib.Core.Path.{◌≡◌, refl, sym, ap, ◌∙◌, subst}
use mathlib.Core.Bool.{Bool, true, false, cond, not, ◌||◌}
use mathlib.Core.List.{List, [], ◌∷◌}
use native.Mathlib.Omega.{arith}
use native.Mathlib.Numerals.{add-one}
use borrow.Author.Tests.{eqb-true, eqb-false, ltb-true, eq-eqb, ne_eqb}
use lib.Dec.{eqb, ltb}
use lib.ListN.{length, get_or, set, replicate, length-set, get_or-replicate}
use lib.Seq.{get_or-set_same, get_or-set_other}
use Rattle.graph.specs.Counting.{count_of}
use Rattle.graph.specs.Links.{linked, to_if}
use Rattle.graph.proofs.CountingLaws.{either, hit-ne, hit_pos}
use Rattle.plan.specs.Problem.{Problem, Genes}
use Rattle.plan.specs.Accepted.{Accepted}
use Rattle.timing.specs.Placing.{machine_before}
use Rattle.timing.proofs.PlacingLaws.{greatest-same}
use Rattle.genes.specs.Indexed.{assigned_to, is_assigned}
use Rattle.genes.proofs.MachineLaws.{assigned_known}
use Rattle.genes.proofs.TaskLaws.{task_within, same_task}
use Rattle.board.specs.Board.{last_placed, seat_from}
use Rattle.board.specs.declared.Seat.{Seat}
use Rattle.active.specs.Active.{settled_in, any_unsettled, stops_at, seat_now}
use Rattle.active.specs.Kept.{stops_here, Manned, next_in, last_in, held_in, seat_in, with_seat, forgotten, Holds, Kept, Told, Fresh}

-- ---- machines by activity

assigned_is : (o : Option ℕ) → is_some o ≡ is_assigned o
assigned_is None = refl
assigned_is (Some m) = refl

pub stops_is : {g : Genes} {n : ℕ} {on : List (Option ℕ)} → Manned g n on → (settled : List ℕ) (a : ℕ) → a < n → stops_here on settled a ≡ stops_at g settled a
stops_is {g} {n} {on} w settled a h = rw (w.given a h, assigned_is (g.assigned a))

pub manned_more : {g : Genes} {k : ℕ} {x : Option ℕ} {on : List (Option ℕ)} → Manned g k on → k < 128 → x ≡ g.assigned k → Manned g (k + 1) (set on k x)
manned_more {g} {k} {x} {on} w h e =
    record {
      sized = length-set on k x ∙ w.sized;
      given = λ a i.
          either a k (λ q. subst (λ (b : ℕ). get_or (set on k x) b None ≡ g.assigned b) (sym q) (get_or-set_same on k x None (omega (arith, h, w.sized)) ∙ e))
          (λ ne. get_or-set_other on k a x None ne ∙ w.given a (omega arith));
    }

-- ---- flags that are put up

-- a task's activities are its own
pub own_task : {p : Problem} {g : Genes} → Accepted p g → (t a : ℕ) → t < p.tasks → p.first t ≤ a → a < p.first t + p.steps t → p.task_of a ≡ t
own_task {p} ok t a h l k =
    let mine = ok.owned a (omega (arith, k, task_within ok t h)) in
    same_task ok (p.task_of a) t (a - p.first (p.task_of a)) (a - p.first t) (omega (arith, mine.0, mine.1)) (omega arith) (omega (arith, mine.0))

or_false : (s t : Bool) → (s || t) ≡ false → (s ≡ false) × (t ≡ false)
or_false true t e = (e, absurd (let z : ◌≡◌ {A = ℕ} 0 1 = cc in omega arith))
or_false false t e = (refl, e)

not_false : (s : Bool) → not s ≡ false → s ≡ true
not_false true e = refl
not_false false e = sym e

pub all_settled : (settled l : List ℕ) (q : ℕ) → any_unsettled settled l ≡ false → 0 < count_of q l → get_or settled q 0 ≡ 1
unfolding any_unsettled count_of
all_settled settled [] q e h = absurd (omega arith)
all_settled settled (b ∷ l) q e h =
    let o = or_false (not (settled_in settled b)) (any_unsettled settled l) e in
    either b q (λ y. subst (λ (x : ℕ). get_or settled x 0 ≡ 1) y (eqb-true (get_or settled b 0) 1 (not_false (settled_in settled b) o.0)))
    (λ ne. all_settled settled l q o.1 (omega (arith, h, hit-ne b q ne)))

pub record Grown (settled settled' : List ℕ) : Type 0 where
  pub still : (i : ℕ) → get_or settled i 0 ≡ 1 → get_or settled' i 0 ≡ 1

pub one_grown : (settled : List ℕ) (a : ℕ) → a < length settled → Grown settled (set settled a 1)
one_grown settled a h =
    record {
      still = λ i e.
          either i a (λ q. subst (λ (x : ℕ). get_or (set settled a 1) x 0 ≡ 1) (sym q) (get_or-set_same settled a 1 0 h)) (λ ne. get_or-set_other settled a i 1 0 ne ∙ e);
    }

pub still_free : {settled settled' : List ℕ} → Grown settled settled' → (l : List ℕ) → any_unsettled settled l ≡ false → any_unsettled settled' l ≡ false
unfolding any_unsettled
still_free u [] e = refl
still_free {settled} {settled'} u (b ∷ l) e =
    let o = or_false (not (settled_in settled b)) (any_unsettled settled l) e in
    rw (eq-eqb (get_or settled' b 0) 1 (u.still b (eqb-true (get_or settled b 0) 1 (not_false (settled_in settled b) o.0))), still_free u l o.1)

-- ---- cells

pub seat_other : (kept : List ℕ) (i v u : ℕ) → (64 + u ≡ i → ⊥) → (96 + u ≡ i → ⊥) → (128 + u ≡ i → ⊥) → (160 + u ≡ i → ⊥) → (192 + u ≡ i → ⊥) → seat_in (set kept i v) u ≡ seat_in kept u
seat_other kept i v u a b c d e =
    rw (get_or-set_other kept i (64 + u) v 0 a, get_or-set_other kept i (96 + u) v 0 b, get_or-set_other kept i (128 + u) v 0 c, get_or-set_other kept i (160 + u) v 0 d, get_or-set_other kept i (192 + u) v 0 e)

module _ (kept : List ℕ) (t : ℕ) (x : Seat) where
  abbrev one : List ℕ
  one = set kept (64 + t) x.activity

  abbrev two : List ℕ
  two = set one (96 + t) x.machine

  abbrev three : List ℕ
  three = set two (128 + t) x.start

  abbrev four : List ℕ
  four = set three (160 + t) x.finish

  pub length_with : length (with_seat kept t x) ≡ length kept
  length_with =
      length-set four (192 + t) x.setup ∙ length-set three (160 + t) x.finish ∙ length-set two (128 + t) x.start ∙ length-set one (96 + t) x.machine ∙ length-set kept (64 + t) x.activity

  -- a cell of another row or task
  with_other : (i : ℕ) → (i ≡ 64 + t → ⊥) → (i ≡ 96 + t → ⊥) → (i ≡ 128 + t → ⊥) → (i ≡ 160 + t → ⊥) → (i ≡ 192 + t → ⊥) → get_or (with_seat kept t x) i 0 ≡ get_or kept i 0
  with_other i a b c d e =
      get_or-set_other four (192 + t) i x.setup 0 e ∙ get_or-set_other three (160 + t) i x.finish 0 d ∙ get_or-set_other two (128 + t) i x.start 0 c
      ∙ get_or-set_other one (96 + t) i x.machine 0 b ∙ get_or-set_other kept (64 + t) i x.activity 0 a

  pub with_low : (i : ℕ) → i < 64 → get_or (with_seat kept t x) i 0 ≡ get_or kept i 0
  with_low i h = with_other i (λ e. omega arith) (λ e. omega arith) (λ e. omega arith) (λ e. omega arith) (λ e. omega arith)

  module _ (ht : t < 32) where
    pub with_apart : (u : ℕ) → u < 32 → (u ≡ t → ⊥) → seat_in (with_seat kept t x) u ≡ seat_in kept u
    with_apart u hu ne =
        rw (
          with_other (64 + u) (λ e. ne (omega arith)) (λ e. omega arith) (λ e. omega arith) (λ e. omega arith) (λ e. omega arith),
          with_other (96 + u) (λ e. omega arith) (λ e. ne (omega arith)) (λ e. omega arith) (λ e. omega arith) (λ e. omega arith),
          with_other (128 + u) (λ e. omega arith) (λ e. omega arith) (λ e. ne (omega arith)) (λ e. omega arith) (λ e. omega arith),
          with_other (160 + u) (λ e. omega arith) (λ e. omega arith) (λ e. omega arith) (λ e. ne (omega arith)) (λ e. omega arith),
          with_other (192 + u) (λ e. omega arith) (λ e. omega arith) (λ e. omega arith) (λ e. omega arith) (λ e. ne (omega arith)),
        )

    pub with_seat' : length kept ≡ 224 → seat_in (with_seat kept t x) t ≡ x
    with_seat' l =
        let l1 = length-set kept (64 + t) x.activity in
        let l2 = length-set one (96 + t) x.machine in
        let l3 = length-set two (128 + t) x.start in
        let l4 = length-set three (160 + t) x.finish in
        let a : get_or (with_seat kept t x) (64 + t) 0 ≡ x.activity = get_or-set_other four (192 + t) (64 + t) x.setup 0 (λ e. omega arith) ∙ get_or-set_other three (160 + t) (64 + t) x.finish 0 (λ e. omega arith)
        ∙ get_or-set_other two (128 + t) (64 + t) x.start 0 (λ e. omega arith) ∙ get_or-set_other one (96 + t) (64 + t) x.machine 0 (λ e. omega arith) ∙ get_or-set_same kept (64 + t) x.activity 0 (omega arith) in
        let b : get_or (with_seat kept t x) (96 + t) 0 ≡ x.machine = get_or-set_other four (192 + t) (96 + t) x.setup 0 (λ e. omega arith) ∙ get_or-set_other three (160 + t) (96 + t) x.finish 0 (λ e. omega arith)
        ∙ get_or-set_other two (128 + t) (96 + t) x.start 0 (λ e. omega arith) ∙ get_or-set_same one (96 + t) x.machine 0 (omega (arith, l1)) in
        let c : get_or (with_seat kept t x) (128 + t) 0 ≡ x.start = get_or-set_other four (192 + t) (128 + t) x.setup 0 (λ e. omega arith) ∙ get_or-set_other three (160 + t) (128 + t) x.finish 0 (λ e. omega arith)
        ∙ get_or-set_same two (128 + t) x.start 0 (omega (arith, l1, l2)) in
        let d : get_or (with_seat kept t x) (160 + t) 0 ≡ x.finish = get_or-set_other four (192 + t) (160 + t) x.setup 0 (λ e. omega arith) ∙ get_or-set_same three (160 + t) x.finish 0 (omega (arith, l1, l2, l3)) in
        let f : get_or (with_seat kept t x) (192 + t) 0 ≡ x.setup = get_or-set_same four (192 + t) x.setup 0 (omega (arith, l1, l2, l3, l4)) in
        rw (a, b, c, d, f)

-- ---- seats that are forgotten

cond_other : (b : Bool) (l : List ℕ) (j v i : ℕ) → (i ≡ j → ⊥) → get_or (cond b (set l j v) l) i 0 ≡ get_or l i 0
cond_other true l j v i ne = get_or-set_other l j i v 0 ne
cond_other false l j v i ne = refl

cond_same : (b : Bool) (l : List ℕ) (j v : ℕ) → j < length l → get_or (cond b (set l j v) l) j 0 ≡ cond b v (get_or l j 0)
cond_same true l j v h = get_or-set_same l j v 0 h
cond_same false l j v h = refl

cond-length : (b : Bool) (l : List ℕ) (j v : ℕ) → length (cond b (set l j v) l) ≡ length l
cond-length true l j v = length-set l j v
cond-length false l j v = refl

module _ (n m : ℕ) (kept : List ℕ) where
  pub length-forgotten : (k : ℕ) → length (forgotten n m k kept) ≡ length kept
  unfolding forgotten
  length-forgotten zero = refl
  length-forgotten (suc k) = cond-length (eqb (get_or kept (96 + k) 0) m) (forgotten n m k kept) (64 + k) n ∙ length-forgotten k

  -- a cell that is no seat's activity, or of a later task
  pub forget_other : (k i : ℕ) → ((u : ℕ) → u < k → i ≡ 64 + u → ⊥) → get_or (forgotten n m k kept) i 0 ≡ get_or kept i 0
  unfolding forgotten
  forget_other zero i h = refl
  forget_other (suc k) i h = cond_other (eqb (get_or kept (96 + k) 0) m) (forgotten n m k kept) (64 + k) n i (h k (omega arith)) ∙ forget_other k i (λ u l. h u (omega arith))

  pub forget_held : (k u : ℕ) → u < k → k ≤ 32 → length kept ≡ 224 → get_or (forgotten n m k kept) (64 + u) 0 ≡ cond (eqb (get_or kept (96 + u) 0) m) n (get_or kept (64 + u) 0)
  unfolding forgotten
  forget_held zero u h l s = absurd (omega arith)
  forget_held (suc k) u h l s =
      either u k
      (λ e. subst (λ (v : ℕ). get_or (cond (eqb (get_or kept (96 + k) 0) m) (set (forgotten n m k kept) (64 + k) n) (forgotten n m k kept)) (64 + v) 0 ≡ cond (eqb (get_or kept (96 + v) 0) m) n (get_or kept (64 + v) 0)) (sym e)
      (cond_same (eqb (get_or kept (96 + k) 0) m) (forgotten n m k kept) (64 + k) n (omega (arith, length-forgotten k))
      ∙ ap (λ (v : ℕ). cond (eqb (get_or kept (96 + k) 0) m) n v) (forget_other k (64 + k) (λ v i q. omega arith))))
      (λ ne. cond_other (eqb (get_or kept (96 + k) 0) m) (forgotten n m k kept) (64 + k) n (64 + u) (λ e. ne (omega arith)) ∙ forget_held k u (omega arith) (omega arith) s)

  picked_other : (b : Bool) (x : ℕ) → cond b n x < n → b ≡ false
  picked_other true x h = absurd (omega arith)
  picked_other false x h = refl

  module _ (tasks task : ℕ) (few : tasks ≤ 32) (s : length kept ≡ 224) (ht : task < 32) where
    abbrev rest : List ℕ
    rest = set (forgotten n m tasks kept) (64 + task) n

    pub length_rest : length rest ≡ 224
    length_rest = length-set (forgotten n m tasks kept) (64 + task) n ∙ length-forgotten tasks ∙ s

    pub rest_low : (i : ℕ) → i < 64 → get_or rest i 0 ≡ get_or kept i 0
    rest_low i h = get_or-set_other (forgotten n m tasks kept) (64 + task) i n 0 (λ e. omega arith) ∙ forget_other tasks i (λ u l e. omega arith)

    module _ (u : ℕ) (hu : u < tasks) (h : held_in rest u < n) where
      pub not_the_task : u ≡ task → ⊥
      not_the_task e =
          let q : held_in rest task ≡ n = get_or-set_same (forgotten n m tasks kept) (64 + task) n 0 (omega (arith, length-forgotten tasks)) in
          let r : held_in rest u ≡ held_in rest task = ap (held_in rest) e in
          omega (arith, h, q, r)

      held_then : held_in rest u ≡ cond (eqb (get_or kept (96 + u) 0) m) n (get_or kept (64 + u) 0)
      held_then = get_or-set_other (forgotten n m tasks kept) (64 + task) (64 + u) n 0 (λ e. not_the_task (omega arith)) ∙ forget_held tasks u hu few s

      apart : eqb (get_or kept (96 + u) 0) m ≡ false
      apart = picked_other (eqb (get_or kept (96 + u) 0) m) (get_or kept (64 + u) 0) (omega (arith, h, held_then))

      pub not_the_machine : get_or kept (96 + u) 0 ≡ m → ⊥
      not_the_machine = eqb-false (get_or kept (96 + u) 0) m apart

      pub seat-left : seat_in rest u ≡ seat_in kept u
      seat-left =
          let a : held_in rest u ≡ held_in kept u = held_then ∙ ap (λ (b : Bool). cond b n (get_or kept (64 + u) 0)) apart in
          rw (a, high 96 (omega arith), high 128 (omega arith), high 160 (omega arith), high 192 (omega arith))
        where
          high : (i : ℕ) → 96 ≤ i → get_or rest (i + u) 0 ≡ get_or kept (i + u) 0
          high i l = get_or-set_other (forgotten n m tasks kept) (64 + task) (i + u) n 0 (λ e. omega arith) ∙ forget_other tasks (i + u) (λ v j e. omega arith)

-- ---- a seat that is kept

module _ {p : Problem} {g : Genes} {kept kept' ends lines steps settled : List ℕ} {t : ℕ} where
  pub holds_by : seat_in kept' t ≡ seat_in kept t → Holds p g kept ends lines steps settled t → Holds p g kept' ends lines steps settled t
  holds_by e w =
      record {
        owned = ap (λ (x : Seat). p.task_of x.activity) e ∙ w.owned;
        free = ap (λ (x : Seat). any_unsettled settled (p.predecessors x.activity)) e ∙ w.free;
        seat = e ∙ w.seat ∙ ap (λ (x : Seat). seat_now p g ends lines steps x.activity) (sym e);
      }

pub holds_grown : {p : Problem} {g : Genes} {kept ends lines steps settled settled' : List ℕ} {t : ℕ} → Grown settled settled' → Holds p g kept ends lines steps settled t → Holds p g kept ends lines steps settled' t
holds_grown {p} {kept = kept} {t = t} u w = record { owned = w.owned; free = still_free u (p.predecessors (held_in kept t)) w.free; seat = w.seat }

-- ---- whoever was placed last is settled

pub told_grown : {n : ℕ} {lines steps settled settled' : List ℕ} → Grown settled settled' → Told n lines steps settled → Told n lines steps settled'
told_grown {lines = lines} {steps = steps} u w = record { lined = λ m h l. u.still (get_or lines m 0) (w.lined m h l); stepped = λ t h l. u.still (get_or steps t 0) (w.stepped t h l) }

pub told_none : (n : ℕ) (settled : List ℕ) → Told n (replicate 16 n) (replicate 32 n) settled
told_none n settled =
    record {
      lined = λ m h l. absurd (omega (arith, l, get_or-replicate 16 m n 0 h));
      stepped = λ t h l. absurd (omega (arith, l, get_or-replicate 32 t n 0 h));
    }

cell-told : (n k a i : ℕ) (cells settled : List ℕ) → length cells ≡ k → i < k → a < length settled → ((j : ℕ) → j < k → get_or cells j 0 < n → get_or settled (get_or cells j 0) 0 ≡ 1)
    → (j : ℕ) → j < k → get_or (set cells i a) j 0 < n → get_or (set settled a 1) (get_or (set cells i a) j 0) 0 ≡ 1
cell-told n k a i cells settled e hi ha old j hj l =
    either j i
    (λ q. let same : get_or (set cells i a) j 0 ≡ a = ap (λ (x : ℕ). get_or (set cells i a) x 0) q ∙ get_or-set_same cells i a 0 (omega arith) in
    ap (λ (x : ℕ). get_or (set settled a 1) x 0) same ∙ get_or-set_same settled a 1 0 ha)
    (λ ne. let other : get_or (set cells i a) j 0 ≡ get_or cells j 0 = get_or-set_other cells i j a 0 ne in
    ap (λ (x : ℕ). get_or (set settled a 1) x 0) other ∙ (one_grown settled a ha).still (get_or cells j 0) (old j hj (omega (arith, l, other))))

pub told-sit : {n : ℕ} {lines steps settled : List ℕ} → Told n lines steps settled → length lines ≡ 16 → length steps ≡ 32 → (a m t : ℕ) → a < length settled → m < 16 → t < 32
    → Told n (set lines m a) (set steps t a) (set settled a 1)
told-sit {n} {lines} {steps} {settled} w el es a m t ha hm ht =
    record { lined = cell-told n 16 a m lines settled el hm ha w.lined; stepped = cell-told n 32 a t steps settled es ht ha w.stepped }

linked_is : (n k q : ℕ) (b : Bool) → ltb k n ≡ b → 0 < count_of q (linked (to_if b k)) → (k < n) × (k ≡ q)
unfolding count_of
linked_is n k q true e h = (ltb-true k n e, hit_pos k q (omega arith))
linked_is n k q false e h = absurd (omega arith)

-- ---- another's seat is as it was

module _ {p : Problem} {g : Genes} (ok : Accepted p g) (ends : List ℕ) {lines steps settled : List ℕ} (w : Told p.n lines steps settled) (x m t f : ℕ) (z : get_or settled x 0 ≡ 0) where
  end_same : (q : ℕ) → get_or settled q 0 ≡ 1 → get_or (set ends x f) q 0 ≡ get_or ends q 0
  end_same q s = get_or-set_other ends x q f 0 (λ e. let r : get_or settled q 0 ≡ get_or settled x 0 = ap (λ (y : ℕ). get_or settled y 0) e in omega (arith, r, s, z))

  line_same : (k q : ℕ) → k < 16 → 0 < count_of q (linked (last_placed p.n lines k)) → get_or (set ends x f) q 0 ≡ get_or ends q 0
  line_same k q h l =
      let i = linked_is p.n (get_or lines k 0) q (ltb (get_or lines k 0) p.n) refl l in
      end_same q (subst (λ (y : ℕ). get_or settled y 0 ≡ 1) i.1 (w.lined k h i.0))

  step_same : (k q : ℕ) → k < 32 → 0 < count_of q (linked (last_placed p.n steps k)) → get_or (set ends x f) q 0 ≡ get_or ends q 0
  step_same k q h l =
      let i = linked_is p.n (get_or steps k 0) q (ltb (get_or steps k 0) p.n) refl l in
      end_same q (subst (λ (y : ℕ). get_or settled y 0 ≡ 1) i.1 (w.stepped k h i.0))

  pub seat_stays : (a : ℕ) → a < p.n → (assigned_to g a ≡ m → ⊥) → (p.task_of a ≡ t → ⊥) → any_unsettled settled (p.predecessors a) ≡ false
      → seat_now p g (set ends x f) (set lines m x) (set steps t x) a ≡ seat_now p g ends lines steps a
  seat_stays a h nm nt free =
      let el : get_or (set lines m x) (assigned_to g a) 0 ≡ get_or lines (assigned_to g a) 0 = get_or-set_other lines m (assigned_to g a) x 0 nm in
      let es : get_or (set steps t x) (p.task_of a) 0 ≡ get_or steps (p.task_of a) 0 = get_or-set_other steps t (p.task_of a) x 0 nt in
      rw (el, es)
      (ap (seat_from p a (assigned_to g a) (last_placed p.n lines (assigned_to g a)))
      (greatest-same (λ q. get_or (set ends x f) q 0) (λ q. get_or ends q 0) (p.predecessors a) _ _
      (greatest-same _ _ (linked (last_placed p.n steps (p.task_of a))) _ _
      (greatest-same (λ q. get_or (set ends x f) q 0) (λ q. get_or ends q 0) (linked (last_placed p.n lines (assigned_to g a))) _ _ refl
      (λ q l. line_same (assigned_to g a) q (omega (arith, assigned_known ok a, ok.machines.1)) l))
      (λ q l. ap (λ (y : ℕ). y + p.transport (machine_before (last_placed p.n steps (p.task_of a)) (assigned_to g)) (assigned_to g a)) (step_same (p.task_of a) q (omega (arith, ok.owner a h, ok.tasks.1)) l)))
      (λ q l. end_same q (all_settled settled (p.predecessors a) q free l))))

-- ---- what is kept after a placing

pub fresh_kept : {p : Problem} {kept : List ℕ} → Fresh p kept → (g : Genes) (ends settled : List ℕ) → Kept p g kept ends (replicate 16 p.n) (replicate 32 p.n) settled
fresh_kept {p} {kept} w g ends settled =
    record {
      sized = w.sized;
      fronts =
          record {
            last = w.last;
            above = λ t h. omega (arith, w.next t h);
            below = λ t h. omega (arith, w.next t h);
            passed = λ t h i l u. absurd (omega (arith, l, u, w.next t h));
          };
      told = told_none p.n settled;
      holds = λ t h l. absurd (omega (arith, l, w.none t h));
    }

module _ {p : Problem} {g : Genes} (ok : Accepted p g) {kept ends lines steps settled : List ℕ} (k : Kept p g kept ends lines steps settled) (el : length lines ≡ 16) (es : length steps ≡ 32) (en : length settled ≡ p.n)
    (x : Seat) (here : x.activity < p.n) (there : x.machine < p.machines) (free : get_or settled x.activity 0 ≡ 0) (task : ℕ) (et : task ≡ p.task_of x.activity) where
  low : task < 32
  low = omega (arith, et, ok.owner x.activity here, ok.tasks.1)

  abbrev left : List ℕ
  left = set (forgotten p.n x.machine p.tasks kept) (64 + task) p.n

  grown : Grown settled (set settled x.activity 1)
  grown = one_grown settled x.activity (omega (arith, here, en))

  row : (i : ℕ) → i < 64 → get_or left i 0 ≡ get_or kept i 0
  row = rest_low p.n x.machine kept p.tasks task ok.tasks.1 k.sized low

  pub sit_kept : Kept p g left (set ends x.activity x.finish) (set lines x.machine x.activity) (set steps (p.task_of x.activity) x.activity) (set settled x.activity 1)
  sit_kept =
      record {
        sized = length_rest p.n x.machine kept p.tasks task ok.tasks.1 k.sized low;
        fronts =
            record {
              last = λ u h. row (32 + u) (omega (arith, h, ok.tasks.1)) ∙ k.fronts.last u h;
              above = λ u h. omega (arith, row u (omega (arith, h, ok.tasks.1)), k.fronts.above u h);
              below = λ u h. omega (arith, row u (omega (arith, h, ok.tasks.1)), k.fronts.below u h);
              passed = λ u h i l v. grown.still i (k.fronts.passed u h i l (omega (arith, v, row u (omega (arith, h, ok.tasks.1)))));
            };
        told =
            told-sit k.told el es x.activity x.machine (p.task_of x.activity) (omega (arith, here, en)) (omega (arith, there, ok.machines.1))
            (omega (arith, low, et));
        holds = λ u h l.
            let q = seat-left p.n x.machine kept p.tasks task ok.tasks.1 k.sized low u h l in
            let held : held_in kept u < p.n = omega (arith, l, ap (λ (y : Seat). y.activity) q) in
            let old = k.holds u h held in
            let stays = seat_stays ok ends k.told x.activity x.machine (p.task_of x.activity) x.finish free (held_in kept u) held
            (λ e. not_the_machine p.n x.machine kept p.tasks task ok.tasks.1 k.sized low u h l (ap (λ (y : Seat). y.machine) old.seat ∙ e))
            (λ e. not_the_task p.n x.machine kept p.tasks task ok.tasks.1 k.sized low u h l (sym old.owned ∙ e ∙ sym et)) old.free in
            let after : Holds p g kept (set ends x.activity x.finish) (set lines x.machine x.activity) (set steps (p.task_of x.activity) x.activity) (set settled x.activity 1) u = record { owned = old.owned; free = still_free grown (p.predecessors (held_in kept u)) old.free; seat = old.seat ∙ sym stays } in
            holds_by q after;
      }

-- ---- `forget`

module _ (n m : ℕ) (kept₀ : List ℕ) {kept : List ℕ} (t : ℕ) (e : kept ≡ forgotten n m t kept₀) where
  read : get_or kept (96 + t) 0 ≡ get_or kept₀ (96 + t) 0
  read = ap (λ (l : List ℕ). get_or l (96 + t) 0) e ∙ forget_other n m kept₀ t (96 + t) (λ u h q. omega arith)

  pub forget_one : get_or kept (96 + t) 0 ≡ m → set kept (64 + t) n ≡ forgotten n m (t + 1) kept₀
  unfolding forgotten
  forget_one q =
      let k : eqb (get_or kept₀ (96 + t) 0) m ≡ true = eq-eqb (get_or kept₀ (96 + t) 0) m (sym read ∙ q) in
      rw (add-one t, k) (ap (λ (l : List ℕ). set l (64 + t) n) e)

  pub forget_none : (get_or kept (96 + t) 0 ≡ m → ⊥) → kept ≡ forgotten n m (t + 1) kept₀
  unfolding forgotten
  forget_none ne =
      let k : eqb (get_or kept₀ (96 + t) 0) m ≡ false = ne_eqb (get_or kept₀ (96 + t) 0) m (λ q. ne (read ∙ q)) in
      rw (add-one t, k) e

-- ---- `begin`

pub record Beginning (p : Problem) (kept : List ℕ) (first t : ℕ) : Type 0 where
  pub within : t ≤ p.tasks
  pub sized : length kept ≡ 224
  pub here : first ≡ p.first t
  pub next : (u : ℕ) → u < t → next_in kept u ≡ p.first u
  pub last : (u : ℕ) → u < t → last_in kept u ≡ p.first u + p.steps u
  pub none : (u : ℕ) → u < t → held_in kept u ≡ p.n

pub begin_none : {p : Problem} {g : Genes} → Accepted p g → {kept : List ℕ} → length kept ≡ 224 → Beginning p kept 0 0
begin_none {p} ok e =
    record {
      within = omega arith;
      sized = e;
      here = sym ok.starting;
      next = λ u h. absurd (omega arith);
      last = λ u h. absurd (omega arith);
      none = λ u h. absurd (omega arith);
    }

module _ {p : Problem} {g : Genes} (ok : Accepted p g) {kept : List ℕ} {first t : ℕ} (w : Beginning p kept first t) where
  pub begin_again : t < p.tasks → (next : ℕ) → next ≡ first + p.steps t → Beginning p (set (set (set kept t first) (32 + t) next) (64 + t) p.n) next (t + 1)
  begin_again h next e =
      let l1 = length-set kept t first in
      let l2 = length-set (set kept t first) (32 + t) next in
      let l3 = length-set (set (set kept t first) (32 + t) next) (64 + t) p.n in
      let low : t < 32 = omega (arith, h, ok.tasks.1) in
      let a : next_in (set (set (set kept t first) (32 + t) next) (64 + t) p.n) t ≡ first = get_or-set_other (set (set kept t first) (32 + t) next) (64 + t) t p.n 0 (λ q. omega arith) ∙ get_or-set_other (set kept t first) (32 + t) t next 0 (λ q. omega arith)
      ∙ get_or-set_same kept t first 0 (omega (arith, low, w.sized)) in
      let b : last_in (set (set (set kept t first) (32 + t) next) (64 + t) p.n) t ≡ next = get_or-set_other (set (set kept t first) (32 + t) next) (64 + t) (32 + t) p.n 0 (λ q. omega arith)
      ∙ get_or-set_same (set kept t first) (32 + t) next 0 (omega (arith, low, w.sized, l1)) in
      let c : held_in (set (set (set kept t first) (32 + t) next) (64 + t) p.n) t ≡ p.n = get_or-set_same (set (set kept t first) (32 + t) next) (64 + t) p.n 0 (omega (arith, low, w.sized, l1, l2)) in
      record {
        within = omega arith;
        sized = omega (arith, l1, l2, l3, w.sized);
        here = omega (arith, e, w.here, ok.next_first t);
        next = λ u l.
            either u t (λ q. rw q (a ∙ w.here)) (λ ne. other u (λ q. omega (arith, q, l, low)) (λ q. omega (arith, q, l, low)) ne ∙ w.next u (omega arith));
        last = λ u l.
            either u t (λ q. rw q (omega (arith, b, e, w.here)))
            (λ ne. other (32 + u) (λ q. omega (arith, q, l, low)) (λ q. ne (omega arith)) (λ q. omega (arith, q, l, low)) ∙ w.last u (omega arith));
        none = λ u l.
            either u t (λ q. rw q c)
            (λ ne. other (64 + u) (λ q. ne (omega arith)) (λ q. omega (arith, q, l, low)) (λ q. omega (arith, q, l, low)) ∙ w.none u (omega arith));
      }
    where
      other : (i : ℕ) → (i ≡ 64 + t → ⊥) → (i ≡ 32 + t → ⊥) → (i ≡ t → ⊥) → get_or (set (set (set kept t first) (32 + t) next) (64 + t) p.n) i 0 ≡ get_or kept i 0
      other i x y z =
          get_or-set_other (set (set kept t first) (32 + t) next) (64 + t) i p.n 0 x ∙ get_or-set_other (set kept t first) (32 + t) i next 0 y ∙ get_or-set_other kept t i first 0 z

  pub begin_end : p.tasks ≤ t → Fresh p kept
  begin_end h =
      record {
        sized = w.sized;
        next = λ u l. w.next u (omega arith);
        last = λ u l. w.last u (omega arith);
        none = λ u l. w.none u (omega arith);
      }
