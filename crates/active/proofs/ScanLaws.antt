-- The two loops of a scan, and a task scanned: what is left to scan, upon what was scanned, gives what the whole does.
use Rattle.std.specs.Prelude.{Option}
use Prim.Native.Nat.{ℕ, zero, suc, ◌+◌, ◌-◌, ◌≤◌, ◌<◌}
use mathlib.Core.Path.{◌≡◌, refl, sym, ap, ap₂, ◌∙◌, subst}
use mathlib.Core.Bool.{Bool, true, false}
use mathlib.Core.List.{List, [], ◌∷◌, ◌++◌, append-nil}
use native.Mathlib.Omega.{arith}
use native.Mathlib.Numerals.{add-one}
use borrow.Author.Tests.{eq-eqb, ne_eqb}
use lib.ListN.{length, get_or, set, take, length-set}
use lib.Seq.{get_or-set_same, get_or-set_other, set-get_or, take-suc-set}
use Rattle.graph.specs.Counting.{Below}
use Rattle.graph.proofs.CountingLaws.{either, below_more, below_append}
use Rattle.plan.specs.Problem.{Problem, Genes}
use Rattle.plan.specs.Accepted.{Accepted}
use Rattle.genes.proofs.TaskLaws.{task_within}
use Rattle.board.specs.declared.Seat.{Seat}
use Rattle.active.specs.Active.{Scan, any_unsettled, stops_at, stop_at, pass_over, scan_steps, scan_from, scan_tasks, scan_of, seat_now}
use Rattle.active.specs.Kept.{stops_here, Manned, next_in, last_in, held_in, seat_in, with_seat, keep_seat, held_by, Holds, Kept, ScannedAll}
use Rattle.active.proofs.KeptLaws.{Grown, one_grown, told_grown, stops_is, own_task, seat_other, holds_by, holds_grown, length_with, with_low, with_apart, with_seat'}

-- ---- a task's steps

passed : (p : Problem) (g : Genes) (k a : ℕ) (stop : Bool) (s : Scan) → stop ≡ false → scan_steps p g (suc k) stop a s ≡ scan_from p g k (suc a) (pass_over a s)
unfolding scan_steps
passed p g k a stop s e = rw e

stopped_at : (p : Problem) (g : Genes) (k a : ℕ) (stop : Bool) (s : Scan) → stop ≡ true → scan_steps p g (suc k) stop a s ≡ stop_at p a s
unfolding scan_steps
stopped_at p g k a stop s e = rw e

over : (p : Problem) (g : Genes) (k a : ℕ) (s : Scan) → k ≡ 0 → scan_from p g k a s ≡ s
unfolding scan_steps
over p g k a s e = rw e

abbrev pub scan_with : (settled found : List ℕ) → Scan
scan_with settled found = record { settled = settled; candidates = found }

-- steps that are settled can be left out
skip : (p : Problem) (g : Genes) (k left x : ℕ) (settled found : List ℕ) → ((i : ℕ) → x ≤ i → i < x + k → get_or settled i 0 ≡ 1)
    → scan_from p g (k + left) x (scan_with settled found) ≡ scan_from p g left (x + k) (scan_with settled found)
skip p g zero left x settled found h =
    let e : x ≡ x + 0 = omega arith in
    let f : 0 + left ≡ left = omega arith in
    ap₂ (λ (k y : ℕ). scan_from p g k y (scan_with settled found)) f e
skip p g (suc k) left x settled found h =
    let one : get_or settled x 0 ≡ 1 = h x (omega arith) (omega arith) in
    let same : set settled x 1 ≡ settled = ap (set settled x) (sym one) ∙ set-get_or settled x 0 in
    let e : suc x + k ≡ x + suc k = omega arith in
    let no : stops_at g settled x ≡ false = rw (eq-eqb (get_or settled x 0) 1 one) in
    let f : suc k + left ≡ suc (k + left) = omega arith in
    ap (λ (y : ℕ). scan_from p g y x (scan_with settled found)) f
    ∙ passed p g (k + left) x (stops_at g settled x) (scan_with settled found) no
    ∙ ap (λ (l : List ℕ). scan_from p g (k + left) (suc x) (scan_with l found)) same
    ∙ skip p g k left (suc x) settled found (λ i l u. h i (omega arith) (omega arith))
    ∙ ap (λ (y : ℕ). scan_from p g left y (scan_with settled found)) e

-- ---- the loop over a task's steps

-- Steps from one on are passed, each settled already or for want of a machine: what is left to scan is scanned from there.
pub record Passing (on : List (Option ℕ)) (settled₀ settled : List ℕ) (from last a : ℕ) : Type 0 where
  pub above : from ≤ a
  pub below : a ≤ last
  pub sized : length settled ≡ length settled₀
  pub ones : (i : ℕ) → from ≤ i → i < a → get_or settled i 0 ≡ 1
  pub grown : (i : ℕ) → get_or settled₀ i 0 ≡ 1 → get_or settled i 0 ≡ 1
  pub rest : (p : Problem) (g : Genes) (n : ℕ) → Manned g n on → last ≤ n → (found : List ℕ)
      → scan_from p g (last - a) a (scan_with settled found) ≡ scan_from p g (last - from) from (scan_with settled₀ found)

pub pass_begin : (on : List (Option ℕ)) (settled : List ℕ) (from last : ℕ) → from ≤ last → Passing on settled settled from last from
pass_begin on settled from last h =
    record { above = omega arith; below = h; sized = refl; ones = λ i l u. absurd (omega arith); grown = λ i e. e; rest = λ p g n w l found. refl }

module _ {on : List (Option ℕ)} {settled₀ settled : List ℕ} {from last a : ℕ} (w : Passing on settled₀ settled from last a) where
  pub pass_again : a < last → last ≤ length settled₀ → stops_here on settled a ≡ false → Passing on settled₀ (set settled a 1) from last (a + 1)
  pass_again h room e =
      let same : get_or (set settled a 1) a 0 ≡ 1 = get_or-set_same settled a 1 0 (omega (arith, w.sized)) in
      let up = one_grown settled a (omega (arith, w.sized)) in
      record {
        above = omega (arith, w.above);
        below = omega arith;
        sized = length-set settled a 1 ∙ w.sized;
        ones = λ i l u.
            either i a (λ q. subst (λ (x : ℕ). get_or (set settled a 1) x 0 ≡ 1) (sym q) same) (λ ne. up.still i (w.ones i l (omega arith)));
        grown = λ i q. up.still i (w.grown i q);
        rest = λ p g n m l found.
            let k : last - a ≡ suc (last - (a + 1)) = omega arith in
            let s : a + 1 ≡ suc a = add-one a in
            ap (λ (x : ℕ). scan_from p g (last - (a + 1)) x (scan_with (set settled a 1) found)) s
            ∙ sym (passed p g (last - (a + 1)) a (stops_at g settled a) (scan_with settled found) (sym (stops_is m settled a (omega arith)) ∙ e))
            ∙ ap (λ (x : ℕ). scan_from p g x a (scan_with settled found)) (sym k)
            ∙ w.rest p g n m l found;
      }

-- Nothing else changes while steps are passed.
pub record Stepping (on : List (Option ℕ)) (settled₀ kept₀ offered₀ : List ℕ) (found₀ : ℕ) (settled kept offered : List ℕ) (found from last a : ℕ) : Type 0 where
  pub passing : Passing on settled₀ settled from last a
  pub keeps : kept ≡ kept₀
  pub offers : offered ≡ offered₀
  pub finds : found ≡ found₀

-- ---- a task

abbrev found_if : Bool → ℕ → List ℕ
found_if true a = a ∷ []
found_if false a = []

-- One task is scanned; its seat is kept if it has a candidate, and the others keep theirs.
record ScannedTask (p : Problem) (g : Genes) (t : ℕ) (settled₀ kept₀ settled kept ends lines steps : List ℕ) (r : Bool) : Type 0 where
  flags : length settled ≡ length settled₀
  keeping : Kept p g kept ends lines steps settled
  others : (u : ℕ) → u < 32 → (u ≡ t → ⊥) → held_in kept u ≡ held_in kept₀ u
  known : r ≡ true → held_in kept t < p.n
  scanned : (found : List ℕ)
      → scan_from p g (p.steps t) (p.first t) (scan_with settled₀ found) ≡ scan_with settled (found ++ found_if r (held_in kept t))

module _ {p : Problem} {g : Genes} (ok : Accepted p g) {on : List (Option ℕ)} {ends lines steps : List ℕ} (manned : Manned g p.n on) (t : ℕ) (ht : t < p.tasks)
    {settled₀ kept₀ : List ℕ} (k : Kept p g kept₀ ends lines steps settled₀)
    {settled : List ℕ} {a : ℕ} (w : Passing on settled₀ settled (next_in kept₀ t) (last_in kept₀ t) a) where
  abbrev kept₁ : List ℕ
  kept₁ = set kept₀ t a

  low : t < 32
  low = omega (arith, ok.tasks.1)

  grown : Grown settled₀ settled
  grown = record { still = w.grown }

  -- what is left of the task
  left_over : (found : List ℕ) → scan_from p g (p.steps t) (p.first t) (scan_with settled₀ found) ≡ scan_from p g (last_in kept₀ t - a) a (scan_with settled found)
  left_over found =
      let b = k.fronts.above t ht in
      let c = k.fronts.below t ht in
      let d = k.fronts.last t ht in
      let e : p.steps t ≡ (next_in kept₀ t - p.first t) + (last_in kept₀ t - next_in kept₀ t) = omega (arith, b, c, d) in
      let f : p.first t + (next_in kept₀ t - p.first t) ≡ next_in kept₀ t = omega (arith, b) in
      ap (λ (x : ℕ). scan_from p g x (p.first t) (scan_with settled₀ found)) e
      ∙ skip p g (next_in kept₀ t - p.first t) (last_in kept₀ t - next_in kept₀ t) (p.first t) settled₀ found (λ i l u. k.fronts.passed t ht i l (omega (arith, u, f)))
      ∙ ap (λ (x : ℕ). scan_from p g (last_in kept₀ t - next_in kept₀ t) x (scan_with settled₀ found)) f
      ∙ sym (w.rest p g p.n manned (omega (arith, d, task_within ok t ht)) found)

  kept_next : Kept p g kept₁ ends lines steps settled
  kept_next =
      let same : get_or kept₁ t 0 ≡ a = get_or-set_same kept₀ t a 0 (omega (arith, low, k.sized)) in
      record {
        sized = length-set kept₀ t a ∙ k.sized;
        fronts =
            record {
              last = λ u h. get_or-set_other kept₀ t (32 + u) a 0 (λ e. omega (arith, e, low)) ∙ k.fronts.last u h;
              above = λ u h.
                  either u t (λ e. subst (λ (x : ℕ). p.first x ≤ get_or kept₁ x 0) (sym e) (omega (arith, same, w.above, k.fronts.above t ht)))
                  (λ ne. omega (arith, get_or-set_other kept₀ t u a 0 ne, k.fronts.above u h));
              below = λ u h.
                  either u t (λ e. subst (λ (x : ℕ). get_or kept₁ x 0 ≤ p.first x + p.steps x) (sym e) (omega (arith, same, w.below, k.fronts.last t ht)))
                  (λ ne. omega (arith, get_or-set_other kept₀ t u a 0 ne, k.fronts.below u h));
              passed = λ u h i l v.
                  either u t
                  (λ e. let v' : i < a = omega (arith, v, ap (λ (x : ℕ). get_or kept₁ x 0) e, same) in
                  let l' : p.first t ≤ i = omega (arith, l, ap p.first e) in
                  mine i l' v')
                  (λ ne. w.grown i (k.fronts.passed u h i l (omega (arith, v, get_or-set_other kept₀ t u a 0 ne))));
            };
        told = told_grown grown k.told;
        holds = λ u h l.
            let q : seat_in kept₁ u ≡ seat_in kept₀ u = seat_other kept₀ t a u (λ e. omega (arith, e, low)) (λ e. omega (arith, e, low)) (λ e. omega (arith, e, low)) (λ e. omega (arith, e, low)) (λ e. omega (arith, e, low)) in
            holds_by q (holds_grown grown (k.holds u h (omega (arith, l, ap (λ (x : Seat). x.activity) q))));
      }
    where
      mine : (i : ℕ) → p.first t ≤ i → i < a → get_or settled i 0 ≡ 1
      mine i l v = either (next_in kept₀ t - i) 0 (λ e. w.ones i (omega arith) v) (λ ne. w.grown i (k.fronts.passed t ht i l (omega arith)))

  held_next : (u : ℕ) → held_in kept₁ u ≡ held_in kept₀ u
  held_next u = get_or-set_other kept₀ t (64 + u) a 0 (λ e. omega (arith, e, low))

  -- whose seat is kept waits for none
  held_free : held_in kept₁ t ≡ a → a < p.n → any_unsettled settled (p.predecessors a) ≡ false
  held_free q h = subst (λ (x : ℕ). any_unsettled settled (p.predecessors x) ≡ false) q (kept_next.holds t ht (omega (arith, q, h))).free

  task_over : last_in kept₀ t ≤ a → ScannedTask p g t settled₀ kept₀ settled kept₁ ends lines steps false
  task_over h =
      record {
        flags = w.sized;
        keeping = kept_next;
        others = λ u h ne. held_next u;
        known = λ e. absurd (let z : ◌≡◌ {A = ℕ} 0 1 = cc in omega arith);
        scanned = λ found. left_over found ∙ over p g (last_in kept₀ t - a) a (scan_with settled found) (omega arith) ∙ ap (scan_with settled) (sym (append-nil found));
      }

  module _ (h : a < last_in kept₀ t) (stops : stops_here on settled a ≡ true) where
    here : a < p.n
    here = omega (arith, h, k.fronts.last t ht, task_within ok t ht)

    mine : p.task_of a ≡ t
    mine = own_task ok t a ht (omega (arith, w.above, k.fronts.above t ht)) (omega (arith, h, k.fronts.last t ht))

    stopped : (found : List ℕ) → scan_from p g (p.steps t) (p.first t) (scan_with settled₀ found) ≡ stop_at p a (scan_with settled found)
    stopped found =
        let e : last_in kept₀ t - a ≡ suc (last_in kept₀ t - (a + 1)) = omega arith in
        left_over found
        ∙ ap (λ (x : ℕ). scan_from p g x a (scan_with settled found)) e
        ∙ stopped_at p g (last_in kept₀ t - (a + 1)) a (stops_at g settled a) (scan_with settled found) (sym (stops_is manned settled a here) ∙ stops)

    task_waits : any_unsettled settled (p.predecessors a) ≡ true → ScannedTask p g t settled₀ kept₀ settled kept₁ ends lines steps false
    task_waits e =
        record {
          flags = w.sized;
          keeping = kept_next;
          others = λ u h ne. held_next u;
          known = λ q. absurd (let z : ◌≡◌ {A = ℕ} 0 1 = cc in omega arith);
          scanned = λ found. rw e at (stopped found);
        }

    module _ (e : any_unsettled settled (p.predecessors a) ≡ false) where
      found_here : {x : ℕ} → x ≡ a → (found : List ℕ) → scan_from p g (p.steps t) (p.first t) (scan_with settled₀ found) ≡ scan_with settled (found ++ found_if true x)
      found_here {x} q found = (rw e at (stopped found)) ∙ ap (λ (y : ℕ). scan_with settled (found ++ (y ∷ []))) (sym q)

      -- the seat is there already
      task_held : held_in kept₁ t ≡ a → ScannedTask p g t settled₀ kept₀ settled kept₁ ends lines steps true
      task_held q =
          record {
            flags = w.sized;
            keeping = kept_next;
            others = λ u h ne. held_next u;
            known = λ y. omega (arith, q, here);
            scanned = found_here q;
          }

      -- or it is kept now
      module _ {x : Seat} (ex : x ≡ seat_now p g ends lines steps a) where
        abbrev kept₂ : List ℕ
        kept₂ = with_seat kept₁ t x

        written : seat_in kept₂ t ≡ x
        written = with_seat' kept₁ t x low kept_next.sized

        held_now : held_in kept₂ t ≡ a
        held_now = ap (λ (y : Seat). y.activity) (written ∙ ex)

        kept_now : Kept p g kept₂ ends lines steps settled
        kept_now =
            record {
              sized = length_with kept₁ t x ∙ kept_next.sized;
              fronts =
                  record {
                    last = λ u h. with_low kept₁ t x (32 + u) (omega (arith, h, ok.tasks.1)) ∙ kept_next.fronts.last u h;
                    above = λ u h. omega (arith, with_low kept₁ t x u (omega (arith, h, ok.tasks.1)), kept_next.fronts.above u h);
                    below = λ u h. omega (arith, with_low kept₁ t x u (omega (arith, h, ok.tasks.1)), kept_next.fronts.below u h);
                    passed = λ u h i l v. kept_next.fronts.passed u h i l (omega (arith, v, with_low kept₁ t x u (omega (arith, h, ok.tasks.1))));
                  };
              told = kept_next.told;
              holds = λ u h l.
                  either u t (λ y. subst (λ (v : ℕ). Holds p g kept₂ ends lines steps settled v) (sym y) holds_now)
                  (λ ne. let q = with_apart kept₁ t x low u (omega (arith, h, ok.tasks.1)) ne in holds_by q (kept_next.holds u h (omega (arith, l, ap (λ (y : Seat). y.activity) q))));
            }
          where
            holds_now : Holds p g kept₂ ends lines steps settled t
            holds_now =
                record {
                  owned = ap p.task_of held_now ∙ mine;
                  free = ap (λ (y : ℕ). any_unsettled settled (p.predecessors y)) held_now ∙ e;
                  seat = written ∙ ex ∙ ap (seat_now p g ends lines steps) (sym held_now);
                }

        task_kept : ScannedTask p g t settled₀ kept₀ settled kept₂ ends lines steps true
        task_kept =
            record {
              flags = w.sized;
              keeping = kept_now;
              others = λ u h ne. ap (λ (y : Seat). y.activity) (with_apart kept₁ t x low u h ne) ∙ held_next u;
              known = λ y. omega (arith, held_now, here);
              scanned = found_here held_now;
            }

      task_found : ScannedTask p g t settled₀ kept₀ settled (keep_seat p g ends lines steps kept₁ t a) ends lines steps true
      task_found =
          either (held_in kept₁ t) a (λ q. rw (eq-eqb (held_in kept₁ t) a q) (task_held q))
          (λ ne. rw (ne_eqb (held_in kept₁ t) a ne) (task_kept refl))

-- ---- the loop over the tasks

held_same : (kept kept' l : List ℕ) (t : ℕ) → Below t l → ((u : ℕ) → u < t → held_in kept' u ≡ held_in kept u) → held_by kept' l ≡ held_by kept l
unfolding held_by Below
held_same kept kept' [] t b h = refl
held_same kept kept' (u ∷ l) t b h = ap₂ (λ (x : ℕ) (y : List ℕ). x ∷ y) (h u b.0) (held_same kept kept' l t b.1 h)

held_append : (kept l m : List ℕ) → held_by kept (l ++ m) ≡ held_by kept l ++ held_by kept m
unfolding held_by
held_append kept [] m = refl
held_append kept (u ∷ l) m = ap (λ (y : List ℕ). held_in kept u ∷ y) (held_append kept l m)

all_known_lem : (n : ℕ) (kept l : List ℕ) → Below n (held_by kept l) → (k : ℕ) → k < length l → held_in kept (get_or l k 0) < n
unfolding held_by Below
all_known_lem n kept [] b k h = absurd (omega arith)
all_known_lem n kept (u ∷ l) b zero h = b.0
all_known_lem n kept (u ∷ l) b (suc k) h = all_known_lem n kept l b.1 k (omega arith)

one_more : (n a : ℕ) (l : List ℕ) → Below n l → a < n → Below n (l ++ (a ∷ []))
unfolding Below
one_more n a l b h = below_append n l (a ∷ []) b (h, tt)

pub record Scanning (p : Problem) (g : Genes) (settled₀ offered₀ settled kept ends lines steps offered : List ℕ) (found t : ℕ) : Type 0 where
  pub within : t ≤ p.tasks
  pub fewer : found ≤ t
  pub flags : length settled ≡ length settled₀
  pub cells : length offered ≡ length offered₀
  pub keeping : Kept p g kept ends lines steps settled
  pub tasks : Below t (take found offered)
  pub known : Below p.n (held_by kept (take found offered))
  pub rest : scan_tasks p g (p.tasks - t) t (scan_with settled (held_by kept (take found offered))) ≡ scan_of p g settled₀

pub scan_begin : {p : Problem} {g : Genes} {settled kept ends lines steps : List ℕ} → Kept p g kept ends lines steps settled → (offered : List ℕ)
    → Scanning p g settled offered settled kept ends lines steps offered 0 0
unfolding held_by Below
scan_begin {p} {g} {settled} k offered =
    let e : p.tasks - 0 ≡ p.tasks = omega arith in
    record { within = omega arith; fewer = omega arith; flags = refl; cells = refl; keeping = k; tasks = tt; known = tt; rest = ap (λ (x : ℕ). scan_tasks p g x 0 (scan_with settled [])) e }

module _ {p : Problem} {g : Genes} (ok : Accepted p g) {settled₀ offered₀ settled kept ends lines steps offered : List ℕ} {found t : ℕ}
    (w : Scanning p g settled₀ offered₀ settled kept ends lines steps offered found t) where
  module _ (h : t < p.tasks) {settled' kept' : List ℕ} {r : Bool} (s : ScannedTask p g t settled kept settled' kept' ends lines steps r) where
    same : held_by kept' (take found offered) ≡ held_by kept (take found offered)
    same = held_same kept kept' (take found offered) t w.tasks (λ u l. s.others u (omega (arith, l, h, ok.tasks.1)) (λ e. omega (arith, l, e)))

    next : (l : List ℕ) → l ≡ held_by kept (take found offered) ++ found_if r (held_in kept' t)
        → scan_tasks p g (p.tasks - (t + 1)) (t + 1) (scan_with settled' l) ≡ scan_of p g settled₀
    unfolding scan_tasks
    next l e =
        let q : p.tasks - t ≡ suc (p.tasks - (t + 1)) = omega arith in
        let o : scan_tasks p g (p.tasks - (t + 1)) (suc t) (scan_from p g (p.steps t) (p.first t) (scan_with settled (held_by kept (take found offered)))) ≡ scan_of p g settled₀ = rw q at w.rest in
        ap₂ (λ (x : ℕ) (y : Scan). scan_tasks p g (p.tasks - (t + 1)) x y) (add-one t) (ap (scan_with settled') e ∙ sym (s.scanned (held_by kept (take found offered)))) ∙ o

    scan_skip : r ≡ false → Scanning p g settled₀ offered₀ settled' kept' ends lines steps offered found (t + 1)
    scan_skip e =
        record {
          within = omega arith;
          fewer = omega (arith, w.fewer);
          flags = s.flags ∙ w.flags;
          cells = w.cells;
          keeping = s.keeping;
          tasks = below_more t (t + 1) (take found offered) (omega arith) w.tasks;
          known = subst (λ (l : List ℕ). Below p.n l) (sym same) w.known;
          rest =
              next (held_by kept' (take found offered))
              (same ∙ sym (append-nil (held_by kept (take found offered))) ∙ ap (λ (b : Bool). held_by kept (take found offered) ++ found_if b (held_in kept' t)) (sym e));
        }

    module _ (e : r ≡ true) (l : found < length offered) where
      list : take (found + 1) (set offered found t) ≡ take found offered ++ (t ∷ [])
      list = ap (λ (k : ℕ). take k (set offered found t)) (add-one found) ∙ take-suc-set offered found t l

      held : held_by kept' (take (found + 1) (set offered found t)) ≡ held_by kept (take found offered) ++ (held_in kept' t ∷ [])
      unfolding held_by
      held = ap (held_by kept') list ∙ held_append kept' (take found offered) (t ∷ []) ∙ ap (λ (y : List ℕ). y ++ (held_in kept' t ∷ [])) same

      scan_take : Scanning p g settled₀ offered₀ settled' kept' ends lines steps (set offered found t) (found + 1) (t + 1)
      scan_take =
          record {
            within = omega arith;
            fewer = omega (arith, w.fewer);
            flags = s.flags ∙ w.flags;
            cells = length-set offered found t ∙ w.cells;
            keeping = s.keeping;
            tasks =
                subst (λ (y : List ℕ). Below (t + 1) y) (sym list)
                (one_more (t + 1) t (take found offered) (below_more t (t + 1) (take found offered) (omega arith) w.tasks) (omega arith));
            known = subst (λ (y : List ℕ). Below p.n y) (sym held) (one_more p.n (held_in kept' t) (held_by kept (take found offered)) w.known (s.known e));
            rest =
                next (held_by kept' (take (found + 1) (set offered found t)))
                (held ∙ ap (λ (b : Bool). held_by kept (take found offered) ++ found_if b (held_in kept' t)) (sym e));
          }

  pub scan_end : p.tasks ≤ t → ScannedAll p g settled₀ settled kept ends lines steps (take found offered)
  unfolding scan_tasks
  scan_end h =
      let q : p.tasks - t ≡ 0 = omega arith in
      record {
        keeping = w.keeping;
        scanned = rw q at w.rest;
        tasks = below_more t p.tasks (take found offered) w.within w.tasks;
        known = all_known_lem p.n kept (take found offered) w.known;
      }

-- A task is left: at its end, at a step that waits, or at a candidate.
module _ {p : Problem} {g : Genes} (ok : Accepted p g) {settled₀ offered₀ settled₁ kept₁ ends lines steps offered₁ : List ℕ} {found₁ t : ℕ}
    (o : Scanning p g settled₀ offered₀ settled₁ kept₁ ends lines steps offered₁ found₁ t) (ht : t < p.tasks) {on : List (Option ℕ)} (manned : Manned g p.n on)
    {settled kept offered : List ℕ} {found a : ℕ} (w : Stepping on settled₁ kept₁ offered₁ found₁ settled kept offered found (next_in kept₁ t) (last_in kept₁ t) a) where
  skipped : ScannedTask p g t settled₁ kept₁ settled (set kept₁ t a) ends lines steps false → Scanning p g settled₀ offered₀ settled (set kept t a) ends lines steps offered found (t + 1)
  skipped s = rw (w.keeps, w.offers, w.finds) (scan_skip ok o ht s refl)

  pub left-at_end : last_in kept₁ t ≤ a → Scanning p g settled₀ offered₀ settled (set kept t (last_in kept₁ t)) ends lines steps offered found (t + 1)
  left-at_end l =
      let e : a ≡ last_in kept₁ t = omega (arith, l, w.passing.below) in
      subst (λ (x : ℕ). Scanning p g settled₀ offered₀ settled (set kept t x) ends lines steps offered found (t + 1)) e
      (skipped (task_over ok manned t ht o.keeping w.passing l))

  pub free_if_held : a < p.n → held_in (set kept t a) t ≡ a → any_unsettled settled (p.predecessors a) ≡ false
  free_if_held h q = held_free ok manned t ht o.keeping w.passing (ap (λ (k : List ℕ). held_in (set k t a) t) (sym w.keeps) ∙ q) h

  module _ (l : a < last_in kept₁ t) (stops : stops_here on settled a ≡ true) where
    pub left-waiting : any_unsettled settled (p.predecessors a) ≡ true → Scanning p g settled₀ offered₀ settled (set kept t a) ends lines steps offered found (t + 1)
    left-waiting e = skipped (task_waits ok manned t ht o.keeping w.passing l stops e)

    pub left_found : any_unsettled settled (p.predecessors a) ≡ false → found < length offered → {kept' : List ℕ} → kept' ≡ keep_seat p g ends lines steps (set kept t a) t a
        → Scanning p g settled₀ offered₀ settled kept' ends lines steps (set offered found t) (found + 1) (t + 1)
    left_found e room q =
        rw (q, w.keeps, w.offers, w.finds)
        (scan_take ok o ht (task_found ok manned t ht o.keeping w.passing l stops e) refl (omega (arith, room, w.finds, ap length w.offers)))
