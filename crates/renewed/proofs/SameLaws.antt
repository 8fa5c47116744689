-- Words that agree up to the Order section mean the same problem.
use Prim.Native.Nat.{ℕ, zero, suc, ◌+◌, ◌*◌, ◌-◌, ◌^◌, ◌≤◌, ◌<◌, max}
use mathlib.Core.Path.{◌≡◌, refl, sym, ap, ap₂, ◌∙◌}
use mathlib.Core.Bool.{cond}
use mathlib.Core.List.{List}
use native.Mathlib.Nat.{suc-mul, mul-suc, mul-le-mul_left, mul-le-mul_right}
use native.Mathlib.Omega.{arith}
use lib.Dec.{eqb, ltb}
use lib.ListN.{get_or}
use lib.Ieee.{of_bits, binary64}
use Rattle.words.specs.Signed.{signed_word, clamp}
use Rattle.grammar.specs.Rules.{total_from}
use Rattle.plan.specs.Input.{cell, count, some_if, seconds, firsts, change_from, owner, steps_of, task_of, problem_of}
use Rattle.plan.specs.Laid.{Laid}
use Rattle.plan.specs.declared.Layout.{Layout}
use Rattle.plan.proofs.Accepting.{laid_accepted}
use Rattle.renewed.specs.Meaning.{Same}

-- ---- what is looked up in words that agree

owner-same : (f g : ℕ → ℕ) (left t a : ℕ) → ((i : ℕ) → i < t + left → f i ≡ g i) → owner f left t a ≡ owner g left t a
unfolding owner
owner-same f g zero t a h = refl
owner-same f g (suc left) t a h =
    rw (h t (omega arith)) (ap (cond (ltb a (g t)) t) (owner-same f g left (suc t) (a - g t) (λ i l. h i (omega (arith, l)))))

module _ (k : ℕ) (ws vs : List ℕ) (same : (i : ℕ) → i < k → get_or vs i 0 ≡ get_or ws i 0) where
  seconds-same : (n at a : ℕ) → at + 2 * n ≤ k → seconds vs n at a ≡ seconds ws n at a
  unfolding seconds
  seconds-same zero at a h = refl
  seconds-same (suc n) at a h =
      rw (same at (omega (arith, h)), same (at + 1) (omega (arith, h)), seconds-same n (at + 2) a (omega (arith, h))) refl

  firsts_same : (n at b : ℕ) → at + 2 * n ≤ k → firsts vs n at b ≡ firsts ws n at b
  unfolding firsts
  firsts_same zero at b h = refl
  firsts_same (suc n) at b h =
      rw (same at (omega (arith, h)), same (at + 1) (omega (arith, h)), firsts_same n (at + 2) b (omega (arith, h))) refl

  change_same : (n at m b c : ℕ) → at + 4 * n ≤ k → change_from vs n at m b c ≡ change_from ws n at m b c
  unfolding change_from
  change_same zero at m b c h = refl
  change_same (suc n) at m b c h =
      rw (
        same at (omega (arith, h)),
        same (at + 1) (omega (arith, h)),
        same (at + 2) (omega (arith, h)),
        same (at + 3) (omega (arith, h)),
        change_same n (at + 4) m b c (omega (arith, h)),
      ) refl

  pub total_same : (n at : ℕ) → at + 5 * n ≤ k → total_from vs n at ≡ total_from ws n at
  unfolding total_from
  total_same zero at h = refl
  total_same (suc n) at h = ap₂ (λ (x y : ℕ). x + y) (same (at + 4) (omega (arith, h))) (total_same n (at + 5) (omega (arith, h)))

-- ---- the layout

-- The same but for where the Assignment section stands.
abbrev pub moved : Layout → ℕ → Layout
moved z x =
    record {
      tasks = z.tasks;
      activities = z.activities;
      machines = z.machines;
      at =
          record {
            tasks = z.at.tasks;
            activities = z.at.activities;
            machines = z.at.machines;
            times = z.at.times;
            candidates = z.at.candidates;
            setups = z.at.setups;
            predecessors = z.at.predecessors;
            search = z.at.search;
            order = z.at.order;
            assignment = x;
          };
    }

-- Where each section ends, seen from the Order section.
pub record Ahead (ws : List ℕ) (z : Layout) : Type 0 where
  pub tasks : z.at.tasks + 1 + 5 * z.tasks < z.at.order
  pub activities : z.at.activities + 1 + z.activities < z.at.order
  pub machines : z.at.machines + 1 + z.machines * z.machines < z.at.order
  pub times : z.at.times + 1 + 3 * (z.activities * z.machines) < z.at.order
  pub candidates : z.at.candidates + 1 + 2 * count ws z z.at.candidates < z.at.order
  pub setups : z.at.setups + 1 + 4 * count ws z z.at.setups < z.at.order
  pub predecessors : z.at.predecessors + 1 + 2 * count ws z z.at.predecessors < z.at.order
  pub search : z.at.search + 4 ≤ z.at.order

ahead : (ws : List ℕ) (z : Layout) → Laid ws z → Ahead ws z
ahead ws z l =
    let search : z.at.search + 4 ≤ z.at.order = omega (arith, l.order_at) in
    let predecessors : z.at.predecessors + 1 + 2 * count ws z z.at.predecessors < z.at.order = omega (arith, l.search_at, search) in
    let setups : z.at.setups + 1 + 4 * count ws z z.at.setups < z.at.order = omega (arith, l.predecessors_at, predecessors) in
    let candidates : z.at.candidates + 1 + 2 * count ws z z.at.candidates < z.at.order = omega (arith, l.setups_at, setups) in
    let times : z.at.times + 1 + 3 * (z.activities * z.machines) < z.at.order = omega (arith, l.candidates_at', candidates) in
    let machines : z.at.machines + 1 + z.machines * z.machines < z.at.order = omega (arith, l.times_at, times) in
    let activities : z.at.activities + 1 + z.activities < z.at.order = omega (arith, l.machines_at, machines) in
    record {
      tasks = omega (arith, l.activities_at, activities);
      activities = activities;
      machines = machines;
      times = times;
      candidates = candidates;
      setups = setups;
      predecessors = predecessors;
      search = search;
    }

first_of : (x c : ℕ) {k : ℕ} → x + 1 + c < k → x < k
first_of x c h = omega (arith, h)

module _ (ws vs : List ℕ) (z y : Layout) (same : (i : ℕ) → i < z.at.order → get_or vs i 0 ≡ get_or ws i 0) where
  -- Words at one place, before the Order section.
  at_one : {i j : ℕ} → j ≡ i → i < z.at.order → get_or vs j 0 ≡ get_or ws i 0
  at_one {i} {j} e h = ap (λ (x : ℕ). get_or vs x 0) e ∙ same i h

  -- Section by section: where it stands, then what its count says.
  pub lies_same : Laid ws z → Laid vs y → y ≡ moved z y.at.assignment
  lies_same l m =
      let a = ahead ws z l in
      let tasks_at : y.at.tasks ≡ z.at.tasks = m.tasks_at ∙ sym l.tasks_at in
      let tasks : y.tasks ≡ z.tasks = sym m.tasks ∙ at_one tasks_at (first_of z.at.tasks (5 * z.tasks) a.tasks) ∙ l.tasks in
      let activities_at : y.at.activities ≡ z.at.activities = m.activities_at ∙ (λ i. tasks_at i + 1 + 5 * tasks i) ∙ sym l.activities_at in
      let activities : y.activities ≡ z.activities = sym m.activities ∙ at_one activities_at (first_of z.at.activities z.activities a.activities) ∙ l.activities in
      let machines_at : y.at.machines ≡ z.at.machines = m.machines_at ∙ (λ i. activities_at i + 1 + activities i) ∙ sym l.machines_at in
      let machines : y.machines ≡ z.machines = sym m.machines ∙ at_one machines_at (first_of z.at.machines (z.machines * z.machines) a.machines) ∙ l.machines in
      let times_at : y.at.times ≡ z.at.times = m.times_at ∙ (λ i. machines_at i + 1 + machines i * machines i) ∙ sym l.times_at in
      let candidates_at' : y.at.candidates ≡ z.at.candidates = m.candidates_at' ∙ (λ i. times_at i + 1 + 3 * (activities i * machines i)) ∙ sym l.candidates_at' in
      let candidates : count vs y y.at.candidates ≡ count ws z z.at.candidates = at_one candidates_at' (first_of z.at.candidates (2 * count ws z z.at.candidates) a.candidates) in
      let setups_at : y.at.setups ≡ z.at.setups = m.setups_at ∙ (λ i. candidates_at' i + 1 + 2 * candidates i) ∙ sym l.setups_at in
      let setups : count vs y y.at.setups ≡ count ws z z.at.setups = at_one setups_at (first_of z.at.setups (4 * count ws z z.at.setups) a.setups) in
      let predecessors_at : y.at.predecessors ≡ z.at.predecessors = m.predecessors_at ∙ (λ i. setups_at i + 1 + 4 * setups i) ∙ sym l.predecessors_at in
      let predecessors : count vs y y.at.predecessors ≡ count ws z z.at.predecessors = at_one predecessors_at (first_of z.at.predecessors (2 * count ws z z.at.predecessors) a.predecessors) in
      let search_at : y.at.search ≡ z.at.search = m.search_at ∙ (λ i. predecessors_at i + 1 + 2 * predecessors i) ∙ sym l.search_at in
      let order_at : y.at.order ≡ z.at.order = m.order_at ∙ (λ i. search_at i + 4) ∙ sym l.order_at in
      λ i. record {
        tasks = tasks i;
        activities = activities i;
        machines = machines i;
        at =
            record {
              tasks = tasks_at i;
              activities = activities_at i;
              machines = machines_at i;
              times = times_at i;
              candidates = candidates_at' i;
              setups = setups_at i;
              predecessors = predecessors_at i;
              search = search_at i;
              order = order_at i;
              assignment = y.at.assignment;
            };
      }

  in_tasks : z.at.tasks + 1 + 5 * z.tasks < z.at.order → (t f : ℕ) → t < z.tasks → f < 5 → cell vs z.at.tasks 5 t f ≡ cell ws z.at.tasks 5 t f
  in_tasks b t f h g = same (z.at.tasks + 1 + 5 * t + f) (omega (arith, b, h, g))

  in_times : z.at.times + 1 + 3 * (z.activities * z.machines) < z.at.order → (f a m : ℕ) → f < 3 → a < z.activities → m < z.machines
      → cell vs z.at.times 3 (a * z.machines + m) f ≡ cell ws z.at.times 3 (a * z.machines + m) f
  in_times b f a m g h k =
      same (z.at.times + 1 + 3 * (a * z.machines + m) + f) (omega (arith, b, g, k, suc-mul a z.machines, mul-le-mul_right z.machines h))

  in_machines : z.at.machines + 1 + z.machines * z.machines < z.at.order → (l m : ℕ) → l < z.machines → m < z.machines
      → cell vs z.at.machines z.machines l m ≡ cell ws z.at.machines z.machines l m
  in_machines b l m h k = same (z.at.machines + 1 + z.machines * l + m) (omega (arith, b, k, mul-suc z.machines l, mul-le-mul_left z.machines h))

  in_search : z.at.search + 4 ≤ z.at.order → (f : ℕ) → f < 3 → cell vs z.at.search 3 0 f ≡ cell ws z.at.search 3 0 f
  in_search b f h = same (z.at.search + 1 + 3 * 0 + f) (omega (arith, b, h))

  pub same_problem : Laid ws z → (x : ℕ) → Same (problem_of vs (moved z x)) (problem_of ws z)
  same_problem l x =
      let a = ahead ws z l in
      let steps : (t : ℕ) → t < z.tasks → steps_of vs (moved z x) t ≡ steps_of ws z t = λ t h. in_tasks a.tasks t 4 h (omega arith) in
      let task : (b : ℕ) → task_of vs (moved z x) b ≡ task_of ws z b =
      λ b. owner-same (steps_of vs (moved z x)) (steps_of ws z) z.tasks 0 b (λ t h. steps t (omega (arith, h))) in
      let candidates = same z.at.candidates (first_of z.at.candidates (2 * count ws z z.at.candidates) a.candidates) in
      let setups = same z.at.setups (first_of z.at.setups (4 * count ws z z.at.setups) a.setups) in
      let predecessors = same z.at.predecessors (first_of z.at.predecessors (2 * count ws z z.at.predecessors) a.predecessors) in
      record {
        tasks = refl;
        n = refl;
        machines = refl;
        category = λ t h. in_tasks a.tasks t 0 h (omega arith);
        deadline = λ t h.
            let flag = in_tasks a.tasks t 2 h (omega arith) in
            let due = in_tasks a.tasks t 3 h (omega arith) in
            λ i. some_if (eqb (flag i) 1) (signed_word (due i));
        first = λ t h. total_same z.at.order ws vs same t (z.at.tasks + 1) (omega (arith, h, a.tasks));
        steps = steps;
        task_of = task;
        release = λ b h.
            let own = same (z.at.activities + 1 + 1 * b + 0) (omega (arith, h, a.activities)) in
            let all = ap (λ (t : ℕ). cell vs z.at.tasks 5 t 1) (task b) ∙ in_tasks a.tasks (task_of ws z b) 1 ((laid_accepted ws z l).owner b h) (omega arith) in
            λ i. max (clamp (signed_word (all i))) (clamp (signed_word (own i)));
        candidates = λ b.
            (λ i. seconds vs (candidates i) (z.at.candidates + 1) b)
            ∙ seconds-same z.at.order ws vs same (count ws z z.at.candidates) (z.at.candidates + 1) b (omega (arith, a.candidates));
        predecessors = λ b.
            (λ i. seconds vs (predecessors i) (z.at.predecessors + 1) b)
            ∙ seconds-same z.at.order ws vs same (count ws z z.at.predecessors) (z.at.predecessors + 1) b (omega (arith, a.predecessors));
        waiting = λ b.
            (λ i. firsts vs (predecessors i) (z.at.predecessors + 1) b)
            ∙ firsts_same z.at.order ws vs same (count ws z z.at.predecessors) (z.at.predecessors + 1) b (omega (arith, a.predecessors));
        setup = λ b m. in_times a.times 0 b m (omega arith);
        process = λ b m. in_times a.times 1 b m (omega arith);
        teardown = λ b m. in_times a.times 2 b m (omega arith);
        transport = in_machines a.machines;
        change = λ m b c.
            (λ i. change_from vs (setups i) (z.at.setups + 1) m b c)
            ∙ change_same z.at.order ws vs same (count ws z z.at.setups) (z.at.setups + 1) m b c (omega (arith, a.setups));
        weight =
            let low = in_search a.search 0 (omega arith) in
            let high = in_search a.search 1 (omega arith) in
            λ i. of_bits binary64 (high i * 2 ^ 32 + low i);
        limit = in_search a.search 2 (omega arith);
      }
