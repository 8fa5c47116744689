-- What accepting an input means: its words lie as `Laid` says, its numbers are small enough to reckon with, no input is longer than 65,204
-- bytes, and the problem and the genes that it gives are as `Accepted` promises.
use Rattle.std.specs.Prelude.{Some}
use Prim.Native.Nat.{ℕ, ◌+◌, ◌*◌, ◌-◌, ◌^◌, ◌≤◌, ◌<◌}
use mathlib.Core.Path.{◌≡◌, subst}
use mathlib.Core.Logic.{⊎_elim}
use mathlib.Core.Bool.{◌&&◌}
use mathlib.Core.List.{List}
use native.Mathlib.Omega.{arith}
use native.Mathlib.Nat.{suc-mul, mul-le-mul_right}
use native.Mathlib.Numerals.{add-one}
use borrow.Author.Tests.{eqb-true, ltb-true}
use lib.Dec.{ltb}
use lib.ListN.{length}
use Rattle.words.specs.Words.{words}
use Rattle.words.proofs.WordLaws.{length-words}
use Rattle.words.proofs.SignedLaws.{clamp_below}
use Rattle.grammar.specs.Sections.{sections}
use Rattle.grammar.specs.Rules.{total_from}
use Rattle.grammar.specs.declared.Known.{Known}
use Rattle.grammar.proofs.EntryLaws.{total_none}
use Rattle.reader.specs.Reading.{read_all, nothing_known, nowhere, yes}
use Rattle.reader.specs.Answer.{Reading}
use Rattle.reader.proofs.AcceptedLaws.{both, SectionsRead, accepted_read}
use Rattle.plan.specs.Input.{cell, count, task_of, assigned_of, problem_of, genes_of}
use Rattle.plan.specs.Found.{Placed, layout_of}
use Rattle.plan.specs.Accepted.{Accepted, longest}
use Rattle.plan.specs.Laid.{Laid}
use Rattle.plan.specs.declared.Layout.{Layout}
use Rattle.plan.proofs.NumberLaws.{product_most}
use Rattle.plan.proofs.InputLaws.{some_if_some, total_last, Owns, owner_owns, seconds_below, firsts_below, seconds-once, firsts-seconds, change_below, length-words_from}
use Rattle.plan.proofs.LaidLaws.{laid}

-- ---- what was read lies so: of each section its next one's start, what was found, and the rest

from_sections : (s : List ℕ) (r : Reading) → SectionsRead (words s) (length s) sections 0 nothing_known nowhere 0 r → Laid (words s) (layout_of r)
from_sections s x r =
    let activities = r.2 in
    let machines = activities.2 in
    let times = machines.2 in
    let candidates = times.2 in
    let setups = candidates.2 in
    let predecessors = setups.2 in
    let search = predecessors.2 in
    let order = search.2 in
    let assignment = order.2 in
    let done = assignment.2 in
    subst (λ (y : Reading). Laid (words s) (layout_of y)) done.1
    (laid (words s) r.0 activities.0 machines.0 times.0 candidates.0 setups.0 predecessors.0 search.0 order.0 assignment.0
    r.1 activities.1 machines.1 times.1 candidates.1 setups.1 predecessors.1 search.1 order.1 assignment.1
    (omega (arith, done.0, length-words s)))

no-rest : (s : List ℕ) (r : Reading) → SectionsRead (words s) (length s) sections 0 nothing_known nowhere 0 r → length s ≡ 4 * length (words s)
no-rest s x r =
    let assignment = r.2.2.2.2.2.2.2.2.2 in
    omega (arith, assignment.1.within, assignment.2.0, length-words s)

-- The tasks' counts of activities sum to the number of activities.
known_total : (s : List ℕ) (r : Reading) → SectionsRead (words s) (length s) sections 0 nothing_known nowhere 0 r → r.known.total ≡ r.known.activities
known_total s x r =
    let activities = r.2 in
    let assignment = activities.2.2.2.2.2.2.2.2 in
    subst (λ (y : Reading). y.known.total ≡ y.known.activities) assignment.2.1 (eqb-true _ _ activities.1.rule)

-- ---- what lies so is small enough, and means an accepted problem

module _ (ws : List ℕ) (z : Layout) (l : Laid ws z) where
  -- At most 16 * 16 transports and 128 * 16 times.
  transports : z.machines * z.machines ≤ 256
  transports = product_most 16 16 l.some_machines.1 l.some_machines.1

  times : z.activities * z.machines ≤ 2048
  times = product_most 128 16 l.some_activities.1 l.some_machines.1

  pub laid-length : length ws ≤ 16301
  laid-length = omega (arith, transports, times)

  pub laid-placed : Placed z
  laid-placed =
      record {
        tasks = l.some_tasks.1;
        activities = l.some_activities.1;
        machines = l.some_machines.1;
        tasks_at = omega arith;
        activities_at = omega arith;
        machines_at = omega arith;
        times_at = omega (arith, transports);
        candidates_at' = omega (arith, transports, times);
        setups_at = omega (arith, transports, times);
        predecessors_at = omega (arith, transports, times);
        search_at = omega (arith, transports, times);
        order_at = omega (arith, transports, times);
        assignment_at = omega (arith, transports, times);
      }

  -- An activity on a machine has its entry in Times.
  inside : (a m : ℕ) → a < z.activities → m < z.machines → a * z.machines + m < z.activities * z.machines
  inside a m h g = omega (arith, suc-mul a z.machines, mul-le-mul_right z.machines h)

  owns : (a : ℕ) → a < z.activities → Owns ws (z.at.tasks + 1) z.tasks 0 a (task_of ws z a)
  owns a h =
      let first : z.at.tasks + 1 + 5 * 0 ≡ z.at.tasks + 1 = omega arith in
      owner_owns ws (z.at.tasks + 1) z.tasks 0 a (rw (first, l.total) h)

  -- Before the first task there is no activity.
  nothing : total_from ws 0 (z.at.tasks + 1) ≡ 0
  nothing = total_none ws 0 (z.at.tasks + 1) (omega arith)

  -- A word of Assignment that is not -1 is a machine.
  machine : (a m : ℕ) → assigned_of ws z a ≡ Some m → m < z.machines
  machine a m e =
      let w : ℕ = cell ws z.at.assignment 1 a 0 in
      let u = some_if_some (ltb a (count ws z z.at.assignment) && ltb w (2 ^ 32 - 1)) w m e in
      let b = both (ltb a (count ws z z.at.assignment)) (ltb w (2 ^ 32 - 1)) u.0 in
      let h : w < 2 ^ 32 - 1 = ltb-true _ _ b.1 in
      subst (λ (x : ℕ). x < z.machines) u.1
      (⊎_elim (λ x. x) (λ x. absurd (omega arith)) (l.assigned a (ltb-true _ _ b.0)))

  pub laid_accepted : Accepted (problem_of ws z) (genes_of ws z)
  laid_accepted =
      record {
        tasks = l.some_tasks;
        activities = l.some_activities;
        machines = l.some_machines;
        category = λ t h. omega (arith, l.category t h);
        steps = l.steps;
        starting = nothing;
        next_first = λ t. rw add-one (total_last ws t (z.at.tasks + 1));
        whole = l.total;
        owner = λ a h. omega (arith, (owns a h).task);
        owned = λ a h. (omega (arith, (owns a h).from, nothing), omega (arith, (owns a h).below, nothing));
        release = λ a. omega (arith, clamp_below (cell ws z.at.tasks 5 (task_of ws z a) 1), clamp_below (cell ws z.at.activities 1 a 0));
        setup = λ a m h g. l.time (a * z.machines + m) 0 (inside a m h g) (omega arith);
        process = λ a m h g. l.time (a * z.machines + m) 1 (inside a m h g) (omega arith);
        teardown = λ a m h g. l.time (a * z.machines + m) 2 (inside a m h g) (omega arith);
        transport = l.transport;
        change = λ m before own x e. change_below ws longest (count ws z z.at.setups) (z.at.setups + 1) m before own x l.setup_time e;
        candidates = λ a. seconds_below ws z.machines (count ws z z.at.candidates) (z.at.candidates + 1) a l.candidate_machine;
        once = λ a m. seconds-once ws (count ws z z.at.candidates) (z.at.candidates + 1) a m l.candidates-once;
        predecessors = λ a. seconds_below ws z.activities (count ws z z.at.predecessors) (z.at.predecessors + 1) a l.predecessor_named;
        waiting = λ a. firsts_below ws z.activities (count ws z z.at.predecessors) (z.at.predecessors + 1) a l.predecessor_of;
        dual = λ b a. firsts-seconds ws (count ws z z.at.predecessors) (z.at.predecessors + 1) a b;
        limit = l.limit;
        order = rw length-words_from l.most_order;
        assigned = machine;
      }

-- ---- the theorems: each holds for every list of bytes, also of numbers that are no bytes

module _ (s : List ℕ) (k : Known) (starts : List ℕ) (e : read_all s ≡ yes k starts) where
  pub accepted_total : k.total ≡ k.activities
  accepted_total = known_total s (yes k starts) (accepted_read s k starts e)

  pub accepted_layout : Laid (words s) (layout_of (yes k starts))
  accepted_layout = from_sections s (yes k starts) (accepted_read s k starts e)

  -- No byte stands after the last whole word.
  pub accepted_whole : length s ≡ 4 * length (words s)
  accepted_whole = no-rest s (yes k starts) (accepted_read s k starts e)

  pub accepted_length : length s ≤ 65204
  accepted_length = omega (arith, accepted_whole, laid-length (words s) (layout_of (yes k starts)) accepted_layout)

  pub accepted_placed : Placed (layout_of (yes k starts))
  accepted_placed = laid-placed (words s) (layout_of (yes k starts)) accepted_layout

  pub accepted_means : Accepted (problem_of (words s) (layout_of (yes k starts))) (genes_of (words s) (layout_of (yes k starts)))
  accepted_means = laid_accepted (words s) (layout_of (yes k starts)) accepted_layout
