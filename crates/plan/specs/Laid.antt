-- Document 01, "The input, word by word": how the words of an accepted input lie. Ten sections follow one another from the first word to the
-- last, each its count and then its entries; every word is in its range, every count and every entry keeps its rule.
use Rattle.std.specs.Prelude.{ℕ, ◌+◌, ◌*◌, ◌-◌, ◌^◌, ◌≤◌, ◌<◌, ◌≡◌, ◌⊎◌, true, List, length}
use Rattle.grammar.specs.Ranges.{in_range}
use Rattle.grammar.specs.Rules.{precedes, total_from}
use Rattle.grammar.specs.declared.Known.{Known}
use Rattle.grammar.specs.declared.Kind.TheVariants.{WeightHigh}
use Rattle.plan.specs.Input.{cell, count}
use Rattle.plan.specs.Accepted.{longest}
use Rattle.plan.specs.declared.Layout.{Layout}

pub record Laid (ws : List ℕ) (z : Layout) : Type 0 where
  -- where each section's count stands, and where the words end
  pub tasks_at : z.at.tasks ≡ 0
  pub activities_at : z.at.activities ≡ z.at.tasks + 1 + 5 * z.tasks
  pub machines_at : z.at.machines ≡ z.at.activities + 1 + z.activities
  pub times_at : z.at.times ≡ z.at.machines + 1 + z.machines * z.machines
  pub candidates_at' : z.at.candidates ≡ z.at.times + 1 + 3 * (z.activities * z.machines)
  pub setups_at : z.at.setups ≡ z.at.candidates + 1 + 2 * count ws z z.at.candidates
  pub predecessors_at : z.at.predecessors ≡ z.at.setups + 1 + 4 * count ws z z.at.setups
  pub search_at : z.at.search ≡ z.at.predecessors + 1 + 2 * count ws z z.at.predecessors
  pub order_at : z.at.order ≡ z.at.search + 4
  pub assignment_at : z.at.assignment ≡ z.at.order + 1 + count ws z z.at.order
  pub ends : length ws ≡ z.at.assignment + 1 + count ws z z.at.assignment
  -- the counts
  pub tasks : count ws z z.at.tasks ≡ z.tasks
  pub activities : count ws z z.at.activities ≡ z.activities
  pub machines : count ws z z.at.machines ≡ z.machines
  pub times : count ws z z.at.times ≡ z.activities * z.machines
  pub search : count ws z z.at.search ≡ 1
  pub some_tasks : (1 ≤ z.tasks) × (z.tasks ≤ 32)
  pub some_activities : (1 ≤ z.activities) × (z.activities ≤ 128)
  pub some_machines : (1 ≤ z.machines) × (z.machines ≤ 16)
  pub most_candidates : count ws z z.at.candidates ≤ 2048
  pub most_setups : count ws z z.at.setups ≤ 1152
  pub most_predecessors : count ws z z.at.predecessors ≤ 256
  pub most_order : count ws z z.at.order ≤ 256
  pub most_assignment : count ws z z.at.assignment ≤ z.activities
  -- Tasks: category, release, deadline flag, deadline, activities, which sum to the activities there are
  pub category : (t : ℕ) → t < z.tasks → cell ws z.at.tasks 5 t 0 ≤ 7
  pub flag : (t : ℕ) → t < z.tasks → cell ws z.at.tasks 5 t 2 ≤ 1
  pub deadline : (t : ℕ) → t < z.tasks → (cell ws z.at.tasks 5 t 2 ≡ 1) ⊎ (cell ws z.at.tasks 5 t 3 ≡ 0)
  pub steps : (t : ℕ) → t < z.tasks → (1 ≤ cell ws z.at.tasks 5 t 4) × (cell ws z.at.tasks 5 t 4 ≤ 128)
  pub total : total_from ws z.tasks (z.at.tasks + 1) ≡ z.activities
  -- Machines: transport times; Times: setup, process, teardown
  pub transport : (l m : ℕ) → l < z.machines → m < z.machines → cell ws z.at.machines z.machines l m ≤ longest
  pub time : (e f : ℕ) → e < z.activities * z.machines → f < 3 → cell ws z.at.times 3 e f ≤ longest
  -- Candidates: activity, machine; activities rise, no pair stands twice
  pub candidate_activity : (e : ℕ) → e < count ws z z.at.candidates → cell ws z.at.candidates 2 e 0 < z.activities
  pub candidate_machine : (e : ℕ) → e < count ws z z.at.candidates → cell ws z.at.candidates 2 e 1 < z.machines
  pub candidates_rise : (e : ℕ) → e + 1 < count ws z z.at.candidates
      → cell ws z.at.candidates 2 e 0 ≤ cell ws z.at.candidates 2 (e + 1) 0
  pub candidates-once : (d e : ℕ) → d < e → e < count ws z z.at.candidates
      → cell ws z.at.candidates 2 d 0 ≡ cell ws z.at.candidates 2 e 0
      → cell ws z.at.candidates 2 d 1 ≡ cell ws z.at.candidates 2 e 1 → ⊥
  -- Setups: machine, previous category, category, setup; the triples rise strictly
  pub setup_machine : (e : ℕ) → e < count ws z z.at.setups → cell ws z.at.setups 4 e 0 < z.machines
  pub setup_previous : (e : ℕ) → e < count ws z z.at.setups → cell ws z.at.setups 4 e 1 ≤ 8
  pub setup_category : (e : ℕ) → e < count ws z z.at.setups → cell ws z.at.setups 4 e 2 ≤ 7
  pub setup_time : (e : ℕ) → e < count ws z z.at.setups → cell ws z.at.setups 4 e 3 ≤ longest
  pub setups_rise : (e : ℕ) → e + 1 < count ws z z.at.setups
      → precedes ws 3 (z.at.setups + 1 + 4 * e) (z.at.setups + 1 + 4 * (e + 1)) ≡ true
  -- Predecessors: activity, predecessor; activities rise
  pub predecessor_of : (e : ℕ) → e < count ws z z.at.predecessors → cell ws z.at.predecessors 2 e 0 < z.activities
  pub predecessor_named : (e : ℕ) → e < count ws z z.at.predecessors → cell ws z.at.predecessors 2 e 1 < z.activities
  pub predecessors_rise : (e : ℕ) → e + 1 < count ws z z.at.predecessors
      → cell ws z.at.predecessors 2 e 0 ≤ cell ws z.at.predecessors 2 (e + 1) 0
  -- Search: the weight's two words, steps; Assignment: machine or none
  pub weight : (k : Known) → in_range WeightHigh k (cell ws z.at.search 3 0 0) (cell ws z.at.search 3 0 1) ≡ true
  pub limit : cell ws z.at.search 3 0 2 ≤ 1000
  pub assigned : (a : ℕ) → a < count ws z z.at.assignment
      → (cell ws z.at.assignment 1 a 0 < z.machines) ⊎ (cell ws z.at.assignment 1 a 0 ≡ 2 ^ 32 - 1)
