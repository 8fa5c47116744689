-- What the tables need to know of the words of an accepted input: the part of `Laid` that they use, by the same names. It stands apart
-- because every proof about the code reads all that it is given.
use Rattle.std.specs.Prelude.{ℕ, ◌+◌, ◌≤◌, ◌<◌, ◌≡◌, List}
use Rattle.grammar.specs.Rules.{total_from}
use Rattle.plan.specs.Input.{cell, count}
use Rattle.plan.specs.declared.Layout.{Layout}

pub record Entries (ws : List ℕ) (z : Layout) : Type 0 where
  -- every task has an activity, and theirs are all there are
  pub steps : (t : ℕ) → t < z.tasks → 1 ≤ cell ws z.at.tasks 5 t 4
  pub total : total_from ws z.tasks (z.at.tasks + 1) ≡ z.activities
  -- how many entries a section has at most
  pub most_candidates : count ws z z.at.candidates ≤ 2048
  pub most_setups : count ws z z.at.setups ≤ 1152
  pub most_predecessors : count ws z z.at.predecessors ≤ 256
  -- what the words of an entry are below
  pub candidate_activity : (e : ℕ) → e < count ws z z.at.candidates → cell ws z.at.candidates 2 e 0 < z.activities
  pub setup_machine : (e : ℕ) → e < count ws z z.at.setups → cell ws z.at.setups 4 e 0 < z.machines
  pub setup_previous : (e : ℕ) → e < count ws z z.at.setups → cell ws z.at.setups 4 e 1 ≤ 8
  pub setup_category : (e : ℕ) → e < count ws z z.at.setups → cell ws z.at.setups 4 e 2 ≤ 7
  pub predecessor_of : (e : ℕ) → e < count ws z z.at.predecessors → cell ws z.at.predecessors 2 e 0 < z.activities
  pub predecessor_named : (e : ℕ) → e < count ws z z.at.predecessors → cell ws z.at.predecessors 2 e 1 < z.activities
