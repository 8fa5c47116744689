-- What the tables need to know follows from how the words of an accepted input lie.
use Prim.Native.Nat.{ℕ}
use mathlib.Core.List.{List}
use Rattle.plan.specs.declared.Layout.{Layout}
use Rattle.plan.specs.Laid.{Laid}
use Rattle.tables.specs.Entries.{Entries}

pub entries_of : {ws : List ℕ} {z : Layout} → Laid ws z → Entries ws z
entries_of l =
    record {
      steps = λ t h. (l.steps t h).0;
      total = l.total;
      most_candidates = l.most_candidates;
      most_setups = l.most_setups;
      most_predecessors = l.most_predecessors;
      candidate_activity = l.candidate_activity;
      setup_machine = l.setup_machine;
      setup_previous = l.setup_previous;
      setup_category = l.setup_category;
      predecessor_of = l.predecessor_of;
      predecessor_named = l.predecessor_named;
    }
