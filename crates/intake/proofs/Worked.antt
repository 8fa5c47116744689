-- Plan S taken in by the rules themselves: its words, steps 60, read from their bytes.
use Prim.Native.Nat.{ℕ}
use mathlib.Core.Path.{◌≡◌, refl}
use mathlib.Core.List.{List, [], ◌∷◌}
use Rattle.words.specs.Words.{bytes_of}
use Rattle.words.specs.Words as stored
use Rattle.reader.specs.Reading.{yes}
use Rattle.reader.specs.Reading as reading
use Rattle.reader.specs.Answer.{Reading}
use Rattle.grammar.specs.Rules as rules
use Rattle.graph.specs.Order as order
use Rattle.plan.specs.Input as input
use Rattle.intake.specs.Circle.{each}
use Rattle.intake.specs.Intake.{taken_in}

-- Plan S with other process times, the same on both machines. Section by section: tasks, activities, machines, times, candidates, setups,
-- predecessors, search, order, assignment.
abbrev pub plan_words : (a0 a1 a2 a3 : ℕ) → List ℕ
plan_words a0 a1 a2 a3 =
    2 ∷ 0 ∷ 0 ∷ 0 ∷ 0 ∷ 2 ∷ 0 ∷ 0 ∷ 0 ∷ 0 ∷ 2
    ∷ 4 ∷ 0 ∷ 0 ∷ 0 ∷ 0
    ∷ 2 ∷ 0 ∷ 0 ∷ 0 ∷ 0
    ∷ 8 ∷ 0 ∷ a0 ∷ 0 ∷ 0 ∷ a0 ∷ 0 ∷ 0 ∷ a1 ∷ 0 ∷ 0 ∷ a1 ∷ 0 ∷ 0 ∷ a2 ∷ 0 ∷ 0 ∷ a2 ∷ 0 ∷ 0 ∷ a3 ∷ 0 ∷ 0 ∷ a3 ∷ 0
    ∷ 4 ∷ 0 ∷ 0 ∷ 1 ∷ 1 ∷ 2 ∷ 0 ∷ 3 ∷ 1
    ∷ 0
    ∷ 0
    ∷ 1 ∷ 0 ∷ 1071644672 ∷ 60
    ∷ 4 ∷ 0 ∷ 0 ∷ 1 ∷ 1
    ∷ 4 ∷ 0 ∷ 1 ∷ 0 ∷ 1
    ∷ []

abbrev pub words_of_s : List ℕ
words_of_s = plan_words 3 4 1 5

-- Where each section's count stands.
abbrev pub reading_of_s : Reading
reading_of_s =
    yes (record { tasks = 2; activities = 4; machines = 2; total = 4 }) (0 ∷ 11 ∷ 16 ∷ 21 ∷ 46 ∷ 55 ∷ 56 ∷ 57 ∷ 61 ∷ 66 ∷ [])

pub plan_s_read : reading.read_all (bytes_of words_of_s) ≡ reading_of_s
unfolding stored.words stored.bytes_of reading.read_all reading.read_sections reading.read_section reading.read_entries reading.read_fields reading.read_word rules.total_from rules.pair_before rules.precedes
plan_s_read = refl

pub plan_s-taken_in : taken_in (bytes_of words_of_s) ≡ reading_of_s
unfolding stored.words stored.bytes_of reading.read_all reading.read_sections reading.read_section reading.read_entries reading.read_fields reading.read_word rules.total_from rules.pair_before rules.precedes order.order_of order.order_from order.stack_free order.free_all input.owner input.seconds input.firsts each
plan_s-taken_in = refl
