-- Document 01, "Plans to hold on the card board", Plan S: tasks (a0 m0 3, a1 m1 4), (a2 m0 1, a3 m1 5) in process time, the same time on the
-- other machine, all else 0; one candidate each, assigned; weight 0.5; Order 0 0 1 1.
use Rattle.std.specs.Prelude.{ℕ, List, [], ◌∷◌}
use Rattle.words.specs.Words.{bytes_of}
use Rattle.plan.specs.Problem.{Problem, Genes}
use Rattle.intake.specs.Intake.{taken_in, problem_in, genes_in}

-- The stored words, by the process times and the steps. Section by section: tasks, activities, machines, times, candidates, setups,
-- predecessors, search, order, assignment.
abbrev pub plan_words : (a0 a1 a2 a3 steps : ℕ) → List ℕ
plan_words a0 a1 a2 a3 steps =
    2 ∷ 0 ∷ 0 ∷ 0 ∷ 0 ∷ 2 ∷ 0 ∷ 0 ∷ 0 ∷ 0 ∷ 2
    ∷ 4 ∷ 0 ∷ 0 ∷ 0 ∷ 0
    ∷ 2 ∷ 0 ∷ 0 ∷ 0 ∷ 0
    ∷ 8 ∷ 0 ∷ a0 ∷ 0 ∷ 0 ∷ a0 ∷ 0 ∷ 0 ∷ a1 ∷ 0 ∷ 0 ∷ a1 ∷ 0 ∷ 0 ∷ a2 ∷ 0 ∷ 0 ∷ a2 ∷ 0 ∷ 0 ∷ a3 ∷ 0 ∷ 0 ∷ a3 ∷ 0
    ∷ 4 ∷ 0 ∷ 0 ∷ 1 ∷ 1 ∷ 2 ∷ 0 ∷ 3 ∷ 1
    ∷ 0
    ∷ 0
    ∷ 1 ∷ 0 ∷ 1071644672 ∷ steps
    ∷ 4 ∷ 0 ∷ 0 ∷ 1 ∷ 1
    ∷ 4 ∷ 0 ∷ 1 ∷ 0 ∷ 1
    ∷ []

-- Plan S with so many steps, as it is stored, and the problem and the genes that are read from it.
abbrev pub bytes_of_s : (steps : ℕ) → List ℕ
bytes_of_s steps = bytes_of (plan_words 3 4 1 5 steps)

abbrev pub plan_s : (steps : ℕ) → Problem
plan_s steps = problem_in (bytes_of_s steps) (taken_in (bytes_of_s steps))

abbrev pub genes_of_s : (steps : ℕ) → Genes
genes_of_s steps = genes_in (bytes_of_s steps) (taken_in (bytes_of_s steps))

-- P7's plan: all times 0.
abbrev pub bytes_of_zeros : List ℕ
bytes_of_zeros = bytes_of (plan_words 0 0 0 0 60)
