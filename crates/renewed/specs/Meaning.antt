-- What a plan with another Order and Assignment is to mean: the same problem, and the genes that were put. Two problems are the same where all
-- that they say of their tasks, activities and machines is the same; what stands for numbers past these means nothing.
use Rattle.std.specs.Prelude.{ℕ, ◌*◌, ◌≤◌, ◌<◌, ◌≡◌, cond, List, ltb, length, get_or, take, Some, None}
use Rattle.reader.specs.Answer.{Accepted}
use Rattle.plan.specs.Problem.{Problem, Genes}
use Rattle.plan.specs.Found.{layout_of}
use Rattle.intake.specs.Intake.{problem_in, genes_in, taken_in}
use Rattle.renewed.specs.Renewed.{renewed_bytes}

-- The bytes before the Order section, and the plan with another order and other machines after them.
abbrev pub before_order : (bytes : List ℕ) → List ℕ
before_order s = take (4 * (layout_of (taken_in s)).at.order) s

abbrev pub renewed_plan : (bytes tasks machines : List ℕ) → List ℕ
renewed_plan s tasks machines = renewed_bytes (before_order s) tasks machines

pub record Same (p q : Problem) : Type 0 where
  pub tasks : p.tasks ≡ q.tasks
  pub n : p.n ≡ q.n
  pub machines : p.machines ≡ q.machines
  pub category : (t : ℕ) → t < q.tasks → p.category t ≡ q.category t
  pub deadline : (t : ℕ) → t < q.tasks → p.deadline t ≡ q.deadline t
  pub first : (t : ℕ) → t ≤ q.tasks → p.first t ≡ q.first t
  pub steps : (t : ℕ) → t < q.tasks → p.steps t ≡ q.steps t
  pub task_of : (a : ℕ) → p.task_of a ≡ q.task_of a
  pub release : (a : ℕ) → a < q.n → p.release a ≡ q.release a
  pub candidates : (a : ℕ) → p.candidates a ≡ q.candidates a
  pub predecessors : (a : ℕ) → p.predecessors a ≡ q.predecessors a
  pub waiting : (a : ℕ) → p.waiting a ≡ q.waiting a
  pub setup : (a m : ℕ) → a < q.n → m < q.machines → p.setup a m ≡ q.setup a m
  pub process : (a m : ℕ) → a < q.n → m < q.machines → p.process a m ≡ q.process a m
  pub teardown : (a m : ℕ) → a < q.n → m < q.machines → p.teardown a m ≡ q.teardown a m
  pub transport : (l m : ℕ) → l < q.machines → m < q.machines → p.transport l m ≡ q.transport l m
  pub change : (m previous own : ℕ) → p.change m previous own ≡ q.change m previous own
  pub weight : p.weight ≡ q.weight
  pub limit : p.limit ≡ q.limit

-- The genes that the two lists hold.
abbrev pub genes_written : (tasks machines : List ℕ) → Genes
genes_written tasks machines =
    record { order = tasks; assigned = λ a. cond (ltb a (length machines)) (Some (get_or machines a 0)) None }

pub record Renewed (s tasks machines : List ℕ) : Type 0 where
  pub taken : (taken_in (renewed_plan s tasks machines)).answer ≡ Accepted
  pub same : Same (problem_in (renewed_plan s tasks machines) (taken_in (renewed_plan s tasks machines))) (problem_in s (taken_in s))
  pub genes : genes_in (renewed_plan s tasks machines) (taken_in (renewed_plan s tasks machines)) ≡ genes_written tasks machines
