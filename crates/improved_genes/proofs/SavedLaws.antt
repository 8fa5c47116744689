-- The genes that are saved from sound lines: they are whole, and they give these lines back.
use Rattle.std.specs.Prelude.{None, Option, Some, unwrap_or}
use Prim.Native.Nat.{ℕ, zero, suc, ◌+◌, ◌<◌}
use mathlib.Core.Path.{◌≡◌, refl, sym, ap, ◌∙◌, subst}
use mathlib.Core.Bool.{Bool, true, false, cond}
use mathlib.Core.List.{List, [], ◌++◌}
use native.Mathlib.Omega.{arith}
use borrow.Author.Tests.{lt-ltb, ltb-true, ltb-false, eq-eqb}
use lib.Dec.{ltb}
use lib.ListN.{length, get_or}
use Rattle.graph.specs.Counting.{count_of}
use Rattle.graph.specs.Arcs.{Graph, Waits}
use Rattle.graph.specs.Links.{to_if, linked}
use Rattle.graph.specs.Order.{InTurn}
use Rattle.graph.proofs.CountingLaws.{hit-eq, count_of-append}
use Rattle.graph.proofs.ShopTheorem.{graph}
use Rattle.graph.proofs.Theorem.{at_most_n, order_in_turn, order_once, all_named}
use Rattle.plan.specs.Problem.{Problem, Genes}
use Rattle.plan.specs.Accepted.{Accepted}
use Rattle.tables.specs.Tabled.{task_pred}
use Rattle.intake.specs.Circle.{each}
use Rattle.intake.proofs.BareShop.{length-each}
use Rattle.lines.specs.Lines.{Lines, line_pred, machine_of}
use Rattle.lines.specs.Dealing.{lines_of}
use Rattle.lines.proofs.LineLaws.{machine_below}
use Rattle.genes.specs.Indexed.{indexed, assigned_to, is_assigned, assigned_below, misses, lines_of_genes}
use Rattle.genes.proofs.LinesLaws.{misses_nothing, lines_same}
use Rattle.timing.specs.Timing.{timing_order, counts_for}
use Rattle.timing.proofs.LinesShop.{shop, counted}
use Rattle.search.specs.Saving.{tasks_of}
use Rattle.renewed.specs.Meaning.{genes_written}
use Rattle.improved_genes.specs.Written.{Able, WholeGenes}
use Rattle.improved_genes.proofs.TaskCount.{tasks-length, tasks_known, as_often}
use Rattle.improved_genes.proofs.PathLaws.{each_is, order_known}
use Rattle.improved_genes.proofs.TurnLaws.{indexed-back, none_taken}
use Rattle.improved_genes.proofs.LineTurns.{lines-back}
use Rattle.improved_genes.proofs.SearchLaws.{Sound}

all_have : (g : Genes) (k : ℕ) → ((a : ℕ) → a < k → is_assigned (g.assigned a) ≡ true) → assigned_below g k ≡ true
unfolding assigned_below
all_have g zero h = refl
all_have g (suc k) h = rw (all_have g k (λ a l. h a (omega (arith, l))), h k (omega arith))

some_of : (t : Bool) (x m : ℕ) → ◌≡◌ {A = Option ℕ} (cond t (Some x) None) (Some m) → (t ≡ true) × (x ≡ m)
some_of true x m e = (refl, cc)
some_of false x m e = let z : ◌≡◌ {A = ℕ} 0 1 = cc in absurd (omega arith)

module _ (p : Problem) (g : Genes) (ok : Accepted p g) {lines : Lines} (s : Sound p g lines) where
  abbrev order : List ℕ
  order = timing_order p lines

  abbrev machines : List ℕ
  machines = each (machine_of lines) p.n 0

  abbrev pub written : Genes
  written = genes_written (tasks_of p order) machines

  abbrev net : Graph
  net = graph (shop p g ok lines s.well)

  order_full : length order ≡ p.n
  order_full = omega (arith, at_most_n net (counts_for p lines) (counted p g ok lines s.well), ltb-false (length order) p.n s.possible)

  named : (a : ℕ) → a < p.n → 0 < count_of a order
  named = all_named net (counts_for p lines) (counted p g ok lines s.well) order_full

  each-once : (a : ℕ) → a < p.n → count_of a order ≡ 1
  each-once a h = omega (arith, order_once net (counts_for p lines) (counted p g ok lines s.well) a h, named a h)

  known : (a : ℕ) → a < p.n → get_or machines a 0 < p.machines
  known a h = omega (arith, each_is (machine_of lines) p.n a h, machine_below s.well a h)

  tasks_many : length (tasks_of p order) ≡ p.n
  tasks_many = tasks-length p order ∙ order_full

  machines_many : length machines ≡ p.n
  machines_many = length-each (machine_of lines) p.n 0

  pub saved_whole : WholeGenes p g (tasks_of p order) machines
  saved_whole =
      record {
        all_named = tasks_many;
        named_known = λ i h. tasks_known ok order (order_known p g ok lines s.sixteen s.well) i (omega (arith, h, order_full));
        as_often = as_often ok order (order_known p g ok lines s.sixteen s.well) each-once;
        all_seated = machines_many;
        known = known;
        able = λ a h. subst (Able p g a) (sym (each_is (machine_of lines) p.n a h)) (s.able a h);
      }

  -- ---- they can stand in the plan

  pub saved_accepted : Accepted p written
  saved_accepted =
      record {
        tasks = ok.tasks;
        activities = ok.activities;
        machines = ok.machines;
        category = ok.category;
        steps = ok.steps;
        starting = ok.starting;
        next_first = ok.next_first;
        whole = ok.whole;
        owner = ok.owner;
        owned = ok.owned;
        release = ok.release;
        setup = ok.setup;
        process = ok.process;
        teardown = ok.teardown;
        transport = ok.transport;
        change = ok.change;
        candidates = ok.candidates;
        once = ok.once;
        predecessors = ok.predecessors;
        waiting = ok.waiting;
        dual = ok.dual;
        limit = ok.limit;
        order = omega (arith, tasks_many, ok.activities.1);
        assigned = λ a m e.
            let w = some_of (ltb a (length machines)) (get_or machines a 0) m e in
            omega (arith, w.1, known a (omega (arith, ltb-true a (length machines) w.0, machines_many)));
      }

  -- ---- they give the lines back

  written_has : (a : ℕ) → a < p.n → written.assigned a ≡ Some (machine_of lines a)
  written_has a h =
      ap (λ (t : Bool). cond t (Some (get_or machines a 0)) None) (lt-ltb a (length machines) (omega (arith, h, machines_many))) ∙ ap Some (each_is (machine_of lines) p.n a h)

  parts : (q a : ℕ) → count_of q (linked (line_pred lines a) ++ (linked (task_pred p a) ++ p.predecessors a)) ≡ count_of q (linked (line_pred lines a)) + (count_of q (linked (task_pred p a)) + count_of q (p.predecessors a))
  parts q a = omega (arith, count_of-append q (linked (line_pred lines a)) (linked (task_pred p a) ++ p.predecessors a), count_of-append q (linked (task_pred p a)) (p.predecessors a))

  step_waits : (a : ℕ) → suc a < p.n → p.task_of a ≡ p.task_of (suc a) → Waits net a (suc a)
  unfolding count_of
  step_waits a h e =
      let is : count_of a (linked (task_pred p (suc a))) ≡ 1 = ap (λ (t : Bool). count_of a (linked (to_if t a))) (eq-eqb (p.task_of a) (p.task_of (suc a)) e) ∙ one in
      (h, omega (arith, parts a (suc a), is))
    where
      one : count_of a (linked (to_if true a)) ≡ 1
      one = omega (arith, hit-eq a a refl)

  line_waits : (q a : ℕ) → a < p.n → 0 < count_of q (linked (line_pred lines a)) → Waits net q a
  line_waits q a h k = (h, omega (arith, parts q a, k))

  turns : InTurn p.n (Waits net) [] order
  turns = order_in_turn net (counts_for p lines) (counted p g ok lines s.well)

  order_again : indexed p written ≡ order
  unfolding tasks_of
  order_again = indexed-back ok (Waits net) step_waits [] order (none_taken ok (Waits net) step_waits) turns

  pub lines_again : lines_of_genes p written ≡ lines
  lines_again =
      ap (lines_of (assigned_to written)) order_again
      ∙ lines_same p.n (assigned_to written) (machine_of lines) (λ a h. ap (λ (o : Option ℕ). unwrap_or o 0) (written_has a h)) order (order_known p g ok lines s.sixteen s.well)
      ∙ lines-back s.well s.sixteen (Waits net) line_waits order turns named

  pub saved_complete : misses p written ≡ false
  saved_complete =
      misses_nothing p written (sym (all_have written p.n (λ a h. ap is_assigned (written_has a h)))) refl refl (omega (arith, ap length order_again, order_full))
