-- Starts follow the rule, and no end of an accepted problem is later than 513 times the longest duration.
use Rattle.std.specs.Prelude.{Option, Some, ℕ, unwrap_or, None}
use Prim.Native.Nat.{ℕ, zero, suc, ◌+◌, ◌*◌, ◌≤◌, ◌<◌, max}
use mathlib.Core.Path.{◌≡◌, refl, sym, ap, ◌∙◌, subst}
use mathlib.Core.Bool.{false}
use mathlib.Core.List.{List, [], ◌∷◌, ◌++◌}
use native.Mathlib.Omega.{arith}
use native.Mathlib.Nat.{le_of_eq, le_trans}
use native.Mathlib.Numerals.{add-one}
use lib.ListN.{length, get_or, take, replicate, length-replicate}
use lib.Seq.{take_all}
use Rattle.graph.specs.Counting.{count_of}
use Rattle.graph.specs.Arcs.{Circle, Waits}
use Rattle.graph.specs.Order.{InTurn}
use Rattle.graph.specs.Shop.{greatest, Arc}
use Rattle.graph.specs.Links.{linked}
use Rattle.graph.proofs.CountingLaws.{count_of-append}
use Rattle.graph.proofs.CircleLaws.{circle_map}
use Rattle.graph.proofs.Theorem.{order_in_turn, all_named, order_below}
use Rattle.graph.proofs.ShopTheorem.{graph, contradicts, starts_are, greatest-least}
use Rattle.plan.specs.Problem.{Problem, Genes}
use Rattle.plan.specs.Accepted.{Accepted, longest}
use Rattle.tables.specs.Tabled.{task_pred}
use Rattle.bounds.specs.Bounds.{category_before, setup_of, span_of}
use Rattle.lines.specs.Lines.{Lines, WellFormed, line_pred, machine_of}
use Rattle.lines.proofs.LineLaws.{machine_below}
use Rattle.lines.proofs.LineLaws.{pred_below as line_pred_below}
use Rattle.intake.proofs.BareShop.{pred_below, each_at}
use Rattle.graph.proofs.CountingLaws.{below_of, below_at}
use Rattle.timing.specs.Timing.{setup_at, span_at, way_to, waits_for, counts_for, timing_order, start_by, starts_of, start_of, ends_of}
use Rattle.timing.proofs.LinesShop.{shop, counted}
use Rattle.timing.proofs.TurnLaws.{waited_for, next_or_before}

-- The latest that one of the first i can end.
abbrev pub latest_at : ℕ → ℕ
latest_at i = 8589934588 * i + 2147483647

module _ (p : Problem) (g : Genes) (ok : Accepted p g) where
  chosen_most : (o : Option ℕ) (x : ℕ) → ((y : ℕ) → o ≡ Some y → y ≤ longest) → x ≤ longest → unwrap_or o x ≤ longest
  chosen_most None x h k = k
  chosen_most (Some y) x h k = h y refl

  pub setup_most : (a m : ℕ) (before : Option ℕ) → a < p.n → m < p.machines → setup_of p a m before ≤ longest
  setup_most a m before h k =
      chosen_most (p.change m (category_before p before) (p.category (p.task_of a))) (p.setup a m)
      (λ y e. ok.change m (category_before p before) (p.category (p.task_of a)) y e) (ok.setup a m h k)

  pub span_most : (a m : ℕ) (before : Option ℕ) → a < p.n → m < p.machines → span_of p a m (setup_of p a m before) ≤ 3 * longest
  span_most a m before h k = omega (arith, setup_most a m before h k, ok.process a m h k, ok.teardown a m h k)

  module _ (lines : Lines) (w : WellFormed p.n p.machines lines) where
    pub in_turn : InTurn p.n (Waits (graph (shop p g ok lines w))) [] (timing_order p lines)
    in_turn = order_in_turn (graph (shop p g ok lines w)) (counts_for p lines) (counted p g ok lines w)

    pub known_at : (i : ℕ) → i < length (timing_order p lines) → get_or (timing_order p lines) i 0 < p.n
    known_at i h = below_at p.n (timing_order p lines) i (order_below (graph (shop p g ok lines w)) (counts_for p lines) (counted p g ok lines w)) h

    -- What the i-th waits for is among the first i.
    module _ (i : ℕ) (h : i < length (timing_order p lines)) (known : get_or (timing_order p lines) i 0 < p.n) where
      abbrev a : ℕ
      a = get_or (timing_order p lines) i 0

      before_it : (q : ℕ) → 0 < count_of q (waits_for p lines a) → 0 < count_of q (take i (timing_order p lines))
      before_it q k = waited_for p.n (Waits (graph (shop p g ok lines w))) (timing_order p lines) in_turn i h q (known, k)

      parts : (q : ℕ) → count_of q (waits_for p lines a) ≡ count_of q (linked (line_pred lines a)) + (count_of q (linked (task_pred p a)) + count_of q (p.predecessors a))
      parts q =
          omega (arith, count_of-append q (linked (line_pred lines a)) (linked (task_pred p a) ++ p.predecessors a), count_of-append q (linked (task_pred p a)) (p.predecessors a))

      pub line_before : (q : ℕ) → 0 < count_of q (linked (line_pred lines a)) → 0 < count_of q (take i (timing_order p lines))
      line_before q k = before_it q (omega (arith, parts q))

      pub task_before : (q : ℕ) → 0 < count_of q (linked (task_pred p a)) → 0 < count_of q (take i (timing_order p lines))
      task_before q k = before_it q (omega (arith, parts q))

      pub named_before : (q : ℕ) → 0 < count_of q (p.predecessors a) → 0 < count_of q (take i (timing_order p lines))
      named_before q k = before_it q (omega (arith, parts q))

      -- If the first i end by then, it starts no later than the longest way after that.
      pub start_most : (ends : ℕ → ℕ) → ((q : ℕ) → 0 < count_of q (take i (timing_order p lines)) → ends q ≤ latest_at i) → start_by p lines a ends ≤ latest_at i + longest
      start_most ends earlier =
          greatest-least ends (p.predecessors a) _ (latest_at i + longest)
          (greatest-least (λ q. ends q + way_to p lines q a) (linked (task_pred p a)) _ (latest_at i + longest)
          (greatest-least ends (linked (line_pred lines a)) (p.release a) (latest_at i + longest) (omega (arith, ok.release a))
          (λ q c. omega (arith, earlier q (line_before q c))))
          (λ q c. omega (arith, earlier q (task_before q c), ok.transport (machine_of lines q) (machine_of lines a) (machine_below w q (below_of p.n q (linked (task_pred p a)) (pred_below p g ok a known) c)) (machine_below w a known))))
          (λ q c. omega (arith, earlier q (named_before q c)))

    -- Where none is left out.
    module _ (full : length (timing_order p lines) ≡ p.n) where
      acyclic : Circle p.n (Arc (shop p g ok lines w)) → ⊥
      acyclic c = let h = (contradicts (shop p g ok lines w) (counts_for p lines) (counted p g ok lines w)).1 c in omega arith

      -- Each start is what the ends of the others allow.
      pub starts_follow : (a : ℕ) → a < p.n → start_of p lines a ≡ start_by p lines a (λ q. start_of p lines q + span_at p lines q)
      starts_follow a h =
          starts_are (shop p g ok lines w) (counts_for p lines) (counted p g ok lines w) (replicate p.n 0) (le_of_eq (sym (length-replicate p.n 0))) acyclic a h

      pub all_in : (a : ℕ) → a < p.n → 0 < count_of a (timing_order p lines)
      all_in = all_named (graph (shop p g ok lines w)) (counts_for p lines) (counted p g ok lines w) full

      end_at_lem : (i : ℕ) (h : i < length (timing_order p lines)) (known : get_or (timing_order p lines) i 0 < p.n)
          → ((q : ℕ) → 0 < count_of q (take i (timing_order p lines)) → start_of p lines q + span_at p lines q ≤ latest_at i)
          → start_of p lines (get_or (timing_order p lines) i 0) + span_at p lines (get_or (timing_order p lines) i 0) ≤ latest_at (i + 1)
      end_at_lem i h known earlier =
          let a : ℕ = get_or (timing_order p lines) i 0 in
          omega (
            arith,
            starts_follow a known,
            start_most i h known (λ q. start_of p lines q + span_at p lines q) earlier,
            span_most a (machine_of lines a) (line_pred lines a) known (machine_below w a known),
          )

      -- None of the first i ends later than that.
      pub end_within : (i : ℕ) → i ≤ length (timing_order p lines) → (a : ℕ) → 0 < count_of a (take i (timing_order p lines)) → start_of p lines a + span_at p lines a ≤ latest_at i
      unfolding count_of
      end_within zero h a k = absurd (omega arith)
      end_within (suc i) h a k =
          let e : latest_at (suc i) ≡ latest_at (i + 1) = omega arith in
          let o : take (suc i) (timing_order p lines) ≡ take (i + 1) (timing_order p lines) = ap (λ (j : ℕ). take j (timing_order p lines)) (sym (add-one i)) in
          le_trans
          (next_or_before (timing_order p lines) i a (omega arith) (rw (← o) k)
          (λ s. subst (λ (x : ℕ). start_of p lines x + span_at p lines x ≤ latest_at (i + 1)) s (end_at_lem i (omega arith) (known_at i (omega arith)) (end_within i (omega arith))))
          (λ b ne. omega (arith, end_within i (omega arith) a b)))
          (le_of_eq (sym e))

      -- Every end, at or below document 01's largest.
      pub ends_most : (a : ℕ) → a < p.n → get_or (ends_of p lines) a 0 ≤ 1_101_659_110_911
      ends_most a h =
          let z : 0 + a ≡ a = omega arith in
          let is = each_at (λ b. start_of p lines b + span_at p lines b) p.n 0 a h ∙ ap (λ (b : ℕ). start_of p lines b + span_at p lines b) z in
          let within = end_within (length (timing_order p lines)) (omega arith) a (rw (take_all (length (timing_order p lines)) (timing_order p lines) (omega arith)) (all_in a h)) in
          omega (arith, is, within, full, ok.activities.1)
