-- Document 01, "Timing and fitness": start is the greatest of 0, the line predecessor's end, the task predecessor's end plus transport, the
-- release, and every named predecessor's end. Over any shop, whatever lines and inputs it is made of; an opening time (L2) raises `earliest`.
use Rattle.std.specs.Prelude.{◌≡◌, List, [], ◌∷◌, ◌++◌, ◌↔◌, ℕ, ◌+◌, ◌≤◌, ◌<◌, max, length, get_or, Some, Option}
use Rattle.graph.specs.Counting.{count_of, Below}
use Rattle.graph.specs.Arcs.{Circle}
use Rattle.graph.specs.Order.{order_of}
use Rattle.graph.specs.Starts.{Rule, timed}
use Rattle.graph.specs.Links.{linked}

-- the greatest of m and of f at each of ps
unfoldable pub greatest : (ℕ → ℕ) → List ℕ → ℕ → ℕ
greatest f [] m = m
greatest f (p ∷ ps) m = greatest f ps (max m (f p))

-- n activities: who stands before and after each on its line and in its task, whom it names and who names it; how long each takes, before
-- when none may start, and how long the way from one to another is. The duals say that before and after are the same arcs
pub record Shop : Type 0 where
  pub n : ℕ
  pub line_pred : ℕ → Option ℕ
  pub line_succ : ℕ → Option ℕ
  pub task_pred : ℕ → Option ℕ
  pub task_succ : ℕ → Option ℕ
  pub named : ℕ → List ℕ
  pub waiting : ℕ → List ℕ
  pub span : ℕ → ℕ
  pub earliest : ℕ → ℕ
  pub transport : ℕ → ℕ → ℕ
  pub ins_below : (a : ℕ) → a < n → Below n (linked (line_pred a)) × Below n (linked (task_pred a)) × Below n (named a)
  pub outs_below : (a : ℕ) → a < n → Below n (linked (line_succ a)) × Below n (linked (task_succ a)) × Below n (waiting a)
  pub line_dual : (p a : ℕ) → p < n → a < n → count_of a (linked (line_succ p)) ≡ count_of p (linked (line_pred a))
  pub task_dual : (p a : ℕ) → p < n → a < n → count_of a (linked (task_succ p)) ≡ count_of p (linked (task_pred a))
  pub named_dual : (p a : ℕ) → p < n → a < n → count_of a (waiting p) ≡ count_of p (named a)

-- whom an activity frees, in this order, and for whom it waits
abbrev pub outs : Shop → ℕ → List ℕ
outs s a = linked (s.line_succ a) ++ (linked (s.task_succ a) ++ s.waiting a)

abbrev pub ins : Shop → ℕ → List ℕ
ins s a = linked (s.line_pred a) ++ (linked (s.task_pred a) ++ s.named a)

-- the start that the ends of its predecessors allow
abbrev pub shop_rule : Shop → Rule
shop_rule s a f =
    greatest f (s.named a) (greatest (λ p. f p + s.transport p a) (linked (s.task_pred a)) (greatest f (linked (s.line_pred a)) (s.earliest a)))

-- an arc: p is a's line, task or named predecessor
pub data Arc (s : Shop) (p a : ℕ) : Type 0 where
  line : a < s.n → s.line_pred a ≡ Some p → Arc s p a
  task : a < s.n → s.task_pred a ≡ Some p → Arc s p a
  name : a < s.n → 0 < count_of p (s.named a) → Arc s p a

-- starts S that meet every bound
pub record Bounds (s : Shop) (S : ℕ → ℕ) : Type 0 where
  pub released : (a : ℕ) → a < s.n → s.earliest a ≤ S a
  pub lined : (p a : ℕ) → a < s.n → s.line_pred a ≡ Some p → S p + s.span p ≤ S a
  pub tasked : (p a : ℕ) → a < s.n → s.task_pred a ≡ Some p → S p + s.span p + s.transport p a ≤ S a
  pub followed : (p a : ℕ) → a < s.n → 0 < count_of p (s.named a) → S p + s.span p ≤ S a

-- the start that timing gives an activity, whatever the list of starts held before
abbrev pub shop_start : Shop → List ℕ → List ℕ → ℕ → ℕ
shop_start s counts old a = get_or (timed (shop_rule s) s.span (order_of (outs s) s.n counts) old) a 0

-- demand 3 of a shop
pub record ShopExact (s : Shop) (counts old : List ℕ) : Type 0 where
  pub contradicts : (length (order_of (outs s) s.n counts) < s.n) ↔ Circle s.n (Arc s)
  pub meets : (Circle s.n (Arc s) → ⊥) → Bounds s (shop_start s counts old)
  pub least : (Circle s.n (Arc s) → ⊥) → (S : ℕ → ℕ) → Bounds s S → (a : ℕ) → a < s.n → shop_start s counts old a ≤ S a
