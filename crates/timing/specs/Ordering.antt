-- What the timing order of lines is worked out from: links to the neighbours on a line, and counts of those waited for.
use Rattle.std.specs.Prelude.{ℕ, zero, suc, ◌+◌, ◌≤◌, ◌<◌, ◌≡◌, List, [], ◌∷◌, ◌++◌, length, get_or}
use Rattle.graph.specs.Links.{linked, link_of, succs_of, Linked}
use Rattle.graph.specs.Order.{order_of, stack_free}
use Rattle.graph.specs.Run.{stack_of}
use Rattle.plan.specs.Problem.{Problem}
use Rattle.lines.specs.Lines.{Lines, line_pred, line_succ}
use Rattle.timing.specs.Timing.{timing_order}

-- The counts of the first k activities: what each waits for without its line, and the one before it there.
unfoldable pub with_line : (waits before : List ℕ) → ℕ → List ℕ
with_line waits before zero = []
with_line waits before (suc k) = with_line waits before k ++ (get_or waits k 0 + length (linked (link_of before k))) ∷ []

-- A link to the one before and to the one after on its line, for each of n activities.
pub record Neighbours (n : ℕ) (lines : Lines) (before after : List ℕ) : Type 0 where
  pub length_before : length before ≡ n
  pub length-after : length after ≡ n
  pub preds : (a : ℕ) → a < n → link_of before a ≡ line_pred lines a
  pub succs : (a : ℕ) → a < n → link_of after a ≡ line_succ lines a

-- Room for the counts, the stack and the order of n activities.
pub record Space (n : ℕ) (counts stack order : List ℕ) : Type 0 where
  pub counted : length counts ≡ n
  pub roomy : n ≤ length stack
  pub narrow : length stack ≤ 128
  pub ordered : length order ≡ n

-- The arcs of the lines and of the plan in arrays, how many lead into each activity, and those that none leads into on the stack.
pub record Stacked (p : Problem) (lines : Lines) (after nexts at waiting counts stack : List ℕ) (top : ℕ) : Type 0 where
  pub linked : Linked p.n after nexts at waiting counts
  pub ordered : order_of (succs_of after nexts at waiting) p.n counts ≡ timing_order p lines
  pub free : stack_of stack top ≡ stack_free counts (length counts) 0 []
  pub over : top ≤ p.n
  pub roomy : p.n ≤ length stack
  pub narrow : length stack ≤ 128
