-- Document 01, "One search step": estimate of a stretch reordered. The head of x is the greatest of its task predecessor's old end, its release,
-- and the previous head plus span, at first the old end before the stretch; tails likewise, from the task successor's and the next line
-- activity's old span plus tail. The estimate is the greatest head + span + tail. Absent terms are 0, and spans are the old ones.
use Rattle.std.specs.Prelude.{ℕ, zero, suc, ◌+◌, ◌-◌, max, min, cond, List, ltb, length, get_or}
use Rattle.graph.specs.Links.{linked}
use Rattle.graph.specs.Shop.{greatest}
use Rattle.plan.specs.Problem.{Problem}
use Rattle.tables.specs.Tabled.{task_pred, task_succ}
use Rattle.lines.specs.Lines.{Lines}
use Rattle.moves.specs.Moves.{line_of, swap_at, shifted}
use Rattle.moves.specs.declared.Move.{Move}
use Rattle.moves.specs.declared.Move.TheVariants.{Swap, Shift, Reassign}
use Rattle.path.specs.Placing.{Placing, end_at, span_in}
use Rattle.path.specs.Tails.{after}

-- ---- one activity of the stretch

-- Its head, where `ready` is the previous head plus span.
abbrev pub head_of : Problem → Placing → (ready x : ℕ) → ℕ
head_of p s ready x = greatest (end_at s) (linked (task_pred p x)) (max (p.release x) ready)

-- Its span plus tail, where `next` is that of the one behind it.
abbrev pub rest_of : Problem → Placing → (tail : List ℕ) → (next x : ℕ) → ℕ
rest_of p s tail next x = span_in s x + greatest (after s tail) (linked (task_succ p x)) next

-- ---- the stretch

-- Of activities in their new order: the first's span plus tail, and the greatest head + span + tail.
pub record Through : Type 0 where
  pub next : ℕ
  pub longest : ℕ

-- One activity more, in front of the others.
abbrev pub joined : Problem → Placing → (tail : List ℕ) → (ready x : ℕ) → Through → Through
joined p s tail ready x others =
    record {
      next = rest_of p s tail others.next x;
      longest = max others.longest (head_of p s ready x + rest_of p s tail others.next x);
    }

-- So many activities of a line from a position on, where `ready` is the head plus span before them and `behind` the span plus tail behind them.
unfoldable pub through : Problem → Placing → (tail line : List ℕ) → (ready behind at count : ℕ) → Through
through p s tail line ready behind at zero = record { next = behind; longest = 0 }
through p s tail line ready behind at (suc count) =
    joined p s tail ready (get_or line at 0)
    (through p s tail line (head_of p s ready (get_or line at 0) + span_in s (get_or line at 0)) behind (suc at) count)

-- The last head plus span of so many activities from a position on.
unfoldable pub ready_after : Problem → Placing → (line : List ℕ) → (ready at count : ℕ) → ℕ
ready_after p s line ready at zero = ready
ready_after p s line ready at (suc count) =
    head_of p s (ready_after p s line ready at count) (get_or line (at + count) 0) + span_in s (get_or line (at + count) 0)

-- ---- what stands around it

-- The old end before a position.
abbrev pub end_before : (ends line : List ℕ) → ℕ → ℕ
end_before ends line zero = 0
end_before ends line (suc i) = get_or ends (get_or line i 0) 0

-- The old span plus tail at a position.
abbrev pub after_at : Placing → (tail line : List ℕ) → ℕ → ℕ
after_at s tail line i = cond (ltb i (length line)) (after s tail (get_or line i 0)) 0

-- ---- the estimate

-- Positions first..last of a line, once it was reordered.
abbrev pub estimate_of : Problem → Placing → (tail line reordered : List ℕ) → (first last : ℕ) → ℕ
estimate_of p s tail line reordered first last =
    (through p s tail reordered (end_before s.ends line first) (after_at s tail line (last + 1)) first (suc last - first)).longest

-- A reassignment reorders no stretch.
abbrev pub estimate : Problem → Lines → Placing → (tail : List ℕ) → Move → ℕ
estimate p lines s tail (Swap m i) = estimate_of p s tail (line_of lines m) (swap_at (line_of lines m) i) i (i + 1)
estimate p lines s tail (Shift m i j) = estimate_of p s tail (line_of lines m) (shifted (line_of lines m) i j) (min i j) (max i j)
estimate p lines s tail (Reassign a r i q j) = 0
