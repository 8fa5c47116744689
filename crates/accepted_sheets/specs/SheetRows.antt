-- Document 01, "The sheet check (ours)": rows of activity, machine, start, end. The rows of a board, in placing order, as the check takes them.
use Rattle.std.specs.Prelude.{ℕ, List, [], ◌∷◌, get_or, ℤ, pos}
use Rattle.plan.specs.Problem.{Genes}
use Rattle.genes.specs.Indexed.{assigned_to}
use Rattle.board.specs.Board.{Board, end_of}

abbrev pub start_of : Board → ℕ → ℕ
start_of b a = get_or b.starts a 0

unfoldable pub rows_from : (on : ℕ → ℕ) → Board → (activities : List ℕ) → List ℤ
rows_from on b [] = []
rows_from on b (a ∷ l) = pos a ∷ pos (on a) ∷ pos (start_of b a) ∷ pos (end_of b a) ∷ rows_from on b l

abbrev pub rows_of : Genes → Board → List ℤ
rows_of g b = rows_from (assigned_to g) b b.order
