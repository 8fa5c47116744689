-- Document 01, "One search step": each move is timed. A forbidden move counts only when its fitness is below the best ever. The strictly least
-- counts, the first among equals. Moves whose lines contradict do not count.
use Rattle.std.specs.Prelude.{ℕ, ◌<◌, ◌≡◌, Bool, true, false, not, ◌&&◌, ◌||◌, List, [], ◌∷◌, length, get_or, Float}
use Rattle.std.specs.Float.Ieee.{lt}
use Rattle.words.specs.Words.{words}
use Rattle.plan.specs.Problem.{Problem}
use Rattle.plan.specs.Input.{problem_of, genes_of}
use Rattle.plan.specs.Found.{Placed, Weighed, transports_of}
use Rattle.plan.specs.Accepted.{Accepted}
use Rattle.plan.specs.declared.Layout.{Layout}
use Rattle.tables.specs.Tabled.{Tabled}
use Rattle.lines.specs.Lines.{Lines}
use Rattle.moves.specs.declared.Move.{Move}
use Rattle.moves.specs.Moves.{applied, Fits, Within}
use Rattle.ranking.specs.declared.held.Rated.{Rated}
use Rattle.ranking.specs.declared.held.Three.{Three}
use Rattle.ranking.specs.Ranking.{ranked}
use Rattle.fitness.specs.Fitness.{fitness_of}
use Rattle.timing.specs.Timing.{contradicts, ends_of}
use Rattle.timing.specs.Placing.{Timed}
use Rattle.trial.specs.declared.Best.{Best}
use Rattle.trial.specs.declared.Best.TheVariants.{Nothing, Found}

-- ---- which move counts

-- the fitness of lines that are timed
abbrev pub line_fitness : Problem → Lines → Float
line_fitness p lines = fitness_of p (λ a. get_or (ends_of p lines) a 0)

abbrev pub pick_best : Bool → Best → Best → Best
pick_best true a b = a
pick_best false a b = b

-- a move in the place of what is held, only where its fitness is strictly smaller
abbrev pub better : Best → Float → Move → Best
better Nothing f m = Found f m
better (Found g k) f m = pick_best (lt f g) (Found f m) (Found g k)

-- a move of this fitness, after what is held; `best` is the best ever
abbrev pub weighed : (contradicts forbidden : Bool) → (best f : Float) → Move → Best → Best
weighed true forbidden best f m b = b
weighed false forbidden best f m b = pick_best (not forbidden || lt f best) (better b f m) b

abbrev pub tried : Problem → Lines → (forbidden : Bool) → (best : Float) → Move → Best → Best
tried p lines forbidden best m b = weighed (contradicts p (applied m lines)) forbidden best (line_fitness p (applied m lines)) m b

-- several, in turn
unfoldable pub tried_all : Problem → Lines → (forbid : Move → Bool) → (best : Float) → List Move → Best → Best
tried_all p lines forbid best [] b = b
tried_all p lines forbid best (m ∷ moves) b = tried_all p lines forbid best moves (tried p lines (forbid m) best m b)

unfoldable pub moves_of : List Rated → List Move
moves_of [] = []
moves_of (x ∷ l) = x.made ∷ moves_of l

-- ---- the same as a test

abbrev pub beats : Best → Float → Bool
beats Nothing f = true
beats (Found g k) f = lt f g

abbrev pub counts : (forbidden : Bool) → (best f : Float) → Best → Bool
counts forbidden best f b = (not forbidden || lt f best) && beats b f

abbrev pub pick_list : Bool → List ℕ → List ℕ → List ℕ
pick_list true a b = a
pick_list false a b = b

-- ---- what is known

-- a plan that was taken in, with its tables
pub record Ready (s : List ℕ) (z : Layout) (table : List ℕ) (ways : List (List ℕ)) : Type 0 where
  pub placed : Placed z
  pub accepted : Accepted (problem_of (words s) z) (genes_of (words s) z)
  pub weighed : Weighed (words s) z
  pub tabled : Tabled (problem_of (words s) z) table
  pub transports : ways ≡ transports_of (problem_of (words s) z)

-- a move that the lines of R machines allow
pub record Allowed (R : ℕ) (lines : Lines) (m : Move) : Type 0 where
  pub fits : Fits m lines
  pub within : Within R m

pub record AllAllowed (R : ℕ) (lines : Lines) (three : Three) : Type 0 where
  pub each : (k : ℕ) → k < three.count → (other : Rated) → Allowed R lines (get_or (ranked three) k other).made

-- room for the timing of the best move
pub record Kept (n : ℕ) (order starts ends : List ℕ) : Type 0 where
  pub length_order : length order ≡ n
  pub length_starts : length starts ≡ n
  pub length-ends : length ends ≡ n

-- a move with its fitness, and its lines timed
pub record Weighing (p : Problem) (lines : Lines) (f : Float) (m : Move) (order starts ends : List ℕ) : Type 0 where
  pub value : f ≡ line_fitness p (applied m lines)
  pub possible : contradicts p (applied m lines) ≡ false
  pub timed : Timed p (applied m lines) order starts ends
  pub allowed : Allowed p.machines lines m

-- .. of what is held, if anything is
pub record Holding (p : Problem) (lines : Lines) (b : Best) (order starts ends : List ℕ) : Type 0 where
  pub held : (f : Float) (m : Move) → b ≡ Found f m → Weighing p lines f m order starts ends
