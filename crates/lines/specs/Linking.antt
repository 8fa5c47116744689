-- Document 01, "Timing and fitness": an activity is bound by the one right before it on its line, and frees the one right after it; its
-- machine is the one whose line holds it. Arrays look these up by the activity's number: what they hold once lines are written into them.
use Rattle.std.specs.Prelude.{◌≡◌, List, [], ◌∷◌, ◌++◌, ℕ, ◌+◌, ◌≤◌, ◌<◌, length, get_or, set, take}
use Rattle.graph.specs.Counting.{Below}
use Rattle.graph.specs.Links.{link_of}
use Rattle.lines.specs.Lines.{Lines, rest, line_pred, line_succ, machine_of, position_of}

-- of each activity: who stands right before it and right after it, its machine, and its place on the line
pub record Links : Type 0 where
  pub before : List ℕ
  pub after : List ℕ
  pub machines : List ℕ
  pub places : List ℕ

abbrev pub links_of : (before after machines places : List ℕ) → Links
links_of before after machines places = record { before = before; after = after; machines = machines; places = places }

-- the list with each of vs written at the place that ks has for it
unfoldable pub written : (ks vs : List ℕ) → List ℕ → List ℕ
written [] vs c = c
written (k ∷ ks) [] c = c
written (k ∷ ks) (v ∷ vs) c = written ks vs (set c k v)

-- .. with m at each of ks
unfoldable pub marked : List ℕ → ℕ → List ℕ → List ℕ
marked [] m c = c
marked (k ∷ ks) m c = marked ks m (set c k m)

-- .. with i, i + 1, .. at each of ks
unfoldable pub numbered : List ℕ → ℕ → List ℕ → List ℕ
numbered [] i c = c
numbered (k ∷ ks) i c = numbered ks (i + 1) (set c k i)

-- machine m's line written
abbrev pub line_linked : ℕ → List ℕ → Links → Links
line_linked m l k = links_of (written (rest l) l k.before) (written l (rest l) k.after) (marked l m k.machines) (numbered l 0 k.places)

-- .. over what was written before: n too, before its first and after its last
abbrev pub line_relinked : (n m : ℕ) → List ℕ → Links → Links
line_relinked n m l k = links_of (written l (n ∷ l) k.before) (written l (rest l ++ (n ∷ [])) k.after) (marked l m k.machines) (numbered l 0 k.places)

-- the lines from machine m on
unfoldable pub lines_linked : ℕ → Lines → Links → Links
lines_linked m [] k = k
lines_linked m (l ∷ lines) k = lines_linked (m + 1) lines (line_linked m l k)

-- a place for each of n activities
pub record Roomy (n : ℕ) (k : Links) : Type 0 where
  pub before : n ≤ length k.before
  pub after : n ≤ length k.after
  pub machines : n ≤ length k.machines
  pub places : n ≤ length k.places

-- every line's activities are below n
unfoldable pub AllBelow : ℕ → Lines → Type 0
AllBelow n [] = Unit {0}
AllBelow n (l ∷ lines) = Below n l × AllBelow n lines

-- the arrays hold the lines
pub record LinesHeld (n : ℕ) (lines : Lines) (k : Links) : Type 0 where
  pub preds : (a : ℕ) → a < n → link_of (take n k.before) a ≡ line_pred lines a
  pub succs : (a : ℕ) → a < n → link_of (take n k.after) a ≡ line_succ lines a
  pub on : (a : ℕ) → a < n → get_or k.machines a 0 ≡ machine_of lines a
  pub at : (a : ℕ) → a < n → get_or k.places a 0 ≡ position_of lines a
