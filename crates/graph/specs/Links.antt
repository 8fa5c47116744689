-- Document 01: an activity frees its line successor, its task successor, then those naming it, by rising number, once per naming. How
-- arrays hold that: a link for each activity and line or task, and for each activity a part of one list, between two offsets.
use Rattle.std.specs.Prelude.{◌≡◌, Bool, true, false, List, [], ◌∷◌, ◌++◌, ℕ, ◌+◌, ◌-◌, ◌≤◌, ◌<◌, length, get_or, take, drop, ltb, Some, None, Option}
use Rattle.graph.specs.Counting.{Below}
use Rattle.graph.specs.Arcs.{arcs_into}

-- one activity or none, as a list
abbrev pub linked : Option ℕ → List ℕ
linked (Some b) = b ∷ []
linked None = []

abbrev pub to_if : Bool → ℕ → Option ℕ
to_if true b = Some b
to_if false b = None

-- the activity that a link names; a number that is no activity stands for none
abbrev pub link_of : List ℕ → ℕ → Option ℕ
link_of links a = to_if (ltb (get_or links a 0) (length links)) (get_or links a 0)

-- the part of a list from one place up to another
abbrev pub between : ℕ → ℕ → List ℕ → List ℕ
between from to list = take (to - from) (drop from list)

-- .. from an activity's offset up to the next
abbrev pub part_of : List ℕ → List ℕ → ℕ → List ℕ
part_of at list a = between (get_or at a 0) (get_or at (a + 1) 0) list

-- whom an activity frees, in this order
abbrev pub succs_of : List ℕ → List ℕ → List ℕ → List ℕ → ℕ → List ℕ
succs_of line task at waiting a = linked (link_of line a) ++ (linked (link_of task a) ++ part_of at waiting a)

-- a link for each of n activities, and offsets that rise and end within the list
pub record Shaped (n : ℕ) (line task at waiting : List ℕ) : Type 0 where
  pub lined : length line ≡ n
  pub tasked : length task ≡ n
  pub bounded : n < length at
  pub rising : (a : ℕ) → a < n → get_or at a 0 ≤ get_or at (a + 1) 0
  pub within : get_or at n 0 ≤ length waiting

-- .. which name activities only, and counts that are right: as many as there are arcs into each
pub record Linked (n : ℕ) (line task at waiting counts : List ℕ) : Type 0 where
  pub shaped : Shaped n line task at waiting
  pub known : (a : ℕ) → a < n → Below n (part_of at waiting a)
  pub counted : length counts ≡ n
  pub right : (b : ℕ) → b < n → get_or counts b 0 ≡ arcs_into n (succs_of line task at waiting) b
