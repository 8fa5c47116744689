-- Document 01, "Timing and fitness": in the timing order each activity gets the earliest start that its bounds allow, by the ends of those
-- it waits for. The bounds are a rule, so that openings (L2) and held rows (L12) are other rules.
use Rattle.std.specs.Prelude.{List, [], ◌∷◌, ℕ, ◌+◌, ◌≤◌, ◌<◌, get_or, set, Some, None, Option}
use Rattle.graph.specs.Arcs.{Graph, Waits}

-- an activity and the ends of all give its earliest start
abbrev pub Rule : Type 0
Rule = ℕ → (ℕ → ℕ) → ℕ

-- the end of each activity, by its start in a list and its span
abbrev pub ends_of : (ℕ → ℕ) → List ℕ → ℕ → ℕ
ends_of span s p = get_or s p 0 + span p

-- an activity is placed at the earliest start that the rule allows
abbrev pub place : Rule → (ℕ → ℕ) → ℕ → List ℕ → List ℕ
place rule span a s = set s a (rule a (ends_of span s))

-- all of an order are placed, the first first
unfoldable pub timed : Rule → (ℕ → ℕ) → List ℕ → List ℕ → List ℕ
timed rule span [] s = s
timed rule span (a ∷ o) s = timed rule span o (place rule span a s)

-- a rule that looks only at the ends of those waited for, and rises with them
abbrev pub Monotone : Graph → Rule → Type 0
Monotone g rule = (a : ℕ) (f h : ℕ → ℕ) → a < g.n → ((p : ℕ) → Waits g p a → f p ≤ h p) → rule a f ≤ rule a h

-- starts S, for each activity below n, none earlier than the rule allows
abbrev pub Meets : ℕ → Rule → (ℕ → ℕ) → (ℕ → ℕ) → Type 0
Meets n rule span S = (a : ℕ) → a < n → rule a (λ p. S p + span p) ≤ S a

-- a held row keeps its start, whatever it waits for: a rule that looks at nothing
abbrev pub held_rule : (ℕ → Option ℕ) → Rule → Rule
held_rule held rule a f = elim (held a) [ None ↦ rule a f | Some s ↦ s ]
